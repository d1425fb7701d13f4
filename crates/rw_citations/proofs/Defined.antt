-- What a predicate of a well made library says: what its definition's body says of the arguments, by the definitions before it.
use Rattle.std.proofs.Common.{◌≡◌, ℕ, Bool, true, false, List, [], ◌∷◌, ◌++◌, map, reverse, Option, Some, None, refl, sym, ap, ◌∙◌, subst, true≢false, bytes_eq}
use Rattle.std.specs.Prelude.{is_some}
use Rattle.std.proofs.lemmas.List.{reverse-append, append-nil, append_assoc}
use Rattle.std.proofs.lemmas.Slice.Eq.{bytes_eq-Decides}
use Rattle.rw_terms.specs.State.{Value, value_in}
use Rattle.rw_terms.specs.Named.{Named}
use Rattle.rw_terms.specs.Truth.{predicates_of, holds_by, bound_to, Choice}
use Rattle.rw_goals.specs.declared.library.Definition.{Definition}
use Rattle.rw_goals.specs.declared.library.Item.{Item}
use Rattle.rw_goals.specs.declared.library.Item.TheVariants as item
use Rattle.rw_goals.specs.Library.{definitions_among, if_so, or_else, parameters_in, parameters_of}
use Rattle.rw_goals.specs.Sorting.{keeps_rules}
use Rattle.rw_citations.specs.Cited.{definition_of}
use Rattle.rw_citations.specs.WellMade.{IsMade, AreMade}

-- what the predicates say by the definitions among entries
abbrev pub by_entries : List Item → List ℕ → List Value → Type 0
by_entries es = predicates_of (reverse (definitions_among es))

-- what a definition's body says of arguments
abbrev pub body_says : List Item → Definition → List Value → Type 0
body_says before d vs =
    let s = value_in (bound_to (map (λ p. p.0) d.params) vs) in holds_by (by_entries before) s s s d.body []

among_append : (es fs : List Item) → definitions_among (es ++ fs) ≡ definitions_among es ++ definitions_among fs
among_append [] fs = refl
among_append (item.Definition d ∷ es) fs = ap (λ ds. record { name = d.name; parameters = map (λ p. p.0) d.params; body = d.body } ∷ ds) (among_append es fs)
among_append (item.Lemma l ∷ es) fs = among_append es fs

with_definition : (es : List Item) (d : Definition) → by_entries (es ++ item.Definition d ∷ []) ≡ predicates_of (record { name = d.name; parameters = map (λ p. p.0) d.params; body = d.body } ∷ reverse (definitions_among es))
with_definition es d = ap predicates_of (ap reverse (among_append es (item.Definition d ∷ [])) ∙ reverse-append (definitions_among es) _)

with_lemma : (es : List Item) (e : Item) → definitions_among (e ∷ []) ≡ [] → by_entries (es ++ e ∷ []) ≡ by_entries es
with_lemma es e n = ap (λ ds. predicates_of (reverse ds)) (among_append es (e ∷ []) ∙ ap (λ ds. definitions_among es ++ ds) n ∙ append-nil (definitions_among es))

or_first : {X : Type 0} (o p : Option X) → is_some o ≡ true → is_some (or_else o p) ≡ true
or_first None p e = absurd (true≢false (sym e))
or_first (Some x) p e = refl

-- a predicate that is defined among entries is defined with more
still_there : (es fs : List Item) (p : List ℕ) → is_some (parameters_of es p) ≡ true → is_some (parameters_of (es ++ fs) p) ≡ true
still_there [] fs p e = absurd (true≢false (sym e))
still_there (x ∷ es) fs p e = front (parameters_in x p) (still_there es fs p) e
  where
    front : (o : Option (List Named)) → (is_some (parameters_of es p) ≡ true → is_some (parameters_of (es ++ fs) p) ≡ true) →
        is_some (or_else o (parameters_of es p)) ≡ true → is_some (or_else o (parameters_of (es ++ fs) p)) ≡ true
    front None k e = k e
    front (Some ps) k e = refl

there_at_last : (es : List Item) (x : Item) (p : List ℕ) → is_some (parameters_in x p) ≡ true → is_some (parameters_of (es ++ x ∷ []) p) ≡ true
there_at_last [] x p e = or_first (parameters_in x p) None e
there_at_last (y ∷ es) x p e = front (parameters_in y p) (there_at_last es x p e)
  where
    front : (o : Option (List Named)) → is_some (parameters_of (es ++ x ∷ []) p) ≡ true → is_some (or_else o (parameters_of (es ++ x ∷ []) p)) ≡ true
    front None k = k
    front (Some ps) k = refl

-- a new predicate is none that is defined
not_new : (es : List Item) (n p : List ℕ) → parameters_of es n ≡ None → is_some (parameters_of es p) ≡ true → bytes_eq n p ≡ false
not_new es n p none some = differs (bytes_eq n p) refl
  where
    differs : (b : Bool) → bytes_eq n p ≡ b → b ≡ false
    differs true e = absurd (true≢false (sym (subst (λ x. is_some (parameters_of es x) ≡ true) (sym ((bytes_eq-Decides n p).0 e)) some) ∙ ap is_some none))
    differs false e = refl

-- where a predicate's definition stands
pub record Stands (entries : List Item) (p : List ℕ) (d : Definition) : Type 1 where
  pub before : List Item
  pub keeps : keeps_rules d.params before d.body [] ≡ true
  pub says : (vs : List Value) → by_entries entries p vs ≡ body_says before d vs
  pub rest : (q : List ℕ) → is_some (parameters_of before q) ≡ true → (vs : List Value) → by_entries entries q vs ≡ by_entries before q vs

module _ (all : List Item) where
  -- one more entry changes nothing of the predicates that are defined
  one_more : (before : List Item) (e : Item) → IsMade all before e → (p : List ℕ) → is_some (parameters_of before p) ≡ true → (vs : List Value) →
      by_entries (before ++ e ∷ []) p vs ≡ by_entries before p vs
  one_more before (item.Definition d) made p some vs =
      ap (λ says. says p vs) (with_definition before d)
      ∙ ap (λ b. Choice b (body_says before d vs) (by_entries before p vs)) (not_new before d.name p made.0 some)
  one_more before (item.Lemma l) made p some vs = ap (λ says. says p vs) (with_lemma before (item.Lemma l) refl)

  -- nor do many
  pub many_more : (before es : List Item) → AreMade all before es → (p : List ℕ) → is_some (parameters_of before p) ≡ true → (vs : List Value) →
      by_entries (before ++ es) p vs ≡ by_entries before p vs
  many_more before [] made p some vs = ap (λ l. by_entries l p vs) (append-nil before)
  many_more before (e ∷ es) made p some vs =
      ap (λ l. by_entries l p vs) (sym (append_assoc before (e ∷ []) es))
      ∙ many_more (before ++ e ∷ []) es made.1 p (still_there before (e ∷ []) p some) vs
      ∙ one_more before e made.0 p some vs

  moved : (l m : List Item) (p : List ℕ) (d : Definition) → l ≡ m → Stands l p d → Stands m p d
  moved l m p d e s = subst (λ es. Stands es p d) e s

  in_front : (before es : List Item) (c : Definition) → AreMade all before (item.Definition c ∷ es) → (p : List ℕ) (d : Definition) (b : Bool) → bytes_eq c.name p ≡ b →
      or_else (if_so b c) (definition_of es p) ≡ Some d →
      ((definition_of es p ≡ Some d) → Stands ((before ++ item.Definition c ∷ []) ++ es) p d) → Stands (before ++ item.Definition c ∷ es) p d
  in_front before es c made p d false is e behind = moved _ _ p d (append_assoc before (item.Definition c ∷ []) es) (behind e)
  in_front before es c made p d true is e behind =
      let same : c ≡ d = cc in
      let defined : is_some (parameters_of (before ++ item.Definition c ∷ []) p) ≡ true = there_at_last before (item.Definition c) p (ap (λ b. is_some (if_so b c.params)) is) in
      subst (λ d. Stands (before ++ item.Definition c ∷ es) p d) same (record {
        before = before;
        keeps = made.0.1;
        says =
            λ vs.
            ap (λ l. by_entries l p vs) (sym (append_assoc before (item.Definition c ∷ []) es))
            ∙ many_more (before ++ item.Definition c ∷ []) es made.1 p defined vs
            ∙ ap (λ says. says p vs) (with_definition before c)
            ∙ ap (λ b. Choice b (body_says before c vs) (by_entries before p vs)) is;
        rest = λ q some vs. many_more before (item.Definition c ∷ es) made q some vs;
      })

  pub stands : (before es : List Item) → AreMade all before es → (p : List ℕ) (d : Definition) → definition_of es p ≡ Some d → Stands (before ++ es) p d
  stands before [] made p d e = absurd (cc)
  stands before (item.Definition c ∷ es) made p d e = in_front before es c made p d (bytes_eq c.name p) refl e (stands (before ++ item.Definition c ∷ []) es made.1 p d)
  stands before (item.Lemma l ∷ es) made p d e = moved _ _ p d (append_assoc before (item.Lemma l ∷ []) es) (stands (before ++ item.Lemma l ∷ []) es made.1 p d e)
