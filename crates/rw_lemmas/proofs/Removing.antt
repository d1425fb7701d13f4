-- What is taken out of the table and that no other entry names leaves the others with their statuses.
use Rattle.std.proofs.Common.{◌≡◌, ℕ, zero, suc, ◌+◌, ◌<◌, ◌≤◌, Bool, true, false, not, ◌&&◌, if◌then◌else◌, List, [], ◌∷◌, take, remove, Option, Some, None, refl, sym, ap, ◌∙◌, subst, arith, true≢false, bytes_eq, nat_eq}
use Rattle.std.specs.Prelude.{is_some, slice_get}
use Rattle.std.specs.List.{list_any}
use Rattle.std.specs.Option.{option_and_then, option_map}
use Rattle.std.proofs.lemmas.Slice.Eq.{bytes_eq-Decides}
use Rattle.std.proofs.lemmas.Bool.{eqb-true, or_parts}
use Rattle.rw_terms.specs.declared.term.Formula.{Formula}
use Rattle.rw_terms.specs.Validity.{Each}
use Rattle.rw_goals.specs.declared.library.Definition.{Definition}
use Rattle.rw_goals.specs.declared.library.Lemma.{Lemma}
use Rattle.rw_goals.specs.declared.library.Item.{Item}
use Rattle.rw_goals.specs.declared.library.Item.TheVariants as item
use Rattle.rw_goals.specs.declared.library.Library.{Library}
use Rattle.rw_goals.specs.Library.{if_so, or_else, parameters_in, parameters_of}
use Rattle.rw_citations.specs.Cited.{definition_in, definition_of, lemma_in, lemma_of}
use Rattle.rw_citations.specs.Goal.{goal_of}
use Rattle.rw_sequents.specs.declared.line.CertLine.{CertLine}
use Rattle.rw_sequents.specs.declared.line.CertLine.TheVariants as line
use Rattle.rw_sequents.specs.declared.line.Cert.{Cert}
use Rattle.rw_sequents.proofs.Table as found
use Rattle.rw_library.specs.Entries.{entry_name, sorts_of}
use Rattle.rw_library.specs.Naming.{applies, item_names, line_names}
use Rattle.rw_lemmas.specs.Citing.{predicates}
use Rattle.rw_lemmas.specs.States.{by_verdict, proof_at, status_at, statuses_from}
use Rattle.rw_lemmas.specs.Refusals.{proof_names, uses, user_from}
use Rattle.rw_lemmas.proofs.Predicates.{seen_predicates}
use Rattle.rw_lemmas.proofs.Within.{Within}
use Rattle.rw_lemmas.proofs.Lines.{Closed, LemmaWithin, LineWithin}
use Rattle.rw_lemmas.proofs.Rules.{rules_alike}
use Rattle.rw_lemmas.proofs.Kept.{SameDefinitions, SameLine, verdict_stays}

pub remove_nil : {X : Type 0} (p : ℕ) → remove {X = X} [] p ≡ []
remove_nil zero = refl
remove_nil (suc p) = refl

-- lists without one
pub kept_before : {X : Type 0} (xs : List X) (p i : ℕ) → i < p → slice_get (remove xs p) i ≡ slice_get xs i
kept_before [] p i h = ap (λ l. slice_get l i) (remove_nil p)
kept_before (x ∷ xs) zero i h = absurd (omega (arith, h))
kept_before (x ∷ xs) (suc p) zero h = refl
kept_before (x ∷ xs) (suc p) (suc i) h = kept_before xs p i (omega arith)

pub kept_behind : {X : Type 0} (xs : List X) (p i : ℕ) → p ≤ i → slice_get (remove xs p) i ≡ slice_get xs (suc i)
kept_behind [] p i h = ap (λ l. slice_get l i) (remove_nil p)
kept_behind (x ∷ xs) zero i h = refl
kept_behind (x ∷ xs) (suc p) zero h = absurd (omega (arith, h))
kept_behind (x ∷ xs) (suc p) (suc i) h = kept_behind xs p i (omega arith)

front_before : {X : Type 0} (xs : List X) (p i : ℕ) → i ≤ p → take i (remove xs p) ≡ take i xs
front_before xs p zero h = refl
front_before [] p (suc i) h = ap (take (suc i)) (remove_nil p)
front_before (x ∷ xs) zero (suc i) h = absurd (omega (arith, h))
front_before (x ∷ xs) (suc p) (suc i) h = ap (λ l. x ∷ l) (front_before xs p i (omega arith))

front_behind : {X : Type 0} (xs : List X) (p i : ℕ) → p ≤ i → take i (remove xs p) ≡ remove (take (suc i) xs) p
front_behind [] p zero h = sym (remove_nil p)
front_behind [] p (suc i) h = ap (take (suc i)) (remove_nil p) ∙ sym (remove_nil p)
front_behind (x ∷ xs) zero i h = refl
front_behind (x ∷ xs) (suc p) zero h = absurd (omega (arith, h))
front_behind (x ∷ xs) (suc p) (suc i) h = ap (λ l. x ∷ l) (front_behind xs p i (omega arith))

taken_at : {X : Type 0} (xs : List X) (p k : ℕ) → p < k → slice_get (take k xs) p ≡ slice_get xs p
taken_at xs p zero h = absurd (omega (arith, h))
taken_at [] p (suc k) h = refl
taken_at (x ∷ xs) zero (suc k) h = refl
taken_at (x ∷ xs) (suc p) (suc k) h = taken_at xs p k (omega arith)

or_none : {X : Type 0} (o p : Option X) → o ≡ None → p ≡ or_else o p
or_none None p e = refl
or_none (Some x) p e = absurd (cc)

not_so : {X : Type 0} (b : Bool) (x : X) → b ≡ false → if_so b x ≡ None
not_so false x e = refl
not_so true x e = absurd (true≢false e)

module _ (x : List ℕ) where
  -- another name
  abbrev Other : List ℕ → Type 0
  Other p = bytes_eq p x ≡ false

  differs : (n m : List ℕ) → n ≡ x → Other m → bytes_eq n m ≡ false
  differs n m e o = by (bytes_eq n m) refl
    where
      by : (b : Bool) → bytes_eq n m ≡ b → b ≡ false
      by true is = absurd (true≢false (sym ((bytes_eq-Decides m x).1 (sym ((bytes_eq-Decides n m).0 is) ∙ e)) ∙ o))
      by false is = refl

  lemma_skipped : (es : List Item) (p : ℕ) (e : Item) (n : List ℕ) → slice_get es p ≡ Some e → lemma_in e n ≡ None → lemma_of (remove es p) n ≡ lemma_of es n
  lemma_skipped [] p e n h k = ap (λ l. lemma_of l n) (remove_nil p)
  lemma_skipped (d ∷ es) zero e n h k = let same : d ≡ e = cc in or_none (lemma_in d n) (lemma_of es n) (ap (λ i. lemma_in i n) same ∙ k)
  lemma_skipped (d ∷ es) (suc p) e n h k = ap (or_else (lemma_in d n)) (lemma_skipped es p e n h k)

  definition_skipped : (es : List Item) (p : ℕ) (e : Item) (n : List ℕ) → slice_get es p ≡ Some e → definition_in e n ≡ None → definition_of (remove es p) n ≡ definition_of es n
  definition_skipped [] p e n h k = ap (λ l. definition_of l n) (remove_nil p)
  definition_skipped (d ∷ es) zero e n h k = let same : d ≡ e = cc in or_none (definition_in d n) (definition_of es n) (ap (λ i. definition_in i n) same ∙ k)
  definition_skipped (d ∷ es) (suc p) e n h k = ap (or_else (definition_in d n)) (definition_skipped es p e n h k)

  parameters_skipped : (es : List Item) (p : ℕ) (e : Item) (n : List ℕ) → slice_get es p ≡ Some e → parameters_in e n ≡ None → parameters_of (remove es p) n ≡ parameters_of es n
  parameters_skipped [] p e n h k = ap (λ l. parameters_of l n) (remove_nil p)
  parameters_skipped (d ∷ es) zero e n h k = let same : d ≡ e = cc in or_none (parameters_in d n) (parameters_of es n) (ap (λ i. parameters_in i n) same ∙ k)
  parameters_skipped (d ∷ es) (suc p) e n h k = ap (or_else (parameters_in d n)) (parameters_skipped es p e n h k)

  no_lemma : (e : Item) (n : List ℕ) → entry_name e ≡ x → Other n → lemma_in e n ≡ None
  no_lemma (item.Definition d) n e o = refl
  no_lemma (item.Lemma l) n e o = not_so _ l (differs l.name n e o)

  no_definition : (e : Item) (n : List ℕ) → entry_name e ≡ x → Other n → definition_in e n ≡ None
  no_definition (item.Definition d) n e o = not_so _ d (differs d.name n e o)
  no_definition (item.Lemma l) n e o = refl

  no_parameters : (e : Item) (n : List ℕ) → entry_name e ≡ x → Other n → parameters_in e n ≡ None
  no_parameters (item.Definition d) n e o = not_so _ d.params (differs d.name n e o)
  no_parameters (item.Lemma l) n e o = refl

  -- formulas that do not apply the name
  pub others : (ps : List (List ℕ)) → list_any (λ p. bytes_eq p x) ps ≡ false → Each Other ps
  others [] e = tt
  others (p ∷ ps) e = let r = or_parts (bytes_eq p x) _ e in (r.0, others ps r.1)

  pub within : (f : Formula) → applies x f ≡ false → Within Other f
  within f e = others (predicates f) (sym (seen_predicates x f) ∙ e)

  all_within : (fs : List Formula) → list_any (applies x) fs ≡ false → Each (Within Other) fs
  all_within [] e = tt
  all_within (f ∷ fs) e = let r = or_parts (applies x f) _ e in (within f r.0, all_within fs r.1)

  lemma_within : (l : Lemma) → item_names x (item.Lemma l) ≡ false → LemmaWithin Other (Some l)
  lemma_within l e = let r = or_parts (list_any (applies x) l.sequent.left) _ e in (all_within l.sequent.left r.0, all_within l.sequent.right r.1)

  -- an entry and its certificate do not name it
  abbrev NotNamed : List (Option Cert) → ℕ → Item → Type 0
  NotNamed ps i e = (item_names x e ≡ false) × (proof_names x (proof_at ps i) ≡ false)

  module _ (es : List Item) (ps : List (Option Cert)) (p : ℕ) (e : Item) (there : slice_get es p ≡ Some e) (named : entry_name e ≡ x)
      (unused : (i : ℕ) (d : Item) → slice_get es i ≡ Some d → ¬ (i ≡ p) → NotNamed ps i d) where
    abbrev library : Library
    library = record { entries = es }

    abbrev library' : Library
    library' = record { entries = remove es p }

    same_definitions : (before before' : ℕ) → SameDefinitions Other library library' before before'
    same_definitions before before' n o = sym (definition_skipped es p e n there (no_definition e n named o))

    -- where a definition that is found stands
    definition_at : (ds : List Item) (n : List ℕ) (d : Definition) → definition_of ds n ≡ Some d → (i : ℕ) × (slice_get ds i ≡ Some (item.Definition d)) × (d.name ≡ n)
    definition_at [] n d h = absurd (cc)
    definition_at (item.Lemma l ∷ ds) n d h = let r = definition_at ds n d h in (suc r.0, r.1, r.2)
    definition_at (item.Definition c ∷ ds) n d h = first (bytes_eq c.name n) refl h (definition_at ds n d)
      where
        first : (b : Bool) → bytes_eq c.name n ≡ b → or_else (if_so b c) (definition_of ds n) ≡ Some d →
            (definition_of ds n ≡ Some d → (i : ℕ) × (slice_get ds i ≡ Some (item.Definition d)) × (d.name ≡ n)) →
            (i : ℕ) × (slice_get (item.Definition c ∷ ds) i ≡ Some (item.Definition d)) × (d.name ≡ n)
        first true is h ih = let same : c ≡ d = cc in (zero, ap (λ c. Some (item.Definition c)) same, ap (λ c. c.name) (sym same) ∙ (bytes_eq-Decides c.name n).0 is)
        first false is h ih = let r = ih h in (suc r.0, r.1, r.2)

    not_here : (i : ℕ) (d : Item) → slice_get es i ≡ Some d → Other (entry_name d) → ¬ (i ≡ p)
    not_here i d at o is =
        let one : Some d ≡ Some e = sym at ∙ ap (slice_get es) is ∙ there in
        let same : d ≡ e = cc in true≢false (sym ((bytes_eq-Decides (entry_name d) x).1 (ap entry_name same ∙ named)) ∙ o)

    closed : Closed Other es
    closed n d o h =
        let r = definition_at es n d h in
        within d.body (unused r.0 (item.Definition d) r.1 (not_here r.0 (item.Definition d) r.1 (subst Other (sym r.2) o))).0

    found_within : (k : ℕ) (n : List ℕ) → Other n → (o : Option Lemma) → lemma_of (take k es) n ≡ o → LemmaWithin Other o
    found_within k n o None h = tt
    found_within k n o (Some l) h =
        let s = found.stands es k n l h in
        lemma_within l (unused s.place (item.Lemma l) s.there (not_here s.place (item.Lemma l) s.there (subst Other (sym s.named) o))).0

    module _ (before before' : ℕ) (citable : (n : List ℕ) → Other n → lemma_of (take before es) n ≡ lemma_of (take before' (remove es p)) n) where
      line_same : (l : CertLine) → line_names x l ≡ false → SameLine Other library library' before before' l
      line_same (line.Cut f) h = λ names. rules_alike names es (remove es p) f
          (alike (predicates f) (within f h)) []
        where
          alike : (qs : List (List ℕ)) → Each Other qs → Each (λ q. option_map sorts_of (parameters_of es q) ≡ option_map sorts_of (parameters_of (remove es p) q)) qs
          alike [] k = tt
          alike (q ∷ qs) k = (ap (option_map sorts_of) (sym (parameters_skipped es p e q there (no_parameters e q named k.0))), alike qs k.1)
      line_same (line.UnfoldL i) h = same_definitions before before'
      line_same (line.UnfoldR j) h = same_definitions before before'
      line_same (line.Lemma n ts) h = (citable n h, ap is_some (sym (lemma_skipped es p e n there (no_lemma e n named h))))
      line_same _ h = tt

      line_in : (l : CertLine) → line_names x l ≡ false → LineWithin Other library before closed l
      line_in (line.Cut f) h = within f h
      line_in (line.Lemma n ts) h = found_within before n h (lemma_of (take before es) n) refl
      line_in _ h = tt

      each_same : (ls : List CertLine) → list_any (line_names x) ls ≡ false → Each (SameLine Other library library' before before') ls
      each_same [] h = tt
      each_same (l ∷ ls) h = let r = or_parts (line_names x l) _ h in (line_same l r.0, each_same ls r.1)

      each_in : (ls : List CertLine) → list_any (line_names x) ls ≡ false → Each (LineWithin Other library before closed) ls
      each_in [] h = tt
      each_in (l ∷ ls) h = let r = or_parts (line_names x l) _ h in (line_in l r.0, each_in ls r.1)

      status_same : (d : Item) (o : Option Cert) → item_names x d ≡ false → proof_names x o ≡ false → status_at library before d o ≡ status_at library' before' d o
      status_same (item.Definition d) o h k = refl
      status_same (item.Lemma l) None h k = refl
      status_same (item.Lemma l) (Some cert) h k =
          ap by_verdict (verdict_stays Other library library' before before' closed (goal_of l) cert (lemma_within l h) (each_same cert.lines k) (each_in cert.lines k))

    citable_before : (i : ℕ) → i ≤ p → (n : List ℕ) → Other n → lemma_of (take i es) n ≡ lemma_of (take i (remove es p)) n
    citable_before i h n o = ap (λ ds. lemma_of ds n) (sym (front_before es p i h))

    citable_behind : (i : ℕ) → p ≤ i → (n : List ℕ) → Other n → lemma_of (take (suc i) es) n ≡ lemma_of (take i (remove es p)) n
    citable_behind i h n o =
        sym (lemma_skipped (take (suc i) es) p e n (taken_at es p (suc i) (omega arith) ∙ there) (no_lemma e n named o)) ∙ ap (λ ds. lemma_of ds n) (sym (front_behind es p i h))

    abbrev proofs' : List (Option Cert)
    proofs' = remove ps p

    status_before : (i : ℕ) (d : Item) → slice_get es i ≡ Some d → i < p → status_at library i d (proof_at ps i) ≡ status_at library' i d (proof_at proofs' i)
    status_before i d at h =
        let u = unused i d at (λ is. omega (arith, h, is)) in
        status_same i i (citable_before i (omega arith)) d (proof_at ps i) u.0 u.1
        ∙ ap (λ o. status_at library' i d (option_and_then (λ o. o) o)) (sym (kept_before ps p i h))

    status_behind : (i : ℕ) (d : Item) → slice_get es (suc i) ≡ Some d → p ≤ i → status_at library (suc i) d (proof_at ps (suc i)) ≡ status_at library' i d (proof_at proofs' i)
    status_behind i d at h =
        let u = unused (suc i) d at (λ is. omega (arith, h, is)) in
        status_same (suc i) i (citable_behind i h) d (proof_at ps (suc i)) u.0 u.1
        ∙ ap (λ o. status_at library' i d (option_and_then (λ o. o) o)) (sym (kept_behind ps p i h))

    -- the entries behind
    shifted : (k : ℕ) (ds : List Item) → p ≤ k → ((i : ℕ) → slice_get ds i ≡ slice_get es (suc k + i)) → statuses_from library ps (suc k) ds ≡ statuses_from library' proofs' k ds
    shifted k [] h at = refl
    shifted k (d ∷ ds) h at =
        let s : suc k + 0 ≡ suc k = omega arith in
        let here = status_behind k d (sym (ap (slice_get es) s) ∙ sym (at 0)) h in
        let one : suc k + 1 ≡ suc (k + 1) = omega arith in
        λ i. here i ∷ ((ap (λ j. statuses_from library ps j ds) one ∙ shifted (k + 1) ds (omega arith) (λ j. at (suc j) ∙ ap (slice_get es) (omega arith))) i)

    from : (k j : ℕ) (ds : List Item) → k + j ≡ p → ((i : ℕ) → slice_get ds i ≡ slice_get es (k + i)) → remove (statuses_from library ps k ds) j ≡ statuses_from library' proofs' k (remove ds j)
    from k j [] is at = remove_nil j ∙ sym (ap (statuses_from library' proofs' k) (remove_nil j))
    from k zero (d ∷ ds) is at =
        let one : k + 1 ≡ suc k = omega arith in
        ap (λ j. statuses_from library ps j ds) one ∙ shifted k ds (omega (arith, is)) (λ i. at (suc i) ∙ ap (slice_get es) (omega arith))
    from k (suc j) (d ∷ ds) is at =
        let s : k + 0 ≡ k = omega arith in
        let here = status_before k d (sym (ap (slice_get es) s) ∙ sym (at 0)) (omega (arith, is)) in
        let rest = from (k + 1) j ds (omega (arith, is)) (λ i. at (suc i) ∙ ap (slice_get es) (omega arith)) in
        λ i. here i ∷ rest i

    pub statuses_removed : remove (statuses_from library ps 0 es) p ≡ statuses_from library' proofs' 0 (remove es p)
    statuses_removed = from 0 p es (omega arith) (λ i. ap (slice_get es) (omega arith))

behind : {k p : ℕ} (b : Bool) → nat_eq k p ≡ b → (u : Bool) → ¬ (k ≡ p) → (not b && u) ≡ false → u ≡ false
behind true is u n e = absurd (n (eqb-true _ _ is))
behind false is u n e = e

-- no entry but that in a place is a user
pub unused : (x : List ℕ) (p : ℕ) (ps : List (Option Cert)) (k : ℕ) (es : List Item) → user_from x p ps k es ≡ None → (i : ℕ) (d : Item) → slice_get es i ≡ Some d → ¬ (k + i ≡ p) →
    (item_names x d ≡ false) × (proof_names x (proof_at ps (k + i)) ≡ false)
unused x p ps k [] e i d h n = absurd (cc)
unused x p ps k (c ∷ es) e i d h n = go (not (nat_eq k p) && uses x c (proof_at ps k)) refl (unused x p ps (k + 1) es) e i h n
  where
    go : (b : Bool) → (not (nat_eq k p) && uses x c (proof_at ps k)) ≡ b →
        (user_from x p ps (k + 1) es ≡ None → (i : ℕ) (d : Item) → slice_get es i ≡ Some d → ¬ (k + 1 + i ≡ p) → (item_names x d ≡ false) × (proof_names x (proof_at ps (k + 1 + i)) ≡ false)) →
        (if b then Some (entry_name c) else user_from x p ps (k + 1) es) ≡ None → (i : ℕ) → slice_get (c ∷ es) i ≡ Some d → ¬ (k + i ≡ p) →
        (item_names x d ≡ false) × (proof_names x (proof_at ps (k + i)) ≡ false)
    go true is ih e i h n = absurd (cc)
    go false is ih e zero h n =
        let same : c ≡ d = cc in
        let here : k + 0 ≡ k = omega arith in
        let u = or_parts (item_names x c) _ (behind (nat_eq k p) refl _ (λ q. n (here ∙ q)) is) in
        (ap (item_names x) (sym same) ∙ u.0, ap (λ j. proof_names x (proof_at ps j)) here ∙ u.1)
    go false is ih e (suc i) h n =
        let one : k + 1 + i ≡ k + suc i = omega arith in
        let u = ih e i d h (λ q. n (sym one ∙ q)) in
        (u.0, ap (λ j. proof_names x (proof_at ps j)) (sym one) ∙ u.1)
