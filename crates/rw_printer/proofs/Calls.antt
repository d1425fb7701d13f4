-- How a call is laid out.
use Rattle.std.proofs.Common.{◌≡◌, ℕ, ◌+◌, ◌<◌, List, [], ◌∷◌, ◌++◌, length, get_or, drop, sym, ap, ◌∙◌, map, arith, append_assoc, append-nil, false, true≢false}
use Rattle.std.specs.Prelude.{codes, ◌==◌}
use Rattle.std.proofs.lemmas.List.{drop_more}
use Rattle.rw_terms.specs.declared.term.Term.{Term}
use Rattle.rw_syntax.specs.Grammar.{Tree, Trees, none, more}
use Rattle.rw_printer.specs.Trees.{wrap, call_onto, application, term_tree, argument_trees}
use Rattle.rw_printer.specs.Layout.{laid, laid_each, listed}

-- a term with those behind it
abbrev rest_of : List ℕ → List Tree → List ℕ
rest_of t ts = t ++ listed (codes ", ") (codes ", ") (map laid ts)

regrouped : (h a b c d e f : List ℕ) → h ++ (a ++ b ++ c) ++ (d ++ e) ++ f ≡ h ++ a ++ (b ++ (c ++ d ++ e)) ++ f
regrouped h a b c d e f = simp append_assoc

onto_laid : (w : List ℕ) (us : Trees) (t : Tree) (ts : List Tree) → laid (call_onto w us t ts) ≡ w ++ codes "(" ++ laid_each us ++ rest_of (laid t) ts ++ codes ")"
onto_laid w us t [] = ap (λ x. w ++ codes "(" ++ laid_each us ++ x ++ codes ")") (sym (append-nil (laid t)))
onto_laid w us t (u ∷ ts) = onto_laid w (more us t) u ts ∙ regrouped (w ++ codes "(") (laid_each us) (laid t) (codes ", ") (laid u) (listed (codes ", ") (codes ", ") (map laid ts)) (codes ")")

pub application_laid : (w : List ℕ) (args : List Term) (d : ℕ) → 0 < length args → laid (application w (argument_trees args d)) ≡ w ++ codes "(" ++ listed (codes ", ") [] (map laid (argument_trees args d)) ++ codes ")"
application_laid w [] d h = absurd (omega arith)
application_laid w (a ∷ args) d h =
    let t = wrap 6 (term_tree a d) in
    let ts = argument_trees args d in
    onto_laid w none t ts ∙ ap (λ x. x ++ rest_of (laid t) ts ++ codes ")") (append-nil (w ++ codes "("))

-- what is written of a call, piece by piece
pub call_written :
    (old w : List ℕ) (args : List Term) (d : ℕ) (named opened inside shut : List ℕ) → (length args == 0) ≡ false
    → named ≡ old ++ w → opened ≡ named ++ codes "(" → inside ≡ opened ++ listed (codes ", ") [] (map laid (argument_trees args d)) → shut ≡ inside ++ codes ")"
    → shut ≡ old ++ laid (application w (argument_trees args d))
call_written old w [] d named opened inside shut h a b c e = absurd (true≢false h)
call_written old w (x ∷ xs) d named opened inside shut h a b c e =
    e ∙ ap (λ y. y ++ codes ")") (c ∙ ap (λ y. y ++ l) (b ∙ ap (λ y. y ++ codes "(") a)) ∙ grouped old w (codes "(") l (codes ")") ∙ ap (λ y. old ++ y) (sym (application_laid w (x ∷ xs) d (omega arith)))
  where
    l : List ℕ
    l = listed (codes ", ") [] (map laid (argument_trees (x ∷ xs) d))

    grouped : (o a b c e : List ℕ) → o ++ a ++ b ++ c ++ e ≡ o ++ (a ++ b ++ c ++ e)
    grouped o a b c e = simp append_assoc

-- one more of a list
listed_more : (separator before : List ℕ) (xs : List (List ℕ)) (i : ℕ) (x : List ℕ) → i < length xs → x ≡ get_or xs i x → listed separator before (drop i xs) ≡ before ++ x ++ listed separator separator (drop (i + 1) xs)
listed_more separator before xs i x h e = ap (listed separator before) (drop_more xs i x h) ∙ ap (λ y. before ++ y ++ listed separator separator (drop (i + 1) xs)) (sym e)

-- what is written of a list, one more
pub more_written :
    (separator before whole old : List ℕ) (xs : List (List ℕ)) (i : ℕ) (x : List ℕ) (one two : List ℕ) → i < length xs → x ≡ get_or xs i x
    → one ≡ old ++ before → two ≡ one ++ x → old ++ listed separator before (drop i xs) ≡ whole
    → two ++ listed separator separator (drop (i + 1) xs) ≡ whole
more_written separator before whole old xs i x one two h e a b inv =
    ap (λ y. y ++ l) (b ∙ ap (λ y. y ++ x) a) ∙ grouped old before x l ∙ ap (λ y. old ++ y) (sym (listed_more separator before xs i x h e)) ∙ inv
  where
    l : List ℕ
    l = listed separator separator (drop (i + 1) xs)

    grouped : (o a b c : List ℕ) → o ++ a ++ b ++ c ≡ o ++ (a ++ b ++ c)
    grouped o a b c = simp append_assoc

-- what is written of a list of values, one more
pub value_written :
    {A : Type 0} (separator before whole old : List ℕ) (f : A → List ℕ) (xs : List A) (i : ℕ) (d : A) (one two : List ℕ) → i < length xs → one ≡ old ++ before → two ≡ one ++ f (get_or xs i d) → old ++ listed separator before (map f (drop i xs)) ≡ whole
    → two ++ listed separator separator (map f (drop (i + 1) xs)) ≡ whole
value_written separator before whole old f xs i d one two h a b inv =
    ap (λ y. y ++ l) (b ∙ ap (λ y. y ++ f (get_or xs i d)) a) ∙ grouped old before (f (get_or xs i d)) l ∙ ap (λ y. old ++ y) (sym (ap (λ y. listed separator before (map f y)) (drop_more xs i d h))) ∙ inv
  where
    l : List ℕ
    l = listed separator separator (map f (drop (i + 1) xs))

    grouped : (o a b c : List ℕ) → o ++ a ++ b ++ c ≡ o ++ (a ++ b ++ c)
    grouped o a b c = simp append_assoc
