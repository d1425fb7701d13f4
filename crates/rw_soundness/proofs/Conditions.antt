-- The conditions of a term that keeps the rules of sorts keep them, and have no other initial variables.
use Rattle.std.proofs.Common.{◌≡◌, ℕ, pos, Bool, true, false, ◌||◌, is_some, List, [], ◌∷◌, ◌++◌, Option, Some, refl, sym, ap, ◌∙◌, subst}
use Rattle.std.proofs.lemmas.Bool.{and_from, or_from, or_parts}
use Rattle.rw_terms.specs.declared.scope.Entry.{Entry}
use Rattle.rw_terms.specs.declared.scope.Head.{Head}
use Rattle.rw_terms.specs.declared.term.Sort.{Sort}
use Rattle.rw_terms.specs.declared.term.Sort.TheVariants.{Int, Array}
use Rattle.rw_terms.specs.declared.term.Term.{Term}
use Rattle.rw_terms.specs.declared.term.Term.TheVariants as v
use Rattle.rw_terms.specs.declared.term.Term.TheOpen.{Term-F}
use Rattle.rw_terms.specs.declared.term.Term.TheViews.{roll-Term}
use Rattle.rw_terms.specs.declared.term.Term.TheFolds.{map-Term, ind-Term, fold-roll-Term}
use Rattle.rw_terms.specs.declared.term.Formula.{Formula}
use Rattle.rw_terms.specs.declared.term.Formula.TheVariants as formula
use Rattle.rw_terms.specs.declared.term.Formula.TheOpen.{Formula-F}
use Rattle.rw_terms.specs.declared.term.Formula.TheViews.{roll-Formula}
use Rattle.rw_terms.specs.declared.term.Formula.TheFolds.{map-Formula, fold-roll-Formula}
use Rattle.rw_terms.specs.Sorts.{sort_report}
use Rattle.rw_terms.specs.Rules.{of_ints, may_equal_of, sort_step, sort_in, keeps_step, keeps_rules}
use Rattle.rw_terms.specs.Validity.{Each}
use Rattle.rw_faults.specs.Initial.{outside_step, term_outside, terms_outside, formula_outside_step, initial_outside}
use Rattle.rw_subst.specs.Conj.{conj_with, conj}
use Rattle.rw_subst.specs.Definedness.{array_length, nonzero, not_negative, below, in_range, conditions_step, conditions, conditions_of, definedness_of}
use Rattle.rw_subst.proofs.Asking.{paired, asks_layer}
use Rattle.rw_subst.proofs.Defining.{each_append}
use Rattle.rw_subst.proofs.WellSorted.{int_part, int_parts, read_parts, put_parts}

module _ (scope : List Entry) (heads : List Head) (names : List (List ℕ)) where
  -- a formula that keeps the rules, with no initial variable but these
  abbrev pub IsFine : Formula → Type 0
  IsFine f = (keeps_rules scope heads f [] ≡ true) × (initial_outside names f ≡ false)

  abbrev keeps_now : Formula-F Formula → Bool
  keeps_now z = keeps_step scope heads (map-Formula Formula (List Sort → Bool) (keeps_rules scope heads) z) []

  abbrev out_now : Formula-F Formula → Bool
  out_now z = formula_outside_step names (map-Formula Formula Bool (initial_outside names) z)

  pub fine : (z : Formula-F Formula) (f : Formula) → roll-Formula z ≡ f → keeps_now z ≡ true → out_now z ≡ false → IsFine f
  fine z f e kept out = (
    ap (λ g. keeps_rules scope heads g []) (sym e) ∙ ((λ i. fold-roll-Formula (List Sort → Bool) (keeps_step scope heads) z i []) ∙ kept),
    ap (initial_outside names) (sym e) ∙ (fold-roll-Formula Bool (formula_outside_step names) z ∙ out),
  )

  pub and_fine : (f g : Formula) → IsFine f → IsFine g → IsFine (formula.And f g)
  and_fine f g a b = fine (Formula-F.And f g) (formula.And f g) (formula.rolls-And f g) (and_from _ _ a.0 b.0) (or_from _ _ a.1 b.1)

  pub conj_with_fine : (f : Formula) (fs : List Formula) → IsFine f → Each IsFine fs → IsFine (conj_with f fs)
  conj_with_fine f [] a h = a
  conj_with_fine f (g ∷ gs) a h = conj_with_fine (formula.And f g) gs (and_fine f g a h.0) h.1

  pub conj_fine : (fs : List Formula) → Each IsFine fs → IsFine (conj fs)
  conj_fine [] h = fine Formula-F.True formula.True formula.rolls-True refl refl
  conj_fine (f ∷ fs) h = conj_with_fine f fs h.0 h.1

  lit_sort : (n : ℕ) → sort_in scope [] (v.Lit (pos n)) ≡ Some Int
  lit_sort n = ap (sort_in scope []) (sym (v.rolls-Lit (pos n))) ∙ fold-roll-Term (Option Sort) (sort_step scope []) (Term-F.Lit (pos n))

  lit_out : (n : ℕ) → term_outside names (v.Lit (pos n)) ≡ false
  lit_out n = ap (term_outside names) (sym (v.rolls-Lit (pos n))) ∙ fold-roll-Term Bool (outside_step names) (Term-F.Lit (pos n))

  nonzero_fine : (t : Term) → sort_in scope [] t ≡ Some Int → term_outside names t ≡ false → Each IsFine (nonzero t ∷ [])
  nonzero_fine t sort out =
      let equation = fine (Formula-F.Eq t (v.Lit (pos 0))) (formula.Eq t (v.Lit (pos 0))) (formula.rolls-Eq t (v.Lit (pos 0))) ((λ i. may_equal_of (sort i) (lit_sort 0 i))) (or_from _ _ out (lit_out 0)) in
      (fine (Formula-F.Not (formula.Eq t (v.Lit (pos 0)))) (nonzero t) (formula.rolls-Not (formula.Eq t (v.Lit (pos 0)))) equation.0 equation.1, tt)

  range_fine : (a t : Term) → sort_in scope [] t ≡ Some Int → term_outside names t ≡ false → Each IsFine (in_range scope a t)
  range_fine a t sort out =
      let n = array_length (sort_report scope [] a).sort in (
        fine (Formula-F.AtMost (v.Lit (pos 0)) t) (not_negative t) (formula.rolls-AtMost (v.Lit (pos 0)) t) (λ i. is_some (of_ints (lit_sort 0 i) (sort i))) (or_from _ _ (lit_out 0) out),
        (fine (Formula-F.Less t (v.Lit (pos n))) (below t n) (formula.rolls-Less t (v.Lit (pos n))) (λ i. is_some (of_ints (sort i) (lit_sort n i))) (or_from _ _ out (lit_out n)), tt),
      )

  abbrev out : Term → Bool
  out = term_outside names

  abbrev Claim : Term → Type 0
  Claim t = (s : Sort) → sort_in scope [] t ≡ Some s → out t ≡ false → Each IsFine (conditions scope t)

  abbrev Part : Type 0
  Part = (t : Term) × Claim t

  abbrev under : Term-F Part → Term-F Term
  under = map-Term Part Term (λ e. e.0)

  append : (fs gs : List Formula) → Each IsFine fs → Each IsFine gs → Each IsFine (fs ++ gs)
  append fs gs h k = (each_append IsFine fs gs).1 (h, k)

  two : (a b : Part) (q r : Sort) → sort_in scope [] a.0 ≡ Some q → sort_in scope [] b.0 ≡ Some r → (out a.0 || out b.0) ≡ false → Each IsFine (conditions scope a.0 ++ conditions scope b.0)
  two a b q r e f o = append (conditions scope a.0) (conditions scope b.0) (a.1 q e (or_parts (out a.0) (out b.0) o).0) (b.1 r f (or_parts (out a.0) (out b.0) o).1)

  divided : (a b : Part) (s : Sort) → of_ints (sort_in scope [] a.0) (sort_in scope [] b.0) ≡ Some s → (out a.0 || out b.0) ≡ false → Each IsFine ((conditions scope a.0 ++ conditions scope b.0) ++ nonzero b.0 ∷ [])
  divided a b s e o =
      let parts = int_parts _ _ s e in
      append (conditions scope a.0 ++ conditions scope b.0) (nonzero b.0 ∷ []) (two a b Int Int parts.0 parts.1 o) (nonzero_fine b.0 parts.1 (or_parts (out a.0) (out b.0) o).1)

  plain : (a b : Part) (s : Sort) → of_ints (sort_in scope [] a.0) (sort_in scope [] b.0) ≡ Some s → (out a.0 || out b.0) ≡ false → Each IsFine (conditions scope a.0 ++ conditions scope b.0)
  plain a b s e o = let parts = int_parts _ _ s e in two a b Int Int parts.0 parts.1 o

  layer : (y : Term-F Part) (s : Sort) → sort_step scope [] (map-Term Term (Option Sort) (sort_in scope []) (under y)) ≡ Some s → outside_step names (map-Term Term Bool out (under y)) ≡ false
      → Each IsFine (conditions_step scope (map-Term Term (Term × List Formula) (paired scope) (under y)))
  layer (Term-F.Lit n) s e o = tt
  layer (Term-F.Var n) s e o = tt
  layer (Term-F.Init n) s e o = tt
  layer (Term-F.Const n) s e o = tt
  layer (Term-F.Bound k) s e o = tt
  layer (Term-F.Neg a) s e o = a.1 Int (int_part _ s e) o
  layer (Term-F.Add a b) s e o = plain a b s e o
  layer (Term-F.Sub a b) s e o = plain a b s e o
  layer (Term-F.Mul a b) s e o = plain a b s e o
  layer (Term-F.Div a b) s e o = divided a b s e o
  layer (Term-F.Mod a b) s e o = divided a b s e o
  layer (Term-F.Read a i) s e o =
      let parts = read_parts _ _ s e in
      append (conditions scope a.0 ++ conditions scope i.0) (in_range scope a.0 i.0) (two a i (Array parts.length) Int parts.array parts.index o)
      (range_fine a.0 i.0 parts.index (or_parts (out a.0) (out i.0) o).1)
  layer (Term-F.Put a i z) s e o =
      let parts = put_parts _ _ _ s e in
      let first = (or_parts (out a.0 || out i.0) (out z.0) o).0 in
      append ((conditions scope a.0 ++ conditions scope i.0) ++ conditions scope z.0) (in_range scope a.0 i.0)
      (append (conditions scope a.0 ++ conditions scope i.0) (conditions scope z.0) (two a i (Array parts.length) Int parts.array parts.index first) (z.1 Int parts.item (or_parts (out a.0 || out i.0) (out z.0) o).1))
      (range_fine a.0 i.0 parts.index (or_parts (out a.0) (out i.0) first).1)
  layer (Term-F.Fun f args) s e o = absurd (cc)

  claim_at : (y : Term-F Part) → Claim (roll-Term (under y))
  claim_at y s e o =
      subst (Each IsFine) (sym (asks_layer scope (under y)))
      (layer y s (sym (fold-roll-Term (Option Sort) (sort_step scope []) (under y)) ∙ e) (sym (fold-roll-Term Bool (outside_step names) (under y)) ∙ o))

  conditions_fine : (t : Term) → Claim t
  conditions_fine = ind-Term Claim (λ u y is. subst (λ z. Claim (roll-Term z)) is (claim_at y))

  all_fine : (terms : List Term) → Each (λ t. (s : Sort) × (sort_in scope [] t ≡ Some s)) terms → terms_outside names terms ≡ false → Each IsFine (conditions_of scope terms)
  all_fine [] sorts o = tt
  all_fine (t ∷ terms) sorts o =
      append (conditions scope t) (conditions_of scope terms) (conditions_fine t sorts.0.0 sorts.0.1 (or_parts (out t) (terms_outside names terms) o).0)
      (all_fine terms sorts.1 (or_parts (out t) (terms_outside names terms) o).1)

  -- the formula that says that terms are defined
  pub definedness_fine : (terms : List Term) → Each (λ t. (s : Sort) × (sort_in scope [] t ≡ Some s)) terms → terms_outside names terms ≡ false → IsFine (definedness_of scope terms)
  definedness_fine terms sorts o = conj_fine (conditions_of scope terms) (all_fine terms sorts o)
