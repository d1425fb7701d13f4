-- What formulas give holds where a left one is true and a right one is false.
use Rattle.std.proofs.Common.{◌≡◌, ℤ, pos, ◌+ℤ◌, ◌-ℤ◌, ◌≤ℤ◌, ◌<ℤ◌, List, [], ◌∷◌, refl, sym, ◌∙◌, ap, subst, reverse, arith}
use Rattle.std.proofs.lemmas.Int.{ints, by_lt_z}
use Rattle.rw_terms.specs.declared.term.Term.{Term}
use Rattle.rw_terms.specs.declared.term.Formula.{Formula}
use Rattle.rw_terms.specs.declared.term.Formula.TheOpen.{Formula-F}
use Rattle.rw_terms.specs.declared.term.Formula.TheViews.{roll-Formula, out-Formula, roll-out-Formula}
use Rattle.rw_terms.specs.State.{Value, whole, State, value_in}
use Rattle.rw_terms.specs.Value.{value_by}
use Rattle.rw_terms.specs.Truth.{Definition, holds, holds_by, predicates_of}
use Rattle.rw_terms.proofs.Truths.{to_layer, from_layer, layer_truth}
use Rattle.rw_arith.specs.declared.poly.Expansion.{Expansion}
use Rattle.rw_arith.specs.Polynomials.{difference}
use Rattle.rw_arith.specs.Expanded.{constant, expanded}
use Rattle.rw_arith.specs.Given.{less_of, strictly_less_of, left_layer, given_by_left, right_layer, given_by_right}
use Rattle.rw_arith.specs.Values.{polynomial_value, IfPolynomial, integer}
use Rattle.rw_arith.specs.Laws.{LeftSays, LeftLaw, RightLaw}
use Rattle.rw_arith.proofs.Values.{weaker, difference_value}
use Rattle.rw_arith.proofs.ExpansionLaws.{constant_value, expansion_law}

module _ (library : List Definition) (s0 s : State) (binders : List Value) where
  abbrev of_term : Term → ℤ
  of_term = integer s0 s binders

  abbrev Says : (ℤ → Type 0) → Expansion → Type 0
  Says P e = IfPolynomial e (λ p. P (polynomial_value of_term p))

  less_value : (t u : Term) → Says (λ z. z ≡ of_term t -ℤ of_term u) (less_of t u)
  less_value t u = difference_value of_term (expanded t) (expanded u) (of_term t) (of_term u) (expansion_law s0 s binders t) (expansion_law s0 s binders u)

  strictly_value : (t u : Term) → Says (λ z. z ≡ (of_term t -ℤ of_term u) -ℤ pos 1) (strictly_less_of t u)
  strictly_value t u = difference_value of_term (less_of t u) (constant (pos 1)) (of_term t -ℤ of_term u) (pos 1) (less_value t u) (constant_value of_term (pos 1))

  none_between : (x y z : ℤ) → z ≡ x -ℤ y → x ≡ y → z ≡ pos 0
  none_between x y z e h = omega (arith, ints)

  at_most : (x y z : ℤ) → z ≡ y -ℤ x → x ≤ℤ y → pos 0 ≤ℤ z
  at_most x y z e h = omega (arith, ints)

  below : (x y z : ℤ) → z ≡ (y -ℤ x) -ℤ pos 1 → x <ℤ y → pos 0 ≤ℤ z
  below x y z e h = omega (arith, ints)

  not_below : (x y z : ℤ) → z ≡ x -ℤ y → ¬ (x <ℤ y) → pos 0 ≤ℤ z
  not_below x y z e h = by_lt_z x y (λ l. absurd (h l)) (λ g. omega (arith, ints))

  not_at_most : (x y z : ℤ) → z ≡ (x -ℤ y) -ℤ pos 1 → ¬ (x ≤ℤ y) → pos 0 ≤ℤ z
  not_at_most x y z e h = by_lt_z y x (λ l. omega (arith, ints)) (λ g. absurd (h g))

  abbrev truth : Formula-F Formula → Type 0
  truth x = layer_truth (predicates_of (reverse library)) (value_in s) (value_in s0) (value_in s) x binders

  left_says : (x : Formula-F Formula) → truth x → Says (LeftSays x) (left_layer x)
  left_says (Formula-F.Eq t u) h = weaker _ _ (less_of t u) (λ p e. none_between (of_term t) (of_term u) _ e (ap whole h)) (less_value t u)
  left_says (Formula-F.Less t u) h = weaker _ _ (strictly_less_of u t) (λ p e. below (of_term t) (of_term u) _ e h) (strictly_value u t)
  left_says (Formula-F.AtMost t u) h = weaker _ _ (less_of u t) (λ p e. at_most (of_term t) (of_term u) _ e h) (less_value u t)
  left_says Formula-F.True h = tt
  left_says Formula-F.False h = tt
  left_says (Formula-F.Not f) h = tt
  left_says (Formula-F.And f g) h = tt
  left_says (Formula-F.Or f g) h = tt
  left_says (Formula-F.Imp f g) h = tt
  left_says (Formula-F.All _ f) h = tt
  left_says (Formula-F.Any _ f) h = tt
  left_says (Formula-F.App _ args) h = tt

  right_says : (x : Formula-F Formula) → ¬ (truth x) → Says (λ z. pos 0 ≤ℤ z) (right_layer x)
  right_says (Formula-F.Less t u) h = weaker _ _ (less_of t u) (λ p e. not_below (of_term t) (of_term u) _ e h) (less_value t u)
  right_says (Formula-F.AtMost t u) h = weaker _ _ (strictly_less_of t u) (λ p e. not_at_most (of_term t) (of_term u) _ e h) (strictly_value t u)
  right_says (Formula-F.Eq t u) h = tt
  right_says Formula-F.True h = tt
  right_says Formula-F.False h = tt
  right_says (Formula-F.Not f) h = tt
  right_says (Formula-F.And f g) h = tt
  right_says (Formula-F.Or f g) h = tt
  right_says (Formula-F.Imp f g) h = tt
  right_says (Formula-F.All _ f) h = tt
  right_says (Formula-F.Any _ f) h = tt
  right_says (Formula-F.App _ args) h = tt

  abbrev holding : Formula → Type 0
  holding f = holds library f s0 s binders

  opened : (f : Formula) → holding f → truth (out-Formula f)
  opened f h = to_layer (predicates_of (reverse library)) (value_in s) (value_in s0) (value_in s) (out-Formula f) binders (subst holding (sym (roll-out-Formula f)) h)

  closed : (f : Formula) → truth (out-Formula f) → holding f
  closed f h = subst holding (roll-out-Formula f) (from_layer (predicates_of (reverse library)) (value_in s) (value_in s0) (value_in s) (out-Formula f) binders h)

pub left_law : LeftLaw
left_law library s0 s binders f h = left_says library s0 s binders (out-Formula f) (opened library s0 s binders f h)

pub right_law : RightLaw
right_law library s0 s binders f n = right_says library s0 s binders (out-Formula f) (λ h. n (closed library s0 s binders f h))
