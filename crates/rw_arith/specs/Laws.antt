-- What polynomials say of the terms that they come from.
use Rattle.std.specs.Prelude.{◌≡◌, Bool, true, ℤ, pos, ◌≤ℤ◌, List, None}
use Rattle.rw_terms.specs.declared.term.Term.{Term}
use Rattle.rw_terms.specs.declared.term.Formula.{Formula}
use Rattle.rw_terms.specs.declared.term.Formula.TheOpen.{Formula-F}
use Rattle.rw_terms.specs.declared.term.Formula.TheViews.{out-Formula}
use Rattle.rw_terms.specs.State.{Value, State}
use Rattle.rw_terms.specs.Truth.{Definition, holds}
use Rattle.rw_arith.specs.declared.line.LinLine.{LinLine}
use Rattle.rw_arith.specs.Polynomials.{is_one_product}
use Rattle.rw_arith.specs.Expanded.{expanded}
use Rattle.rw_arith.specs.Given.{given_by_left, given_by_right}
use Rattle.rw_arith.specs.Lines.{lines_fault, Refuted}
use Rattle.rw_arith.specs.Values.{product_value, polynomial_value, IfPolynomial, integer}

-- products that are one have one value, whatever their atoms stand for
abbrev pub OneProductLaw : Type 0
OneProductLaw = (of_atom : Term → ℤ) (ones others : List Term) → is_one_product ones others ≡ true → product_value of_atom ones ≡ product_value of_atom others

-- in every two states the value of a term's polynomial is the term's value, over unbounded integers
abbrev pub ExpansionLaw : Type 0
ExpansionLaw = (s0 s : State) (binders : List Value) (t : Term) → IfPolynomial (expanded t) (λ p. polynomial_value (integer s0 s binders) p ≡ integer s0 s binders t)

-- what is said of the polynomial of a left formula: that of an equation is 0, and any other is at least 0
abbrev pub LeftSays : Formula-F Formula → ℤ → Type 0
LeftSays (Formula-F.Eq s t) z = z ≡ pos 0
LeftSays _ z = pos 0 ≤ℤ z

-- where a left formula is true, what it gives holds
abbrev pub LeftLaw : Type 0
LeftLaw =
    (library : List Definition) (s0 s : State) (binders : List Value) (f : Formula) → holds library f s0 s binders →
    IfPolynomial (given_by_left f) (λ p. LeftSays (out-Formula f) (polynomial_value (integer s0 s binders) p))

-- where a right formula is false, what it gives holds
abbrev pub RightLaw : Type 0
RightLaw =
    (library : List Definition) (s0 s : State) (binders : List Value) (f : Formula) → ¬ (holds library f s0 s binders) →
    IfPolynomial (given_by_right f) (λ p. pos 0 ≤ℤ polynomial_value (integer s0 s binders) p)

-- lines without a fault refute that all left formulas are true and all right ones false
abbrev pub RefutationLaw : Type 0
RefutationLaw = (left right : List Formula) (lines : List LinLine) → lines_fault left right lines ≡ None → Refuted left right
