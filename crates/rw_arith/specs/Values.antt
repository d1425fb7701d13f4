-- The value of a polynomial, where each atom has a value.
use Rattle.std.specs.Prelude.{ℤ, pos, ◌+ℤ◌, ◌*ℤ◌, List, [], ◌∷◌}
use Rattle.rw_terms.specs.declared.term.Term.{Term}
use Rattle.rw_terms.specs.State.{Value, whole, State}
use Rattle.rw_terms.specs.Value.{value}
use Rattle.rw_arith.specs.declared.poly.Summand.{Summand}
use Rattle.rw_arith.specs.declared.poly.Expansion.{Expansion}
use Rattle.rw_arith.specs.declared.poly.Expansion.TheVariants.{Polynomial, Unfit, Wide}

module _ (of_atom : Term → ℤ) where
  -- of a product the product of the values of its atoms
  abbrev pub product_value : List Term → ℤ
  product_value [] = pos 1
  product_value (t ∷ ts) = of_atom t *ℤ product_value ts

  -- of a summand its coefficient times that
  abbrev pub summand_value : Summand → ℤ
  summand_value s = s.times *ℤ product_value s.atoms

  -- of a polynomial the sum of the values of its summands
  abbrev pub polynomial_value : List Summand → ℤ
  polynomial_value [] = pos 0
  polynomial_value (s ∷ ss) = summand_value s +ℤ polynomial_value ss

-- P of the polynomial, where there is one
abbrev pub IfPolynomial : Expansion → (List Summand → Type 0) → Type 0
IfPolynomial (Polynomial p) P = P p
IfPolynomial Unfit P = Unit {0}
IfPolynomial Wide P = Unit {0}

-- the integer that a term stands for
abbrev pub integer : State → State → List Value → Term → ℤ
integer s0 s binders t = whole (value s0 s binders t)
