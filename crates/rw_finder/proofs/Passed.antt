-- Numbers as they are passed.
use Rattle.std.proofs.Common.{◌≡◌, zero, suc, false, ℤ, pos, negsuc, FitsSigned, to_z, of_z, refl, ap, arith}
use Rattle.std.specs.Int.{w128}
use Rattle.std.proofs.lemmas.Int.{to_z-of_z}
use Rattle.rw_arith.specs.Polynomials.{is_zero}

pub plain : {A : Type 0} (f : ℤ → ℤ → A) (x y : ℤ) → FitsSigned w128 x → FitsSigned w128 y → f (to_z w128 (of_z w128 x)) (to_z w128 (of_z w128 y)) ≡ f x y
plain f x y p q = (λ i. f (to_z-of_z w128 x p i) (to_z-of_z w128 y q i))

-- what the code's test of 0 says
pub nonzero_is : (z : ℤ) → (of_z w128 z ≡ 0 → ⊥) → is_zero z ≡ false
nonzero_is (pos zero) h = absurd (h refl)
nonzero_is (pos (suc n)) h = refl
nonzero_is (negsuc n) h = refl

pub zero_of : (z : ℤ) → FitsSigned w128 z → of_z w128 z ≡ 0 → z ≡ pos 0
zero_of (pos n) f e = ap pos e
zero_of (negsuc n) f e = let h = f.sfits in absurd (omega arith)

pub of_zero : (z : ℤ) → z ≡ pos 0 → of_z w128 z ≡ 0
of_zero z e = ap (of_z w128) e
