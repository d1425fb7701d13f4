-- Numbers within 128 bits.
use Rattle.std.proofs.Common.{◌≡◌, Bool, true, ◌&&◌, ℤ, pos, negsuc, ◌*ℤ◌, Option, Some, None, FitsSigned, to_z, of_z, sym, ap, ◌∙◌, arith}
use Rattle.std.specs.Int.{w128}
use Rattle.std.specs.Option.{SomeIff}
use Rattle.std.proofs.lemmas.Int.{to_z-of_z}
use Rattle.std.proofs.lemmas.Bool.Decides.{nat_tests}
use Rattle.rw_arith.specs.Polynomials.{is_narrow}

pub narrow_is : (z : ℤ) → FitsSigned w128 z → is_narrow z ≡ true
narrow_is (pos n) f = let h = f.sfits in grind (arith, nat_tests)
narrow_is (negsuc n) f = let h = f.sfits in grind (arith, nat_tests)

-- a product within 128 bits, and what is told of its sum with another number
pub sum_known : (o : Option ℤ) (x y before : ℤ) (told more : Bool) (rest : ℤ → Bool) → o ≡ Some before → FitsSigned w128 x → FitsSigned w128 y →
    SomeIff o (FitsSigned w128 (to_z w128 (of_z w128 x) *ℤ to_z w128 (of_z w128 y))) (to_z w128 (of_z w128 x) *ℤ to_z w128 (of_z w128 y)) → told ≡ rest before → told ≡ (is_narrow (x *ℤ y) && rest (x *ℤ y))
sum_known None x y before told more rest e f g h k = absurd (cc)
sum_known (Some z) x y before told more rest e f g h k =
    let same : z ≡ before = cc in
    let product : to_z w128 (of_z w128 x) *ℤ to_z w128 (of_z w128 y) ≡ x *ℤ y = (λ i. to_z-of_z w128 x f i *ℤ to_z-of_z w128 y g i) in
    k ∙ ap rest (sym same ∙ h.1 ∙ product) ∙ ap (λ b. b && rest (x *ℤ y)) (sym (ap is_narrow (sym product) ∙ narrow_is _ h.0))
