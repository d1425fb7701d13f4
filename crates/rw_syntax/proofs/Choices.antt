-- What the tests and the options of the machine say.
use Rattle.std.proofs.Common.{◌≡◌, ℕ, ◌≤◌, ◌<◌, Bool, true, false, cond, Option, Some, None, IsTrue, refl, arith}
use Rattle.std.specs.Prelude.{option_and_then}
use Rattle.std.proofs.lemmas.Bool.Decides.{nat_tests}
use Rattle.rw_syntax.specs.Grammar.{fits, shut}

pub guarded : {A : Type 0} (b : Bool) (x : Option A) (y : A) → cond b x None ≡ Some y → (b ≡ true) × (x ≡ Some y)
guarded true x y e = (refl, e)
guarded false x y e = absurd (cc)

pub chained : {A B : Type 0} (f : A → Option B) (o : Option A) (y : B) → option_and_then f o ≡ Some y → (x : A) × (o ≡ Some x) × (f x ≡ Some y)
chained f None y e = absurd (cc)
chained f (Some x) y e = (x, refl, e)

pub some_is : {A : Type 0} {x y : A} → Some x ≡ Some y → x ≡ y
some_is e = cc

pub fits_of : (a b : ℕ) → IsTrue (fits a b) → (a ≤ b) × (a < 6 → b < 6)
fits_of a b e = (grind (arith, nat_tests), grind (arith, nat_tests))

pub fits_to : (a b : ℕ) → a ≤ b → (a < 6 → b < 6) → IsTrue (fits a b)
fits_to a b h k = grind (arith, nat_tests)

pub shut_term : (n : ℕ) → 6 ≤ n → shut n ≡ 9
shut_term n h = grind (arith, nat_tests)

pub shut_formula : (n : ℕ) → n < 6 → shut n ≡ 5
shut_formula n h = grind (arith, nat_tests)

pub shut_least : (n : ℕ) → 5 ≤ shut n
shut_least n = grind (arith, nat_tests)
