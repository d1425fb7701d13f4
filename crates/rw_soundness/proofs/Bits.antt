-- Tests.
use Rattle.std.proofs.Common.{◌≡◌, ℕ, Bool, true, false, ◌||◌, List, [], ◌∷◌, refl, ap}
use Rattle.std.specs.Prelude.{bytes_eq}
use Rattle.rw_faults.specs.Initial.{is_listed}
use Rattle.rw_programs.specs.State.{is_in}

pub either : (C : Type 0) (a b : Bool) → (a ≡ true → C) → (b ≡ true → C) → (a || b) ≡ true → C
either C true b f g e = f refl
either C false b f g e = g e

-- a name is among others by either word
pub listed_in : (names : List (List ℕ)) (x : List ℕ) → is_listed names x ≡ is_in x names
listed_in [] x = refl
listed_in (y ∷ names) x = ap (λ b. bytes_eq x y || b) (listed_in names x)
