-- What is said of an answer, from what is said of another, and of an item of a list, from what is said of each.
use Rattle.std.proofs.Common.{◌≡◌, ℕ, zero, suc, List, [], ◌∷◌, Some, Result, Ok, Err, subst}
use Rattle.std.specs.List.{slice_get}
use Rattle.std.specs.Result.{IfOk}
use Rattle.rw_terms.specs.Validity.{Each}

pub if_ok : {A E : Type 0} (r : Result A E) (P Q : A → Type 0) → ((x : A) → P x → Q x) → IfOk r P → IfOk r Q
if_ok (Ok x) P Q f h = f x h
if_ok (Err e) P Q f h = tt

pub each_at : {A : Type 0} (P : A → Type 0) (xs : List A) (i : ℕ) (x : A) → Each P xs → slice_get xs i ≡ Some x → P x
each_at P [] i x all e = absurd (cc)
each_at P (y ∷ xs) zero x all e = let is : y ≡ x = cc in subst P is all.0
each_at P (y ∷ xs) (suc i) x all e = each_at P xs i x all.1 e
