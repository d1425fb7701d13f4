-- Entries in places.
use Rattle.std.proofs.Common.{◌≡◌, ℕ, zero, suc, ◌+◌, ◌<◌, ◌≤◌, List, [], ◌∷◌, ◌++◌, length, remove, Some, refl, sym, ap, arith}
use Rattle.std.specs.Prelude.{slice_set, slice_get, insert}
use Rattle.rw_lemmas.specs.Table.{put_at, put_in, moved}

pub put_there : {X : Type 0} (xs : List X) (k : ℕ) (x : X) → k < length xs → slice_set xs k x ≡ put_at k x xs
put_there [] k x h = absurd (omega (arith, h))
put_there (y ∷ ys) zero x h = refl
put_there (y ∷ ys) (suc k) x h = ap (λ l. y ∷ l) (put_there ys k x (omega arith))

pub put_last : {X : Type 0} (xs : List X) (k : ℕ) (x : X) → k ≤ length xs → length xs ≤ k → xs ++ x ∷ [] ≡ put_at k x xs
put_last [] k x h m = refl
put_last (y ∷ ys) zero x h m = absurd (omega (arith, m))
put_last (y ∷ ys) (suc k) x h m = ap (λ l. y ∷ l) (put_last ys k x (omega arith) (omega arith))

pub removed_length : {X : Type 0} (xs : List X) (k : ℕ) → k < length xs → length (remove xs k) + 1 ≡ length xs
removed_length [] k h = absurd (omega (arith, h))
removed_length (y ∷ ys) zero h = omega arith
removed_length (y ∷ ys) (suc k) h = let e = removed_length ys k (omega arith) in omega arith

pub moved_there : {X : Type 0} (xs : List X) (from to : ℕ) (x : X) → slice_get xs from ≡ Some x → insert (remove xs from) to x ≡ moved from to xs
moved_there xs from to x e = sym (ap (λ o. put_in o to (remove xs from)) e)
