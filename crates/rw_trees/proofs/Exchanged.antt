-- Two lists that exchange their first items one by one, and back.
use Rattle.std.proofs.Common.{◌≡◌, ℕ, zero, suc, ◌≤◌, ◌⊎◌, inl, inr, List, [], ◌∷◌, length, refl, sym, ap, ◌∙◌, arith, set, take, Some}
use Rattle.std.specs.List.{slice_get}
use Rattle.rw_trees.specs.Nodes.{over}
use Rattle.rw_trees.proofs.Overs.{over-nil}

pub none_exchanged : {A : Type 0} (xs ys : List A) → over xs (take 0 ys) ≡ xs
none_exchanged xs [] = over-nil xs
none_exchanged xs (y ∷ ys) = over-nil xs

-- the next item is still the old one
pub get_next : {A : Type 0} (xs ys : List A) (i : ℕ) → slice_get (over xs (take i ys)) i ≡ slice_get xs i
get_next [] ys i = refl
get_next (x ∷ xs) [] zero = refl
get_next (x ∷ xs) (y ∷ ys) zero = refl
get_next (x ∷ xs) [] (suc i) = refl
get_next (x ∷ xs) (y ∷ ys) (suc i) = get_next xs ys i

-- one item more is exchanged
pub set_next : {A : Type 0} (xs ys : List A) (i : ℕ) (y : A) → slice_get ys i ≡ Some y → set (over xs (take i ys)) i y ≡ over xs (take (suc i) ys)
set_next [] ys i y e = refl
set_next (x ∷ xs) [] i y e = absurd (cc)
set_next (x ∷ xs) (z ∷ ys) zero y e = let is : z ≡ y = cc in ap (λ w. w ∷ xs) (sym is) ∙ ap (λ ws. z ∷ ws) (sym (none_exchanged xs ys))
set_next (x ∷ xs) (z ∷ ys) (suc i) y e = ap (λ ws. z ∷ ws) (set_next xs ys i y e)

pub all_exchanged : {A : Type 0} (xs ys : List A) (n : ℕ) → (length xs ≤ n) ⊎ (length ys ≤ n) → over xs (take n ys) ≡ over xs ys
all_exchanged [] ys n h = refl
all_exchanged (x ∷ xs) [] zero h = refl
all_exchanged (x ∷ xs) [] (suc n) h = refl
all_exchanged (x ∷ xs) (y ∷ ys) zero h = elim h [ inl e ↦ absurd (omega (arith, e)) | inr e ↦ absurd (omega (arith, e)) ]
all_exchanged (x ∷ xs) (y ∷ ys) (suc n) h = ap (λ w. y ∷ w) (all_exchanged xs ys n (elim h [ inl e ↦ inl (omega (arith, e)) | inr e ↦ inr (omega (arith, e)) ]))

-- an exchange that is made twice changes nothing
pub exchanged_back : {A : Type 0} (xs ys : List A) → over (over xs ys) (over ys xs) ≡ xs
exchanged_back [] ys = refl
exchanged_back (x ∷ xs) [] = refl
exchanged_back (x ∷ xs) (y ∷ ys) = ap (λ w. x ∷ w) (exchanged_back xs ys)
