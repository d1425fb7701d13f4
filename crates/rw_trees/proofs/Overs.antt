-- Old items in the places of new ones.
use Rattle.std.proofs.Common.{◌≡◌, ◌<◌, ◌≤◌, List, [], ◌∷◌, ◌++◌, length, refl, sym, ap, arith, set}
use Rattle.rw_trees.specs.Nodes.{over}

pub over-nil : {A : Type 0} (xs : List A) → over xs [] ≡ xs
over-nil [] = refl
over-nil (x ∷ xs) = refl

pub over-set : {A : Type 0} (xs ys : List A) (x : A) → length ys < length xs → over (set xs (length ys) x) ys ≡ over xs (ys ++ x ∷ [])
over-set [] [] x h = absurd (omega arith)
over-set [] (y ∷ ys) x h = absurd (omega arith)
over-set (x0 ∷ xs) [] x h = ap (λ z. x ∷ z) (sym (over-nil xs))
over-set (x0 ∷ xs) (y ∷ ys) x h = ap (λ z. y ∷ z) (over-set xs ys x (omega arith))

pub over-past : {A : Type 0} (xs ys : List A) (x : A) → length xs ≤ length ys → over xs ys ≡ over xs (ys ++ x ∷ [])
over-past [] [] x h = refl
over-past [] (y ∷ ys) x h = refl
over-past (x0 ∷ xs) [] x h = absurd (omega arith)
over-past (x0 ∷ xs) (y ∷ ys) x h = ap (λ z. y ∷ z) (over-past xs ys x (omega arith))
