-- The item that passes a test, changed and changed back.
use Rattle.std.proofs.Common.{◌≡◌, Bool, true, false, ◌||◌, List, [], ◌∷◌, Option, Some, refl, sym, ap, ◌∙◌, true≢false}
use Rattle.std.specs.Prelude.{cond, slice_set}
use Rattle.std.specs.List.{slice_get, list_any, find}
use Rattle.rw_heads.proofs.Listed.{some_same}
use Rattle.rw_heads.specs.Listed.{change_by, place_by}

module _ {A : Type 0} (p : A → Bool) where
  pub some_found : (xs : List A) → list_any p xs ≡ true → (x : A) × (find p xs ≡ Some x)
  some_found [] h = absurd (true≢false (sym h))
  some_found (x ∷ xs) h = go (p x) h (some_found xs)
    where
      go : (b : Bool) → (b || list_any p xs) ≡ true → (list_any p xs ≡ true → (y : A) × (find p xs ≡ Some y)) → (y : A) × (cond b (Some x) (find p xs) ≡ Some y)
      go true k rest = (x, refl)
      go false k rest = rest k

  module _ (f : A → A) (passes : (x : A) → p x ≡ true → p (f x) ≡ true) where
    pub change_any : (xs : List A) → list_any p xs ≡ true → list_any p (change_by p f xs) ≡ true
    change_any [] h = h
    change_any (x ∷ xs) h = go (p x) refl (change_any xs)
      where
        go : (b : Bool) → p x ≡ b → (list_any p xs ≡ true → list_any p (change_by p f xs) ≡ true) → list_any p (change_by p f (x ∷ xs)) ≡ true
        go true is rest = rw is (rw (passes x is) refl)
        go false is rest = rw is (rw is (rest (sym (rw is refl) ∙ h)))

    pub change_seen : (xs : List A) (x : A) → find p xs ≡ Some x → slice_get (change_by p f xs) (place_by p (change_by p f xs)) ≡ Some (f x)
    change_seen [] x e = absurd (cc)
    change_seen (y ∷ xs) x e = go (p y) refl (change_seen xs x)
      where
        go : (b : Bool) → p y ≡ b → (find p xs ≡ Some x → slice_get (change_by p f xs) (place_by p (change_by p f xs)) ≡ Some (f x)) →
            slice_get (change_by p f (y ∷ xs)) (place_by p (change_by p f (y ∷ xs))) ≡ Some (f x)
        go true is rest = let same : y ≡ x = some_same (sym (rw is refl) ∙ e) in rw is (rw (passes y is) (ap (λ z. Some (f z)) same))
        go false is rest = rw is (rw is (rest (sym (rw is refl) ∙ e)))

    pub change_set : (xs : List A) (x : A) → find p xs ≡ Some x → slice_set (change_by p f xs) (place_by p (change_by p f xs)) x ≡ xs
    change_set [] x e = absurd (cc)
    change_set (y ∷ xs) x e = go (p y) refl (change_set xs x)
      where
        go : (b : Bool) → p y ≡ b → (find p xs ≡ Some x → slice_set (change_by p f xs) (place_by p (change_by p f xs)) x ≡ xs) →
            slice_set (change_by p f (y ∷ xs)) (place_by p (change_by p f (y ∷ xs))) x ≡ y ∷ xs
        go true is rest = let same : y ≡ x = some_same (sym (rw is refl) ∙ e) in rw is (rw (passes y is) (ap (λ z. z ∷ xs) (sym same)))
        go false is rest = rw is (rw is (ap (λ ys. y ∷ ys) (rest (sym (rw is refl) ∙ e))))
