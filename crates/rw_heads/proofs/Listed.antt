-- Where the item that passes a test stands, and what comes of it.
use Rattle.std.proofs.Common.{◌≡◌, ℕ, zero, suc, ◌<◌, ◌≤◌, Bool, true, false, if◌then◌else◌, List, [], ◌∷◌, ◌++◌, length, remove, Option, Some, None, refl, sym, ap, ◌∙◌, subst, arith, true≢false}
use Rattle.std.specs.Prelude.{slice_set}
use Rattle.std.specs.List.{slice_get, list_any, find}
use Rattle.rw_heads.specs.Listed.{put_by, change_by, without_by, place_by}

pub some_same : {A : Type 0} {x y : A} → Some x ≡ Some y → x ≡ y
some_same e = cc

-- nothing is done behind the last
pub past_removed : {A : Type 0} (xs : List A) (k : ℕ) → length xs ≤ k → xs ≡ remove xs k
past_removed [] zero h = refl
past_removed [] (suc k) h = refl
past_removed (x ∷ xs) zero h = absurd (omega (arith, h))
past_removed (x ∷ xs) (suc k) h = let less : length xs ≤ k = omega (arith, h) in ap (λ ys. x ∷ ys) (past_removed xs k less)

pub past_set : {A : Type 0} (xs : List A) (k : ℕ) (y : A) → length xs ≤ k → xs ≡ slice_set xs k y
past_set [] k y h = refl
past_set (x ∷ xs) zero y h = absurd (omega (arith, h))
past_set (x ∷ xs) (suc k) y h = let less : length xs ≤ k = omega (arith, h) in ap (λ ys. x ∷ ys) (past_set xs k y less)

module _ {A : Type 0} (p : A → Bool) where
  pub place_found : (xs : List A) → list_any p xs ≡ true → place_by p xs < length xs
  place_found [] h = absurd (true≢false (sym h))
  place_found (x ∷ xs) h = go (p x) refl (place_found xs)
    where
      go : (b : Bool) → p x ≡ b → (list_any p xs ≡ true → place_by p xs < length xs) → place_by p (x ∷ xs) < length (x ∷ xs)
      go true is rest = rw is (omega arith)
      go false is rest = let within : place_by p xs < length xs = rest (sym (rw is refl) ∙ h) in rw is (omega (arith, within))

  -- the item that stands there is the one that is found
  pub found_there : (xs : List A) (x : A) → slice_get xs (place_by p xs) ≡ Some x → find p xs ≡ Some x
  found_there [] x e = e
  found_there (y ∷ xs) x e = go (p y) refl (found_there xs x)
    where
      go : (b : Bool) → p y ≡ b → (slice_get xs (place_by p xs) ≡ Some x → find p xs ≡ Some x) → find p (y ∷ xs) ≡ Some x
      go true is rest = rw is (sym (rw is refl) ∙ e)
      go false is rest = rw is (rest (sym (rw is refl) ∙ e))

  -- what is put in its place
  pub put_there : (again : A → A) (n : A) (xs : List A) (x : A) → slice_get xs (place_by p xs) ≡ Some x → slice_set xs (place_by p xs) (again x) ≡ put_by p again n xs
  put_there again n [] x e = absurd (cc)
  put_there again n (y ∷ xs) x e = go (p y) refl (put_there again n xs x)
    where
      go : (b : Bool) → p y ≡ b → (slice_get xs (place_by p xs) ≡ Some x → slice_set xs (place_by p xs) (again x) ≡ put_by p again n xs) → slice_set (y ∷ xs) (place_by p (y ∷ xs)) (again x) ≡ put_by p again n (y ∷ xs)
      go true is rest = let here : slice_get (y ∷ xs) (place_by p (y ∷ xs)) ≡ Some y = rw is refl in let same : x ≡ y = cc in rw is (ap (λ z. again z ∷ xs) same)
      go false is rest = let later = rest (sym (rw is refl) ∙ e) in rw is (ap (λ ys. y ∷ ys) later)

  -- the item that stands there, changed
  pub changed_there : (f : A → A) (xs : List A) (x : A) → slice_get xs (place_by p xs) ≡ Some x → slice_set xs (place_by p xs) (f x) ≡ change_by p f xs
  changed_there f [] x e = refl
  changed_there f (y ∷ xs) x e = go (p y) refl (changed_there f xs x)
    where
      go : (b : Bool) → p y ≡ b → (slice_get xs (place_by p xs) ≡ Some x → slice_set xs (place_by p xs) (f x) ≡ change_by p f xs) → slice_set (y ∷ xs) (place_by p (y ∷ xs)) (f x) ≡ change_by p f (y ∷ xs)
      go true is rest = let here : slice_get (y ∷ xs) (place_by p (y ∷ xs)) ≡ Some y = rw is refl in let same : x ≡ y = cc in rw is (ap (λ z. f z ∷ xs) same)
      go false is rest = let later = rest (sym (rw is refl) ∙ e) in rw is (ap (λ ys. y ∷ ys) later)

  -- one that is not there goes last
  pub put_last : (again : A → A) (n : A) (xs : List A) → list_any p xs ≡ false → put_by p again n xs ≡ xs ++ n ∷ []
  put_last again n [] h = refl
  put_last again n (x ∷ xs) h = go (p x) refl (put_last again n xs)
    where
      go : (b : Bool) → p x ≡ b → (list_any p xs ≡ false → put_by p again n xs ≡ xs ++ n ∷ []) → put_by p again n (x ∷ xs) ≡ x ∷ xs ++ n ∷ []
      go true is rest = absurd (true≢false (sym (rw is refl) ∙ h))
      go false is rest = let later = rest (sym (rw is refl) ∙ h) in rw is (ap (λ ys. x ∷ ys) later)

  pub removed : (xs : List A) → remove xs (place_by p xs) ≡ without_by p xs
  removed [] = refl
  removed (x ∷ xs) = go (p x) refl (removed xs)
    where
      go : (b : Bool) → p x ≡ b → remove xs (place_by p xs) ≡ without_by p xs → remove (x ∷ xs) (place_by p (x ∷ xs)) ≡ without_by p (x ∷ xs)
      go true is rest = rw is refl
      go false is rest = rw is (ap (λ ys. x ∷ ys) rest)

  pub not_found : (xs : List A) → find p xs ≡ None → list_any p xs ≡ false
  not_found [] e = refl
  not_found (x ∷ xs) e = go (p x) refl (not_found xs)
    where
      go : (b : Bool) → p x ≡ b → (find p xs ≡ None → list_any p xs ≡ false) → list_any p (x ∷ xs) ≡ false
      go true is rest = absurd (let no_such : Some x ≡ None = sym (rw is refl) ∙ e in cc)
      go false is rest = rw is (rest (sym (rw is refl) ∙ e))

  pub none_found : (xs : List A) → list_any p xs ≡ false → find p xs ≡ None
  none_found [] h = refl
  none_found (x ∷ xs) h = go (p x) refl (none_found xs)
    where
      go : (b : Bool) → p x ≡ b → (list_any p xs ≡ false → find p xs ≡ None) → find p (x ∷ xs) ≡ None
      go true is rest = absurd (true≢false (sym (rw is refl) ∙ h))
      go false is rest = rw is (rest (sym (rw is refl) ∙ h))

  pub found_any : (xs : List A) (x : A) → find p xs ≡ Some x → list_any p xs ≡ true
  found_any [] x e = absurd (cc)
  found_any (y ∷ xs) x e = go (p y) refl (found_any xs x)
    where
      go : (b : Bool) → p y ≡ b → (find p xs ≡ Some x → list_any p xs ≡ true) → list_any p (y ∷ xs) ≡ true
      go true is rest = rw is refl
      go false is rest = rw is (rest (sym (rw is refl) ∙ e))

  -- what is found passes
  pub found_passes : (xs : List A) (x : A) → find p xs ≡ Some x → p x ≡ true
  found_passes [] x e = absurd (cc)
  found_passes (y ∷ xs) x e = go (p y) refl (found_passes xs x)
    where
      go : (b : Bool) → p y ≡ b → (find p xs ≡ Some x → p x ≡ true) → p x ≡ true
      go true is rest = let same : y ≡ x = some_same (sym (rw is refl) ∙ e) in subst (λ z. p z ≡ true) same is
      go false is rest = rest (sym (rw is refl) ∙ e)

  -- what was found is put back where an item of its name was put
  pub put_undone : (again : A → A) (n : A) → ((x : A) → p x ≡ true → p (again x) ≡ true) → (xs : List A) (x : A) → find p xs ≡ Some x → slice_set (put_by p again n xs) (place_by p (put_by p again n xs)) x ≡ xs
  put_undone again n passes [] x e = absurd (cc)
  put_undone again n passes (y ∷ xs) x e = go (p y) refl (put_undone again n passes xs x)
    where
      go : (b : Bool) → p y ≡ b → (find p xs ≡ Some x → slice_set (put_by p again n xs) (place_by p (put_by p again n xs)) x ≡ xs) →
          slice_set (put_by p again n (y ∷ xs)) (place_by p (put_by p again n (y ∷ xs))) x ≡ y ∷ xs
      go true is rest = let same : y ≡ x = some_same (sym (rw is refl) ∙ e) in rw is (rw (passes y is) (ap (λ z. z ∷ xs) (sym same)))
      go false is rest = rw is (rw is (ap (λ ys. y ∷ ys) (rest (sym (rw is refl) ∙ e))))

  -- where an item passes, what is put is a change
  pub put_changed : (again : A → A) (n : A) (xs : List A) → list_any p xs ≡ true → put_by p again n xs ≡ change_by p again xs
  put_changed again n [] h = absurd (true≢false (sym h))
  put_changed again n (x ∷ xs) h = go (p x) refl (put_changed again n xs)
    where
      go : (b : Bool) → p x ≡ b → (list_any p xs ≡ true → put_by p again n xs ≡ change_by p again xs) → put_by p again n (x ∷ xs) ≡ change_by p again (x ∷ xs)
      go true is rest = rw is refl
      go false is rest = let later = rest (sym (rw is refl) ∙ h) in rw is (ap (λ ys. x ∷ ys) later)

  pub none_changed : (f : A → A) (xs : List A) → list_any p xs ≡ false → xs ≡ change_by p f xs
  none_changed f [] h = refl
  none_changed f (x ∷ xs) h = go (p x) refl (none_changed f xs)
    where
      go : (b : Bool) → p x ≡ b → (list_any p xs ≡ false → xs ≡ change_by p f xs) → x ∷ xs ≡ change_by p f (x ∷ xs)
      go true is rest = absurd (true≢false (sym (rw is refl) ∙ h))
      go false is rest = let later = rest (sym (rw is refl) ∙ h) in rw is (ap (λ ys. x ∷ ys) later)

  -- a change that undoes what was put
  pub change_undone : (again f : A → A) (n : A) → ((x : A) → p x ≡ true → p (again x) ≡ true) → (xs : List A) (x : A) → find p xs ≡ Some x → f (again x) ≡ x → change_by p f (put_by p again n xs) ≡ xs
  change_undone again f n passes [] x e undoes = absurd (cc)
  change_undone again f n passes (y ∷ xs) x e undoes = go (p y) refl (λ k. change_undone again f n passes xs x k undoes)
    where
      go : (b : Bool) → p y ≡ b → (find p xs ≡ Some x → change_by p f (put_by p again n xs) ≡ xs) → change_by p f (put_by p again n (y ∷ xs)) ≡ y ∷ xs
      go true is rest = let same : y ≡ x = some_same (sym (rw is refl) ∙ e) in rw is (rw (passes y is) (ap (λ z. z ∷ xs) (ap (λ z. f (again z)) same ∙ undoes ∙ sym same)))
      go false is rest = rw is (rw is (ap (λ ys. y ∷ ys) (rest (sym (rw is refl) ∙ e))))
