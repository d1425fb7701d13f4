-- Where the entry of a name stands.
use Rattle.std.proofs.Common.{◌≡◌, ℕ, zero, suc, ◌<◌, ◌≤◌, Bool, true, false, if◌then◌else◌, List, [], ◌∷◌, ◌++◌, length, take, remove, Some, refl, sym, ap, ◌∙◌, arith, true≢false}
use Rattle.std.specs.Prelude.{slice_set}
use Rattle.std.specs.List.{slice_get}
use Rattle.rw_goals.specs.declared.library.Item.{Item}
use Rattle.rw_library.specs.Entries.{entry_name, is_entry, has_entry, put_entry, without_entry, before_entry, place_of}

pub place_within : (es : List Item) (x : List ℕ) → place_of es x ≤ length es
place_within [] x = omega arith
place_within (e ∷ es) x = go (is_entry x e) (place_within es x)
  where
    go : (b : Bool) → place_of es x ≤ length es → length (if b then [] else e ∷ before_entry es x) ≤ suc (length es)
    go true within = omega arith
    go false within = omega (arith, within)

pub before_taken : (es : List Item) (x : List ℕ) → take (place_of es x) es ≡ before_entry es x
before_taken [] x = refl
before_taken (e ∷ es) x = go (is_entry x e) (before_taken es x)
  where
    go : (b : Bool) → take (place_of es x) es ≡ before_entry es x → take (length (if b then [] else e ∷ before_entry es x)) (e ∷ es) ≡ (if b then [] else e ∷ before_entry es x)
    go true rest = refl
    go false rest = ap (λ ds. e ∷ ds) rest

pub place_found : (es : List Item) (x : List ℕ) → has_entry x es ≡ true → place_of es x < length es
place_found [] x h = absurd (true≢false (sym h))
place_found (e ∷ es) x h = go (is_entry x e) refl (place_found es x)
  where
    go : (b : Bool) → is_entry x e ≡ b → (has_entry x es ≡ true → place_of es x < length es) → place_of (e ∷ es) x < length (e ∷ es)
    go true is rest = rw is (omega arith)
    go false is rest = let within : place_of es x < length es = rest (sym (rw is refl) ∙ h) in rw is (omega (arith, within))

-- an entry that is there is put in its place
pub put_there : (es : List Item) (e : Item) → has_entry (entry_name e) es ≡ true → slice_set es (place_of es (entry_name e)) e ≡ put_entry es e
put_there [] e h = absurd (true≢false (sym h))
put_there (d ∷ es) e h = go (is_entry (entry_name e) d) refl (put_there es e)
  where
    go : (b : Bool) → is_entry (entry_name e) d ≡ b → (has_entry (entry_name e) es ≡ true → slice_set es (place_of es (entry_name e)) e ≡ put_entry es e) →
        slice_set (d ∷ es) (place_of (d ∷ es) (entry_name e)) e ≡ put_entry (d ∷ es) e
    go true is rest = rw is refl
    go false is rest = let later = rest (sym (rw is refl) ∙ h) in rw is (ap (λ ds. d ∷ ds) later)

-- one that is not goes last
pub put_last : (es : List Item) (e : Item) → has_entry (entry_name e) es ≡ false → put_entry es e ≡ es ++ e ∷ []
put_last [] e h = refl
put_last (d ∷ es) e h = go (is_entry (entry_name e) d) refl (put_last es e)
  where
    go : (b : Bool) → is_entry (entry_name e) d ≡ b → (has_entry (entry_name e) es ≡ false → put_entry es e ≡ es ++ e ∷ []) → put_entry (d ∷ es) e ≡ d ∷ es ++ e ∷ []
    go true is rest = absurd (true≢false (sym (rw is refl) ∙ h))
    go false is rest = let later = rest (sym (rw is refl) ∙ h) in rw is (ap (λ ds. d ∷ ds) later)

pub removed : (es : List Item) (x : List ℕ) → remove es (place_of es x) ≡ without_entry es x
removed [] x = refl
removed (e ∷ es) x = go (is_entry x e) refl (removed es x)
  where
    go : (b : Bool) → is_entry x e ≡ b → remove es (place_of es x) ≡ without_entry es x → remove (e ∷ es) (place_of (e ∷ es) x) ≡ without_entry (e ∷ es) x
    go true is rest = rw is refl
    go false is rest = rw is (ap (λ ds. e ∷ ds) rest)

-- what was taken out is put back
pub set_back : {A : Type 0} (xs : List A) (k : ℕ) (x y : A) → slice_get xs k ≡ Some x → slice_set (slice_set xs k y) k x ≡ xs
set_back [] k x y e = absurd (cc)
set_back (z ∷ xs) zero x y e = let is : z ≡ x = cc in ap (λ w. w ∷ xs) (sym is)
set_back (z ∷ xs) (suc k) x y e = ap (λ zs. z ∷ zs) (set_back xs k x y e)
