-- Names that are reached from a start, directly or through others.
use Rattle.std.specs.Prelude.{◌≡◌, ℕ, zero, suc, Bool, true, ◌||◌, List, [], filter}
use Rattle.std.specs.List.{list_any}

module _ (main : List ℕ → Bool) (entry : List ℕ → List ℕ → Bool) where
  -- whether the start uses the name, or one of these names does
  abbrev pub is_reached : List (List ℕ) → List ℕ → Bool
  is_reached names x = main x || list_any (entry x) names

  -- No name is taken first. So many times, those are taken that are reached from those taken before.
  abbrev pub taken_after : List (List ℕ) → ℕ → List (List ℕ)
  taken_after order zero = []
  taken_after order (suc k) = filter (is_reached (taken_after order k)) order

  -- a test that what the start uses passes, and what a name uses that passes it
  pub record IsHandedOn (p : List ℕ → Bool) : Type 0 where
    pub own : (x : List ℕ) → main x ≡ true → p x ≡ true
    pub turn : (x y : List ℕ) → p y ≡ true → entry x y ≡ true → p x ≡ true
