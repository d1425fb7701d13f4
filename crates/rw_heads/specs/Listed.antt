-- Lists of which one item is told from the others by a test.
use Rattle.std.specs.Prelude.{ℕ, suc, Bool, if◌then◌else◌, List, [], ◌∷◌, bytes_eq}
use Rattle.std.specs.List.{list_any}

-- the first item that passes is changed; where none does, one more goes last
abbrev pub put_by : {A : Type 0} → (A → Bool) → (A → A) → A → List A → List A
put_by p again n [] = n ∷ []
put_by p again n (x ∷ xs) = if p x then again x ∷ xs else x ∷ put_by p again n xs

-- the first item that passes is changed
abbrev pub change_by : {A : Type 0} → (A → Bool) → (A → A) → List A → List A
change_by p f [] = []
change_by p f (x ∷ xs) = if p x then f x ∷ xs else x ∷ change_by p f xs

-- the first item that passes is taken away
abbrev pub without_by : {A : Type 0} → (A → Bool) → List A → List A
without_by p [] = []
without_by p (x ∷ xs) = if p x then xs else x ∷ without_by p xs

-- where the first item that passes stands, counted from 0, or how many there are
abbrev pub place_by : {A : Type 0} → (A → Bool) → List A → ℕ
place_by p [] = 0
place_by p (x ∷ xs) = if p x then 0 else suc (place_by p xs)

-- whether a name is among names
abbrev pub has_name : List ℕ → List (List ℕ) → Bool
has_name x names = list_any (λ y. bytes_eq y x) names

-- where a name stands, counted from 0, or how many there are
abbrev pub name_place : List ℕ → List (List ℕ) → ℕ
name_place x names = place_by (λ y. bytes_eq y x) names

-- the names with one, which is last if it is new
abbrev pub put_name : List (List ℕ) → List ℕ → List (List ℕ)
put_name names x = put_by (λ y. bytes_eq y x) (λ y. x) x names

-- the names but one
abbrev pub without_name : List ℕ → List (List ℕ) → List (List ℕ)
without_name x names = without_by (λ y. bytes_eq y x) names
