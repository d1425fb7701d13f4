-- The states of programs.
use Rattle.std.specs.Prelude.{◌≡◌, ℕ, Bool, true, false, ◌||◌, if◌then◌else◌, List, [], ◌∷◌, map, Option, Some, None, bytes_eq}
use Rattle.rw_terms.specs.declared.term.Sort.{Sort}
use Rattle.rw_terms.specs.declared.term.Formula.{Formula}
use Rattle.rw_terms.specs.declared.scope.Entry.{Entry}
use Rattle.rw_terms.specs.State.{Value, HasSort, State as Map, Fits as FitsMap}
use Rattle.rw_terms.specs.Truth.{Definition, holds}
use Rattle.rw_programs.specs.declared.prog.Param.{Param}

-- a name is its bytes
abbrev pub Name : Type 0
Name = List ℕ

-- a map from names to values, and beside it one such map for each opened concrete module
pub record State : Type 0 where
  pub own : Map
  pub part : Name → Map

-- the map that gives no name a value
abbrev pub empty : Map
empty x = None

-- no concrete module is opened
abbrev pub no_parts : Name → Map
no_parts m = empty

-- the state of these values alone
abbrev pub alone : Map → State
alone m = record { own = m; part = no_parts }

-- the state with other values beside the same modules
abbrev pub with_own : State → Map → State
with_own s m = record { own = m; part = s.part }

-- s gives each name of the scope a value of its sort and gives no other name one; no concrete module is opened
pub record Fits (scope : List Entry) (s : State) : Type 0 where
  pub names : FitsMap scope s.own
  pub parts : s.part ≡ no_parts

-- where a formula holds by a library: `s0` gives the initial variables, and `s` the variables and the constants
abbrev pub Holds : List Definition → Formula → State → State → Type 0
Holds library f s0 s = holds library f s0.own s.own []

abbrev pub is_in : Name → List Name → Bool
is_in x [] = false
is_in x (y ∷ ys) = bytes_eq x y || is_in x ys

-- the map with another value of one name, or with none
abbrev pub put : Name → Option Value → Map → Map
put x v m y = if bytes_eq y x then v else m y

-- each name is given what stands in its place in the list, and nothing where nothing stands there
abbrev pub put_all : List Name → List (Option Value) → Map → Map
put_all [] vs m = m
put_all (x ∷ xs) [] m = put x None (put_all xs [] m)
put_all (x ∷ xs) (v ∷ vs) m = put x v (put_all xs vs m)

-- what the map gives the names
abbrev pub read_all : List Name → Map → List (Option Value)
read_all xs m = map m xs

-- the map on these names alone
abbrev pub only : List Name → Map → Map
only xs m y = if is_in y xs then m y else None

-- the names of parameters
abbrev pub names_of : List Param → List Name
names_of ps = map (λ p. p.name) ps

-- a value for each parameter, of its sort
abbrev pub ValuesFor : List Param → List (Option Value) → Type 0
ValuesFor [] [] = Unit {0}
ValuesFor [] (v ∷ vs) = ⊥
ValuesFor (p ∷ ps) [] = ⊥
ValuesFor (p ∷ ps) (None ∷ vs) = ⊥
ValuesFor (p ∷ ps) (Some v ∷ vs) = HasSort v p.sort × ValuesFor ps vs

-- both have values of one sort, or none
abbrev pub SameSort : Option Value → Option Value → Type 0
SameSort None None = Unit {0}
SameSort None (Some v) = ⊥
SameSort (Some u) None = ⊥
SameSort (Some u) (Some v) = (sort : Sort) × HasSort u sort × HasSort v sort

-- t agrees with s off the frame, and gives each name of the frame a value of the sort that its value in s has
pub record Within (frame : List Name) (s t : State) : Type 0 where
  pub off : (x : Name) → is_in x frame ≡ false → t.own x ≡ s.own x
  pub sorts : (x : Name) → is_in x frame ≡ true → SameSort (s.own x) (t.own x)
  pub parts : t.part ≡ s.part
