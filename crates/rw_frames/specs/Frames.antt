-- What the states of the code stand for.
use Rattle.std.specs.Prelude.{ℕ, Option, Some, None, Result, Ok, Err, if◌then◌else◌, List, [], ◌∷◌, bytes_eq, cond}
use Rattle.rw_terms.specs.State.{State as Map}
use Rattle.rw_programs.specs.State.{Name, State, no_parts}
use Rattle.rw_evaluation.specs.declared.stop.Stop.{Stop}
use Rattle.rw_evaluation.specs.Stored.{map_of, further}
use Rattle.rw_frames.specs.declared.frame.Part.{Part}
use Rattle.rw_frames.specs.declared.frame.Frame.{Frame}

-- the values of the opened modules' names
abbrev pub parts_of : List Part → Name → Map
parts_of [] = no_parts
parts_of (p ∷ ps) = λ n. if bytes_eq n p.name then map_of p.store else parts_of ps n

abbrev pub state_of : Frame → State
state_of f = record { own = map_of f.own; part = parts_of f.parts }

-- what was made, or why it was not
abbrev pub made_of : {A : Type 0} → Result (Unit {0}) Stop → A → Result A Stop
made_of (Ok u) a = Ok a
made_of (Err w) a = Err w

-- where the first part of a module stands
abbrev pub place_of_part : Name → List Part → Option ℕ
place_of_part x [] = None
place_of_part x (p ∷ ps) = cond (bytes_eq x p.name) (Some 0) (further 1 (place_of_part x ps))

-- with other values of the names of one module
abbrev pub put_part : Name → Map → (Name → Map) → Name → Map
put_part x v m n = if bytes_eq n x then v else m n
