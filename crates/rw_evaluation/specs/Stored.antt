-- What the values that a run keeps stand for.
use Rattle.std.specs.Prelude.{ℕ, ◌+◌, cond, bytes_eq, List, [], ◌∷◌, map, Option, Some, None, Result, Ok, Err, option_map, reverse}
use Rattle.rw_terms.specs.State.{Value, Whole, Cells, State as Map}
use Rattle.rw_programs.specs.State.{Name, empty, put}
use Rattle.rw_evaluation.specs.declared.stop.Stop.{Stop}
use Rattle.rw_evaluation.specs.declared.value.Value.{Value as RunValue}
use Rattle.rw_evaluation.specs.declared.store.Binding.{Binding}
use Rattle.rw_evaluation.specs.Evaluation.{Seen}
use Rattle.rw_evaluation.specs.declared.value.Value.TheVariants as run_value

-- a value of a run as a value
abbrev pub meant : RunValue → Value
meant (run_value.Int z) = Whole z
meant (run_value.List l) = Cells l

abbrev pub all_meant : List RunValue → List (Option Value)
all_meant vs = map (λ v. Some (meant v)) vs

-- the values that names have: the first binding of a name counts
abbrev pub map_of : List Binding → Map
map_of [] = empty
map_of (b ∷ bs) = put b.name (option_map meant b.value) (map_of bs)

-- what was seen, as a value
abbrev pub sight : Result RunValue Stop → Seen
sight (Ok v) = Ok (meant v)
sight (Err e) = Err e

-- what was seen of terms, as values: that of the first term stands last
abbrev pub sights : Result (List RunValue) Stop → Result (List (Option Value)) Stop
sights (Ok vs) = Ok (all_meant (reverse vs))
sights (Err e) = Err e

-- a place, so many further
abbrev pub further : ℕ → Option ℕ → Option ℕ
further n o = option_map (λ at. n + at) o

-- where the first binding of a name stands
abbrev pub place_of : Name → List Binding → Option ℕ
place_of x [] = None
place_of x (b ∷ bs) = cond (bytes_eq x b.name) (Some 0) (further 1 (place_of x bs))
