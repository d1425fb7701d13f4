-- The states in which bodies and blocks begin.
use Rattle.std.specs.Prelude.{List, map, Option, Some, pos, replicate}
use Rattle.rw_terms.specs.declared.term.Sort.{Sort}
use Rattle.rw_terms.specs.declared.term.Sort.TheVariants.{Int, Array}
use Rattle.rw_terms.specs.State.{Value, Whole, Cells, State as Map}
use Rattle.rw_programs.specs.declared.prog.Param.{Param}
use Rattle.rw_programs.specs.declared.prog.ProcCode.{ProcCode}
use Rattle.rw_programs.specs.declared.prog.ModCode.{ModCode}
use Rattle.rw_programs.specs.State.{State, empty, alone, put_all, names_of}

-- the value of a name that was just introduced
abbrev pub zero_of : Sort → Value
zero_of Int = Whole (pos 0)
zero_of (Array n) = Cells (replicate n (pos 0))

abbrev pub zeros : List Param → List (Option Value)
zeros ps = map (λ p. Some (zero_of p.sort)) ps

-- a state of values and results, which are 0, beside what is held of a module
abbrev pub begun : Map → ProcCode → List (Option Value) → State
begun held e vs = alone (put_all (names_of e.results) (zeros e.results) (put_all (names_of e.values) vs held))

-- the module's state as zeros
abbrev pub started : ModCode → State
started d = alone (put_all (names_of d.state) (zeros d.state) empty)
