-- The counts of the loops of collected code, as they are kept, and where they are found.
use Rattle.std.specs.Prelude.{ℕ, ◌+◌, cond, List, [], ◌∷◌, Option, Some, None, bytes_eq, option_map}
use Rattle.rw_programs.specs.declared.prog.ProcCode.{ProcCode}
use Rattle.rw_programs.specs.declared.prog.ModCode.{ModCode}
use Rattle.rw_programs.specs.declared.prog.Code.{Code}
use Rattle.rw_programs.specs.declared.prog.Prog.{Prog}
use Rattle.rw_programs.specs.State.{Name}
use Rattle.rw_numbering.specs.declared.tables.BodyTally.{BodyTally}
use Rattle.rw_numbering.specs.declared.tables.ModuleTally.{ModuleTally}
use Rattle.rw_numbering.specs.declared.tables.CodeTally.{CodeTally}
use Rattle.rw_numbering.specs.Loops.{loops, bodies_loops, module_loops, all_loops}
use Rattle.rw_numbering.specs.Tallies.{tally_of}

-- the loops of a body, the first of which has this number
abbrev pub body_tally : ℕ → Prog → BodyTally
body_tally n c = record { first = n; tally = tally_of c }

-- so of bodies one after another
abbrev pub bodies_from : ℕ → List ProcCode → List BodyTally
bodies_from n [] = []
bodies_from n (e ∷ es) = body_tally n e.body ∷ bodies_from (n + loops e.body) es

-- so of a module, its start first
abbrev pub module_from : ℕ → ModCode → ModuleTally
module_from n d = record { start = body_tally n d.start; operations = bodies_from (n + loops d.start) d.operations }

abbrev pub modules_from : ℕ → List ModCode → List ModuleTally
modules_from n [] = []
modules_from n (d ∷ ds) = module_from n d ∷ modules_from (n + module_loops d) ds

-- so of collected code: main, the procedures, the modules
abbrev pub code_tally : Code → CodeTally
code_tally code = record {
  main = tally_of code.main;
  procs = bodies_from (loops code.main) code.procs;
  modules = modules_from (loops code.main + bodies_loops code.procs) code.modules;
  loops = all_loops code;
}

-- one place further
abbrev pub further : Option ℕ → Option ℕ
further o = option_map (λ at. 1 + at) o

-- where the first body of a name stands
abbrev pub place_of_body : Name → List ProcCode → Option ℕ
place_of_body f [] = None
place_of_body f (e ∷ es) = cond (bytes_eq e.name f) (Some 0) (further (place_of_body f es))

-- where the first module of a name stands
abbrev pub place_of_module : Name → List ModCode → Option ℕ
place_of_module m [] = None
place_of_module m (d ∷ ds) = cond (bytes_eq d.name m) (Some 0) (further (place_of_module m ds))
