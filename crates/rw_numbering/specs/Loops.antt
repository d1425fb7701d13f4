-- How many loops stand in programs, and the numbers that those of collected code have.
use Rattle.std.specs.Prelude.{ℕ, suc, ◌+◌, cond, List, [], ◌∷◌, bytes_eq}
use Rattle.rw_programs.specs.declared.prog.Arm.{Arm}
use Rattle.rw_programs.specs.declared.prog.ProcCode.{ProcCode}
use Rattle.rw_programs.specs.declared.prog.ModCode.{ModCode}
use Rattle.rw_programs.specs.declared.prog.Code.{Code}
use Rattle.rw_programs.specs.declared.prog.Prog.{Prog, Spec, Kid, Skip, Assign, If', Do', Call, OpCall, Row_of-Arm, end_of-Arm, more_of-Arm}
use Rattle.rw_programs.specs.Made.{Seq, Block, Con, ModBlock}
use Rattle.rw_programs.specs.State.{Name}

abbrev mutual
  -- how many loops stand in a program
  pub loops : Prog → ℕ
  loops (Spec w) = 0
  loops (Kid n) = 0
  loops Skip = 0
  loops (Assign names terms) = 0
  loops (Seq c d) = loops c + loops d
  loops (If' shape arms) = row_loops arms
  loops (Do' variant shape arms) = suc (row_loops arms)
  loops (Block x sort c) = loops c
  loops (Con pins c) = loops c
  loops (Call f args names) = 0
  loops (OpCall m o args names) = 0
  loops (ModBlock m c) = loops c

  -- how many stand in the programs behind guards
  pub row_loops : {m : _} → Row_of-Arm m → ℕ
  row_loops end_of-Arm = 0
  row_loops (more_of-Arm g c rest) = loops c + row_loops rest

-- how many stand in the bodies before that of this name
abbrev pub loops_before : Name → List ProcCode → ℕ
loops_before f [] = 0
loops_before f (e ∷ es) = cond (bytes_eq e.name f) 0 (loops e.body + loops_before f es)

abbrev pub bodies_loops : List ProcCode → ℕ
bodies_loops [] = 0
bodies_loops (e ∷ es) = loops e.body + bodies_loops es

abbrev pub module_loops : ModCode → ℕ
module_loops d = loops d.start + bodies_loops d.operations

abbrev pub modules_before : Name → List ModCode → ℕ
modules_before m [] = 0
modules_before m (d ∷ ds) = cond (bytes_eq d.name m) 0 (module_loops d + modules_before m ds)

-- The loops are numbered from 0 by the text: those of main, of the procedures, of the modules, each module's start before its
-- operations. This is the number of the first one in the body of a procedure.
abbrev pub first_in_proc : Code → Name → ℕ
first_in_proc code f = loops code.main + loops_before f code.procs

-- so in the start of a module
abbrev pub first_in_start : Code → Name → ℕ
first_in_start code m = loops code.main + bodies_loops code.procs + modules_before m code.modules

-- so in the body of an operation
abbrev pub first_in_operation : Code → Name → ModCode → Name → ℕ
first_in_operation code m d o = first_in_start code m + loops d.start + loops_before o d.operations

-- how many loops stand in the programs behind guards
abbrev pub arms_loops : List Arm → ℕ
arms_loops [] = 0
arms_loops (a ∷ arms) = loops a.body + arms_loops arms

abbrev pub modules_loops : List ModCode → ℕ
modules_loops [] = 0
modules_loops (d ∷ ds) = module_loops d + modules_loops ds

-- how many loops stand in the code
abbrev pub all_loops : Code → ℕ
all_loops code = loops code.main + bodies_loops code.procs + modules_loops code.modules
