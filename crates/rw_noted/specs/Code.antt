-- The code of a program: its invariants are left out.
use Rattle.std.specs.Prelude.{List, [], ◌∷◌}
use Rattle.rw_programs.specs.declared.prog.Arm.{Arm}
use Rattle.rw_programs.specs.declared.prog.Prog.{Prog}
use Rattle.rw_programs.specs.declared.prog.Prog.TheViews as prog
use Rattle.rw_noted.specs.declared.noted.NotedArm.{NotedArm}
use Rattle.rw_noted.specs.declared.noted.Noted.{Noted, Skip, Assign, If', Do', Row_of-NotedArm, end_of-NotedArm, more_of-NotedArm}
use Rattle.rw_noted.specs.Made.{Seq, Block}

abbrev mutual
  pub code_of : Noted → Prog
  code_of Skip = Prog.Skip
  code_of (Assign names terms) = Prog.Assign names terms
  code_of (Seq c d) = prog.Seq (code_of c) (code_of d)
  code_of (If' shape arms) = prog.If (code_of_row arms)
  code_of (Do' variant invariant shape arms) = prog.Do variant (code_of_row arms)
  code_of (Block x sort c) = prog.Block x sort (code_of c)

  -- the same of guards and the programs behind them
  pub code_of_row : {m : _} → Row_of-NotedArm m → List Arm
  code_of_row end_of-NotedArm = []
  code_of_row (more_of-NotedArm g c rest) = record { guard = g; body = code_of c } ∷ code_of_row rest

-- the same of one guard and its program
abbrev pub code_of_arm : NotedArm → Arm
code_of_arm a = record { guard = a.guard; body = code_of a.body }
