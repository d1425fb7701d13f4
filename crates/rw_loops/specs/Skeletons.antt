-- The program that a step makes, with its kids left open.
use Rattle.rw_programs.specs.declared.prog.Prog.{Prog}
use Rattle.rw_programs.specs.declared.prog.Prog.TheVariants as prog
use Rattle.rw_loops.specs.declared.step.LoopStep.{LoopStep}
use Rattle.rw_loops.specs.declared.step.LoopStep.TheVariants as step
use Rattle.rw_loops.specs.Laws.{arms_from}

abbrev pub skeleton_of : LoopStep → Prog
skeleton_of (step.If guards) = prog.If (arms_from 1 guards)
skeleton_of (step.Do v guards) = prog.Do v (arms_from 1 guards)
skeleton_of (step.Block x sort) = prog.Block x sort (prog.Kid 1)
