use Rattle.rw_machine.specs.Outcome.{start_of}
use Rattle.rw_machine.proofs.Standing.{Stands}
use Rattle.rw_machine.proofs.run.run_numbered.Given as goal

abbrev pub invariant-loop-done : goal.invariant-loop-done
invariant-loop-done l = Stands l.code (start_of l.globals l.start.values) l.limit l.done l.machine l.counts
