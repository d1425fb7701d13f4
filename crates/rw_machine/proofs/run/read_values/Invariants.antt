use Rattle.std.proofs.Common.{◌≡◌, take}
use Rattle.rw_evaluation.specs.Stored.{map_of, all_meant}
use Rattle.rw_machine.specs.Kept.{values_in}
use Rattle.rw_machine.proofs.run.read_values.Given as goal

abbrev pub invariant-loop-global : goal.invariant-loop-global
invariant-loop-global l = all_meant l.values ≡ values_in (map_of l.store) (take l.global-index l.globals)
