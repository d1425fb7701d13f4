use Rattle.std.proofs.Common.{◌≡◌, drop}
use Rattle.rw_faults.specs.Initial.{is_twice}
use Rattle.rw_faults.proofs.initial.is_twice.Given as goal

abbrev pub invariant-loop-at : goal.invariant-loop-at
invariant-loop-at l = is_twice (drop l.at l.names) ≡ is_twice l.names
