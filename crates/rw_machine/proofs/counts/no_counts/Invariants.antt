use Rattle.std.proofs.Common.{◌≡◌, replicate}
use Rattle.rw_machine.specs.Outcome.{no_count}
use Rattle.rw_machine.proofs.counts.no_counts.Given as goal

abbrev pub invariant-loop : goal.invariant-loop
invariant-loop l = l.counts ≡ replicate l.counter no_count
