use Rattle.std.proofs.Common.{◌≡◌, drop}
use Rattle.rw_machine.specs.CodeFits.{differ}
use Rattle.rw_fits.proofs.names.differ.Given as goal

abbrev pub invariant-loop-i : goal.invariant-loop-i
invariant-loop-i l = differ (drop l.i l.names) ≡ differ l.names
