use Rattle.std.proofs.Common.{◌≡◌, drop}
use Rattle.rw_machine.specs.CodeFits.{numbers_differ}
use Rattle.rw_fits.proofs.names.numbers_differ.Given as goal

abbrev pub invariant-loop-i : goal.invariant-loop-i
invariant-loop-i l = numbers_differ (drop l.i l.numbers) ≡ numbers_differ l.numbers
