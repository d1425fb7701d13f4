use Rattle.std.proofs.Common.{◌≡◌, drop}
use Rattle.rw_machine.specs.CodeFits.{lacks}
use Rattle.rw_fits.proofs.names.lacks.Given as goal

abbrev pub invariant-loop-other : goal.invariant-loop-other
invariant-loop-other l = lacks l.number l.fn.numbers ≡ lacks l.number (drop l.other-index l.numbers)
