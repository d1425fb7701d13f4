use Rattle.std.proofs.Common.{◌≡◌, drop}
use Rattle.rw_library.specs.Entries.{sorts_of}
use Rattle.rw_library.specs.Parameters.{same_sorts}
use Rattle.rw_library.proofs.parameters.same_sorts.Given as goal

abbrev pub invariant-loop-i : goal.invariant-loop-i
invariant-loop-i l = same_sorts (sorts_of (drop l.i l.one)) (sorts_of (drop l.i l.other)) ≡ same_sorts (sorts_of l.one) (sorts_of l.other)
