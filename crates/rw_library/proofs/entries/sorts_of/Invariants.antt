use Rattle.std.proofs.Common.{◌≡◌, take}
use Rattle.rw_library.specs.Entries.{sorts_of}
use Rattle.rw_library.proofs.entries.sorts_of.Given as goal

abbrev pub invariant-loop-sort : goal.invariant-loop-sort
invariant-loop-sort l = l.sorts ≡ sorts_of (take l.sort-index l.params)
