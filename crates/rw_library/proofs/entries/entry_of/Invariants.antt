use Rattle.std.proofs.Common.{◌≡◌, drop}
use Rattle.rw_library.specs.Entries.{entry_of}
use Rattle.rw_library.proofs.entries.entry_of.Given as goal

abbrev pub invariant-loop-entry : goal.invariant-loop-entry
invariant-loop-entry l = entry_of (drop l.entry-index l.entries) l.name ≡ entry_of l.entries l.name
