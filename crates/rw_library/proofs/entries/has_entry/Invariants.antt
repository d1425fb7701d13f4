use Rattle.std.proofs.Common.{◌≡◌, drop}
use Rattle.rw_library.specs.Entries.{has_entry}
use Rattle.rw_library.proofs.entries.has_entry.Given as goal

abbrev pub invariant-loop-entry : goal.invariant-loop-entry
invariant-loop-entry l = has_entry l.name (drop l.entry-index l.entries) ≡ has_entry l.name l.entries
