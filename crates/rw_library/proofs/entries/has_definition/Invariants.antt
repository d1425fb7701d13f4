use Rattle.std.proofs.Common.{◌≡◌, drop}
use Rattle.rw_library.specs.Entries.{has_definition}
use Rattle.rw_library.proofs.entries.has_definition.Given as goal

abbrev pub invariant-loop-entry : goal.invariant-loop-entry
invariant-loop-entry l = has_definition l.name (drop l.entry-index l.entries) ≡ has_definition l.name l.entries
