use Rattle.std.proofs.Common.{◌≡◌, ◌++◌, drop}
use Rattle.rw_library.specs.Entries.{heads_of}
use Rattle.rw_library.proofs.entries.heads_of.Given as goal

abbrev pub invariant-loop-entry : goal.invariant-loop-entry
invariant-loop-entry l = l.heads ++ heads_of (drop l.entry-index l.entries) ≡ heads_of l.entries
