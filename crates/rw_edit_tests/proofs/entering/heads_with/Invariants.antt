use Rattle.std.proofs.Common.{◌≡◌, ◌++◌, drop}
use Rattle.rw_edit_tests.specs.Entering.{heads_with}
use Rattle.rw_edit_tests.proofs.entering.heads_with.Given as goal

abbrev pub invariant-loop-entry : goal.invariant-loop-entry
invariant-loop-entry l = l.heads ++ heads_with l.definition (drop l.entry-index l.entries) ≡ heads_with l.definition l.entries
