use Rattle.std.proofs.Common.{◌≡◌, drop}
use Rattle.rw_library.specs.Parameters.{keeps_sorts}
use Rattle.rw_library.proofs.parameters.keeps_sorts.Given as goal

abbrev pub invariant-loop-entry : goal.invariant-loop-entry
invariant-loop-entry l = keeps_sorts l.definition (drop l.entry-index l.entries) ≡ keeps_sorts l.definition l.entries
