use Rattle.std.proofs.Common.{◌≡◌, take}
use Rattle.rw_derived.proofs.derived.entries_again.Given as goal

abbrev pub invariant-loop-entry : goal.invariant-loop-entry
invariant-loop-entry l = l.entries ≡ take l.entry-index l.scope
