use Rattle.std.proofs.Common.{◌≡◌, take}
use Rattle.rw_goals.proofs.library.Library.copy.Given as goal

abbrev pub invariant-loop-entry : goal.invariant-loop-entry
invariant-loop-entry l = l.entries ≡ take l.entry-index l.self.entries
