use Rattle.std.proofs.Common.{◌≡◌, drop}
use Rattle.rw_lemmas.specs.Differing.{next_user}
use Rattle.rw_lemmas.proofs.differing.next_user.Given as goal

abbrev pub invariant-loop-entry : goal.invariant-loop-entry
invariant-loop-entry l = next_user l.names (drop l.entry-index l.entries) ≡ next_user l.names l.entries
