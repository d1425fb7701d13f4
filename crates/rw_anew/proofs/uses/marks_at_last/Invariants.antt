use Rattle.std.proofs.Common.{◌≡◌}
use Rattle.rw_anew.specs.Uses.{marks_after}
use Rattle.rw_anew.proofs.uses.marks_at_last.Given as goal

abbrev pub invariant-loop-round : goal.invariant-loop-round
invariant-loop-round l = l.marks ≡ marks_after l.main l.entries l.proofs l._round
