use Rattle.std.proofs.Common.{◌≡◌, drop}
use Rattle.rw_goals.specs.Closing.{have_common}
use Rattle.rw_goals.proofs.closing.have_common.Given as goal

abbrev pub invariant-loop-f : goal.invariant-loop-f
invariant-loop-f l = have_common (drop l.f-index l.left) l.right ≡ have_common l.left l.right
