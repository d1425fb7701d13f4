use Rattle.std.proofs.Common.{◌≡◌, drop}
use Rattle.rw_edit_tests.specs.Refusals.{frame_unknown}
use Rattle.rw_edit_tests.proofs.root.frame_unknown.Given as goal

abbrev pub invariant-loop-name : goal.invariant-loop-name
invariant-loop-name l = frame_unknown l.globals (drop l.name-index l.frame) ≡ frame_unknown l.globals l.frame
