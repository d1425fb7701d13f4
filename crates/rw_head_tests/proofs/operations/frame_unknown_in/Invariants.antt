use Rattle.std.proofs.Common.{◌≡◌, drop}
use Rattle.rw_head_tests.specs.Modules.{frame_unknown_in}
use Rattle.rw_head_tests.proofs.operations.frame_unknown_in.Given as goal

abbrev pub invariant-loop-name : goal.invariant-loop-name
invariant-loop-name l = frame_unknown_in l.scope (drop l.name-index l.frame) ≡ frame_unknown_in l.scope l.frame
