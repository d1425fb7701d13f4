use Rattle.std.proofs.Common.{◌≡◌, ◌++◌, drop}
use Rattle.rw_head_tests.specs.Modules.{abstract_in}
use Rattle.rw_head_tests.proofs.operations.abstract_in.Given as goal

abbrev pub invariant-loop-name : goal.invariant-loop-name
invariant-loop-name l = l.names ++ abstract_in l.module (drop l.name-index l.frame) ≡ abstract_in l.module l.frame
