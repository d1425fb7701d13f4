use Rattle.std.proofs.Common.{◌≡◌, drop}
use Rattle.std.specs.List.{list_all}
use Rattle.rw_head_tests.specs.Modules.{is_own}
use Rattle.rw_head_tests.proofs.operations.are_own.Given as goal

abbrev pub invariant-loop-name : goal.invariant-loop-name
invariant-loop-name l = list_all (is_own l.module l.oper) (drop l.name-index l.frame) ≡ list_all (is_own l.module l.oper) l.frame
