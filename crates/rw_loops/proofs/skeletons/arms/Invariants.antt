use Rattle.std.proofs.Common.{◌≡◌, ◌++◌, suc, drop}
use Rattle.rw_loops.specs.Laws.{arms_from}
use Rattle.rw_loops.proofs.skeletons.arms.Given as goal

abbrev pub invariant-loop-guard : goal.invariant-loop-guard
invariant-loop-guard l = l.arms ++ arms_from (suc l.number) (drop l.guard-index l.guards) ≡ arms_from 1 l.fn.guards
