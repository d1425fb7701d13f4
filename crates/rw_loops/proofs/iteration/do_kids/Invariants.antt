use Rattle.std.proofs.Common.{◌≡◌, map, take}
use Rattle.rw_loops.specs.Laws.{do_kid}
use Rattle.rw_loops.proofs.iteration.do_kids.Given as goal

abbrev pub invariant-loop-guard : goal.invariant-loop-guard
invariant-loop-guard l = l.kids ≡ map (do_kid l.context l.spec l.variant) (take l.guard-index l.guards)
