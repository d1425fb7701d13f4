use Rattle.std.proofs.Common.{◌≡◌, map, take}
use Rattle.rw_loops.specs.Laws.{if_kid}
use Rattle.rw_loops.proofs.alternation.if_kids.Given as goal

abbrev pub invariant-loop-guard : goal.invariant-loop-guard
invariant-loop-guard l = l.kids ≡ map (if_kid l.context l.spec) (take l.guard-index l.guards)
