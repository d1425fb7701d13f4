use Rattle.std.proofs.Common.{map, take}
use Rattle.rw_wpview.specs.Kept.{Answers}
use Rattle.rw_wpview.specs.Arms.{turn_of}
use Rattle.rw_wpview.proofs.owed.turns.Given as goal

abbrev pub invariant-loop-arm : goal.invariant-loop-arm
invariant-loop-arm l = Answers (map (turn_of l.inner l.number l.variant l.fn.invariant) (take l.arm-index l.arms)) l.owed
