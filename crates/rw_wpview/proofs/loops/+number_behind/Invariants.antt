use Rattle.std.proofs.Common.{◌≡◌, ◌+◌, drop}
use Rattle.rw_wpview.specs.Arms.{arm_loops}
use Rattle.rw_wpview.proofs.loops.+number_behind.Given as goal

abbrev pub invariant-number_behind_arms-loop-arm : goal.invariant-number_behind_arms-loop-arm
invariant-number_behind_arms-loop-arm l = l.number + arm_loops (drop l.arm-index l.arms) ≡ l.fn.number + arm_loops l.arms
