use Rattle.std.proofs.Common.{◌≡◌, take}
use Rattle.rw_wpview.specs.Arms.{guards}
use Rattle.rw_wpview.proofs.loops.guards.Given as goal

abbrev pub invariant-loop-arm : goal.invariant-loop-arm
invariant-loop-arm l = l.guards ≡ guards (take l.arm-index l.arms)
