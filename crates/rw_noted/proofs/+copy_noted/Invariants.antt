use Rattle.std.proofs.Common.{◌≡◌, take}
use Rattle.rw_noted.proofs.+copy_noted.Given as goal

abbrev pub invariant-copying::copy_arms-loop-arm : goal.invariant-copying::copy_arms-loop-arm
invariant-copying::copy_arms-loop-arm l = l.copies ≡ take l.arm-index l.arms
