use Rattle.std.proofs.Common.{◌≡◌, map, take}
use Rattle.rw_noted.specs.Code.{code_of_arm}
use Rattle.rw_noted.proofs.code.+code_of.Given as goal

abbrev pub invariant-code_of_arms-loop-arm : goal.invariant-code_of_arms-loop-arm
invariant-code_of_arms-loop-arm l = l.code ≡ map code_of_arm (take l.arm-index l.arms)
