use Rattle.std.proofs.Common.{◌≡◌, drop}
use Rattle.rw_programs.specs.CodeTest.{arms_are_code}
use Rattle.rw_programs.proofs.code.+is_code.Given as goal

-- the guards and programs so far are those of code: what is left decides
abbrev pub invariant-are_code-loop-arm : goal.invariant-are_code-loop-arm
invariant-are_code-loop-arm l = arms_are_code l.fn.arms ≡ arms_are_code (drop l.arm-index l.arms)
