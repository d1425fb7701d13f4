use Rattle.std.proofs.Common.{◌≡◌, drop}
use Rattle.rw_wpview.specs.Misfits.{holds_of}
use Rattle.rw_wpview.specs.Arms.{of_some_arm}
use Rattle.rw_wpview.proofs.some.+of_some.Given as goal

-- the parts so far pass: what is left decides
abbrev pub invariant-of_arms-loop-arm : goal.invariant-of_arms-loop-arm
invariant-of_arms-loop-arm l = of_some_arm (holds_of l.heads l.frame l.test) l.scope l.fn.number l.arms ≡ of_some_arm (holds_of l.heads l.frame l.test) l.scope l.number (drop l.arm-index l.arms)
