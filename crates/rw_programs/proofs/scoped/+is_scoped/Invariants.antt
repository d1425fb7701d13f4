use Rattle.std.proofs.Common.{◌≡◌, drop}
use Rattle.rw_programs.specs.Scoped.{arms_scoped}
use Rattle.rw_programs.proofs.scoped.+is_scoped.Given as goal

abbrev pub invariant-arms_scoped-loop-arm : goal.invariant-arms_scoped-loop-arm
invariant-arms_scoped-loop-arm l = arms_scoped l.opened l.scope l.fn.arms ≡ arms_scoped l.opened l.scope (drop l.arm-index l.arms)
