use Rattle.std.proofs.Common.{◌≡◌, [], map, drop}
use Rattle.rw_faults.specs.Faults.{any_bad, checked}
use Rattle.rw_procs.proofs.causes.any_bad.Given as goal

abbrev pub invariant-loop-arg : goal.invariant-loop-arg
invariant-loop-arg l = any_bad (map (checked l.scope []) l.fn.args) ≡ any_bad (map (checked l.scope []) (drop l.arg-index l.args))
