use Rattle.std.proofs.Common.{◌≡◌, take}
use Rattle.rw_modules.specs.Heads.{entries}
use Rattle.rw_modules.proofs.states.entries.Given as goal

abbrev pub invariant-loop-param : goal.invariant-loop-param
invariant-loop-param l = l.entries ≡ entries l.kind (take l.param-index l.params)
