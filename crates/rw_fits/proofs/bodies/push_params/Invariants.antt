use Rattle.std.proofs.Common.{◌≡◌, ◌++◌, take}
use Rattle.rw_machine.specs.CodeFits.{entries_as}
use Rattle.rw_fits.proofs.bodies.push_params.Given as goal

abbrev pub invariant-loop-param : goal.invariant-loop-param
invariant-loop-param l = l.entries ≡ l.fn.entries ++ entries_as l.kind (take l.param-index l.params)
