use Rattle.std.proofs.Common.{◌≡◌, ◌++◌, take, map}
use Rattle.rw_derivation.specs.Given.{entry_as}
use Rattle.rw_derivation.proofs.given.push_as.Given as goal

abbrev pub invariant-loop-param : goal.invariant-loop-param
invariant-loop-param l = l.entries ≡ l.fn.entries ++ map (entry_as l.kind) (take l.param-index l.params)
