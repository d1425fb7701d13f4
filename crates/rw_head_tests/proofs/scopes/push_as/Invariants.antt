use Rattle.std.proofs.Common.{◌≡◌, ◌++◌, take}
use Rattle.rw_head_tests.specs.Procs.{entries_as}
use Rattle.rw_head_tests.proofs.scopes.push_as.Given as goal

abbrev pub invariant-loop-param : goal.invariant-loop-param
invariant-loop-param l = l.entries ≡ l.fn.entries ++ entries_as l.kind (take l.param-index l.params)
