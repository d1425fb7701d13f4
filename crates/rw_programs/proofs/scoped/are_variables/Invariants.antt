use Rattle.std.proofs.Common.{◌≡◌, drop}
use Rattle.rw_programs.specs.Scoped.{are_variables}
use Rattle.rw_programs.proofs.scoped.are_variables.Given as goal

abbrev pub invariant-loop-name : goal.invariant-loop-name
invariant-loop-name l = are_variables l.scope l.fn.names ≡ are_variables l.scope (drop l.name-index l.names)
