use Rattle.std.proofs.Common.{◌≡◌, drop}
use Rattle.rw_trees.specs.Edits.{is_param}
use Rattle.rw_trees.proofs.globals.is_param.Given as goal

abbrev pub invariant-loop-param : goal.invariant-loop-param
invariant-loop-param l = is_param (drop l.param-index l.params) l.name ≡ is_param l.params l.name
