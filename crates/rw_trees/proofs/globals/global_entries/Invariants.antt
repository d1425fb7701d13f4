use Rattle.std.proofs.Common.{◌≡◌, take, map}
use Rattle.rw_trees.specs.Edits.{global}
use Rattle.rw_trees.proofs.globals.global_entries.Given as goal

abbrev pub invariant-loop-param : goal.invariant-loop-param
invariant-loop-param l = l.entries ≡ map global (take l.param-index l.globals)
