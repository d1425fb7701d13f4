use Rattle.std.proofs.Common.{◌≡◌, ◌+◌, drop}
use Rattle.rw_trees.specs.Edits.{param_place}
use Rattle.rw_trees.proofs.globals.param_place.Given as goal

abbrev pub invariant-loop-i : goal.invariant-loop-i
invariant-loop-i l = l.i + param_place (drop l.i l.params) l.name ≡ param_place l.params l.name
