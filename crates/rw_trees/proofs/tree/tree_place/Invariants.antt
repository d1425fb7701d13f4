use Rattle.std.proofs.Common.{◌≡◌, ◌+◌, drop}
use Rattle.rw_trees.specs.Parts.{tree_place}
use Rattle.rw_trees.proofs.tree.tree_place.Given as goal

abbrev pub invariant-loop-i : goal.invariant-loop-i
invariant-loop-i l = l.i + tree_place (drop l.i l.trees) l.name ≡ tree_place l.trees l.name
