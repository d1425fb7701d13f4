use Rattle.std.proofs.Common.{◌≡◌, take}
use Rattle.rw_trees.proofs.copying.copy_trees.Given as goal

abbrev pub invariant-loop-tree : goal.invariant-loop-tree
invariant-loop-tree l = l.copies ≡ take l.tree-index l.trees
