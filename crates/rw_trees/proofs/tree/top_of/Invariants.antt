use Rattle.std.proofs.Common.{◌≡◌, drop}
use Rattle.rw_trees.specs.Parts.{top_of}
use Rattle.rw_trees.proofs.tree.top_of.Given as goal

abbrev pub invariant-loop-tree : goal.invariant-loop-tree
invariant-loop-tree l = top_of (drop l.tree-index l.trees) l.name ≡ top_of l.trees l.name
