use Rattle.std.proofs.Common.{◌≡◌, ◌+◌, ◌≤◌, map, min, drop}
use Rattle.rw_trees.specs.Nodes.{total}
use Rattle.rw_derivation.specs.Seen.{seen}
use Rattle.rw_derivation.specs.Weight.{tree_weight}
use Rattle.rw_derivation.proofs.weight.trees_weight.Given as goal

-- the weight so far and that of the trees that are left
abbrev pub invariant-loop-tree : goal.invariant-loop-tree
invariant-loop-tree l = record {
  fits : l.sum ≤ 18446744073709551615;
  is : min (l.sum + total (map (tree_weight (seen l.around) l.parts.globals l.parts.root) (drop l.tree-index l.parts.trees))) 18446744073709551615 ≡ min (total (map (tree_weight (seen l.around) l.parts.globals l.parts.root) l.parts.trees)) 18446744073709551615;
}
