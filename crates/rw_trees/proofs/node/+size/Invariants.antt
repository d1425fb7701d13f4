use Rattle.std.proofs.Common.{◌≡◌, ◌+◌, map, drop}
use Rattle.rw_trees.specs.Nodes.{size, total}
use Rattle.rw_trees.proofs.node.+size.Given as goal

-- the sum so far and the nodes that are left
abbrev pub invariant-sizes-loop-i : goal.invariant-sizes-loop-i
invariant-sizes-loop-i l = l.sum + total (map size (drop l.i l.nodes)) ≡ total (map size l.nodes)
