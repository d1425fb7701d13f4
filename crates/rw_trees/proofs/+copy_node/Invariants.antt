use Rattle.std.proofs.Common.{◌≡◌, take}
use Rattle.rw_trees.proofs.+copy_node.Given as goal

abbrev pub invariant-copying::copy_nodes-loop-node : goal.invariant-copying::copy_nodes-loop-node
invariant-copying::copy_nodes-loop-node l = l.copies ≡ take l.node-index l.nodes
