use Rattle.std.proofs.Common.{◌≡◌, ◌+◌, ◌*◌, map, drop}
use Rattle.rw_trees.specs.Nodes.{size, total}
use Rattle.rw_users.specs.Users.{kids_user, node_user}
use Rattle.rw_users.proofs.nodes.+users.Given as goal

-- the first user among the kids that are left is that among all
abbrev pub invariant-kids_user-loop-i : goal.invariant-kids_user-loop-i
invariant-kids_user-loop-i l = record {
  rest : kids_user l.name (map (node_user l.name) (drop l.i l.kids)) l.i l.fn.path ≡ kids_user l.name (map (node_user l.name) l.kids) 0 l.fn.path;
  same : l.path ≡ l.fn.path;
}

-- the nodes, and between a node and its kids the step from the one to the others
abbrev pub decreases-node_user : goal.decreases-node_user
decreases-node_user l = 2 * size l.node.now

abbrev pub decreases-kids_user : goal.decreases-kids_user
decreases-kids_user l = 2 * total (map size l.kids.now) + 1
