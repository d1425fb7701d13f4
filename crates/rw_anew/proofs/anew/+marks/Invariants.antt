use Rattle.std.proofs.Common.{◌≡◌, ◌++◌, ◌+◌, ◌*◌, map, drop}
use Rattle.rw_nodes.specs.Nodes.{size, total}
use Rattle.rw_sites.specs.Derived.{sites, kid_sites}
use Rattle.rw_anew.specs.Anew.{mark_of}
use Rattle.rw_anew.specs.Cost.{sites_cost}
use Rattle.rw_anew.proofs.anew.+marks.Given as goal

-- the marks so far and those of the kids that are left
abbrev pub invariant-mark_kids-loop-i : goal.invariant-mark_kids-loop-i
invariant-mark_kids-loop-i g l = record {
  rest : l.marks ++ map (mark_of l.library) (kid_sites (map (sites l.heads) (drop l.i l.kids)) l.children l.i l.fn.path) ≡ l.fn.marks ++ map (mark_of l.library) (kid_sites (map (sites l.heads) l.kids) l.children 0 l.fn.path);
  same : l.path ≡ l.fn.path;
  cost : l.steps + sites_cost l.library (kid_sites (map (sites l.heads) (drop l.i l.kids)) l.children l.i l.fn.path) ≡ l.fn.steps + sites_cost l.library (kid_sites (map (sites l.heads) l.kids) l.children 0 l.fn.path);
}

-- the nodes, and between a node and its kids the step from the one to the others
abbrev pub decreases-mark_node : goal.decreases-mark_node
decreases-mark_node g l = 2 * size l.node.now

abbrev pub decreases-mark_kids : goal.decreases-mark_kids
decreases-mark_kids g l = 2 * total (map size l.kids.now) + 1
