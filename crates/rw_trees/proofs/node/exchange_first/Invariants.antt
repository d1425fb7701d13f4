use Rattle.std.proofs.Common.{◌≡◌, take}
use Rattle.rw_trees.specs.Nodes.{over}
use Rattle.rw_trees.proofs.node.exchange_first.Given as goal

-- the first items are exchanged
abbrev pub invariant-loop-i : goal.invariant-loop-i
invariant-loop-i g l = record {
  one : l.one ≡ over l.fn.one (take l.i l.fn.other);
  other : l.other ≡ over l.fn.other (take l.i l.fn.one);
}
