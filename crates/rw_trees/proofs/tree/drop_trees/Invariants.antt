use Rattle.std.proofs.Common.{◌≡◌, ◌+◌, length}
use Rattle.rw_trees.specs.Parts.{without_trees}
use Rattle.rw_trees.proofs.Dropped.{left}
use Rattle.rw_trees.proofs.tree.drop_trees.Given as goal

abbrev pub invariant-loop-seen : goal.invariant-loop-seen
invariant-loop-seen l = record {
  trees : left l.name l.at l.trees ≡ without_trees l.name l.fn.trees;
  count : l._seen + length l.trees ≡ length l.fn.trees + l.at;
}
