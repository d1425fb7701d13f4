use Rattle.std.proofs.Common.{length}
use Rattle.rw_trees.proofs.node.Node.+graft.Given as goal

abbrev pub decreases-graft : goal.decreases-graft
decreases-graft l = length l.path.now
