use Rattle.rw_trees.proofs.Distinct.{trees_apart}
use Rattle.rw_trees.proofs.parts.trees_apart.Goals as goal

pub returns : goal.returns
returns c = trees_apart
