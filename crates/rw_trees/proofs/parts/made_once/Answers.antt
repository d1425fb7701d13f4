use Rattle.rw_trees.proofs.Once.{made_once}
use Rattle.rw_trees.proofs.parts.made_once.Goals as goal

pub returns : goal.returns
returns c = made_once
