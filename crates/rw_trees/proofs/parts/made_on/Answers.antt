use Rattle.rw_trees.proofs.Onward.{made_on}
use Rattle.rw_trees.proofs.parts.made_on.Goals as goal

pub returns : goal.returns
returns c = made_on
