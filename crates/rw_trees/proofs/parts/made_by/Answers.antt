use Rattle.rw_trees.proofs.Making.{made_by}
use Rattle.rw_trees.proofs.parts.made_by.Goals as goal

pub returns : goal.returns
returns c = λ most l e parts m. made_by most l parts m e
