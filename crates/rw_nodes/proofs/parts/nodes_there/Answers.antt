use Rattle.rw_nodes.proofs.There.{nodes_there}
use Rattle.rw_nodes.proofs.parts.nodes_there.Goals as goal

pub returns : goal.returns
returns c = λ most l parts p m. nodes_there l parts.main p m.main
