use Rattle.rw_nodes.proofs.There.{obligations_there}
use Rattle.rw_nodes.proofs.parts.obligations_there.Goals as goal

pub returns : goal.returns
returns c = λ most l parts p k m. obligations_there l parts.main p k m.main
