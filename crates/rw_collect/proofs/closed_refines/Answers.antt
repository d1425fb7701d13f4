use Rattle.rw_collect.proofs.Closed.{closed_refined}
use Rattle.rw_collect.proofs.closed_refines.Goals as goal

pub returns : goal.returns
returns c = closed_refined
