use Rattle.rw_loops.proofs.KidsReady.{kids_are_ready}
use Rattle.rw_loops.proofs.laws.kids.Goals as goal

pub returns : goal.returns
returns c = kids_are_ready
