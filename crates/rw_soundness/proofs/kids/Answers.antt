use Rattle.rw_soundness.proofs.AllReady.{kids_are_ready}
use Rattle.rw_soundness.proofs.kids.Goals as goal

pub returns : goal.returns
returns c = kids_are_ready
