use Rattle.rw_loops.proofs.SoundLaws.{counts_are_exact}
use Rattle.rw_loops.proofs.laws.counting.Goals as goal

pub returns : goal.returns
returns c = counts_are_exact
