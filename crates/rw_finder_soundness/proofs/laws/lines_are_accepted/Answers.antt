use Rattle.rw_finder_soundness.proofs.Found.{found_accepted}
use Rattle.rw_finder_soundness.proofs.laws.lines_are_accepted.Goals as goal

pub returns : goal.returns
returns c = found_accepted
