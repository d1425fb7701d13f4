use Rattle.rw_project.proofs.Shown.{closed_exactly}
use Rattle.rw_project.proofs.laws.shown_closed_exactly.Goals as goal

pub returns : goal.returns
returns c = closed_exactly
