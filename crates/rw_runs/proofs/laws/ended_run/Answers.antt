use Rattle.rw_runs.proofs.Theorems.{ended_law}
use Rattle.rw_runs.proofs.laws.ended_run.Goals as goal

pub returns : goal.returns
returns c = ended_law
