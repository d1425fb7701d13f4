use Rattle.rw_runs.proofs.Theorems.{end_law}
use Rattle.rw_runs.proofs.laws.sure_end.Goals as goal

pub returns : goal.returns
returns c = end_law
