use Rattle.rw_runs.proofs.Theorems.{aborts_law, ends_law}
use Rattle.rw_runs.proofs.laws.sure_run.Goals as goal

pub returns-clause-aborts : goal.returns-clause-aborts
returns-clause-aborts c = aborts_law

pub returns-clause-ends : goal.returns-clause-ends
returns-clause-ends c = ends_law
