use Rattle.rw_runs.proofs.Theorems.{turns_law}
use Rattle.rw_runs.proofs.laws.turns.Goals as goal

pub returns : goal.returns
returns c = turns_law
