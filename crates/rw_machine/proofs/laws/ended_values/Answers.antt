use Rattle.rw_machine.proofs.LeavingFits.{ends_have_values}
use Rattle.rw_machine.proofs.laws.ended_values.Goals as goal

pub returns : goal.returns
returns c = ends_have_values
