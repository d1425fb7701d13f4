use Rattle.rw_terms.proofs.Agree.{values_agree, truth_agrees, truth_ignores}
use Rattle.rw_terms.proofs.laws.agreement.Goals as goal

pub returns : goal.returns
returns c = record { values = values_agree; truth = truth_agrees; ignores = truth_ignores }
