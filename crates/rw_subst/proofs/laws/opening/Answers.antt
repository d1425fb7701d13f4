use Rattle.rw_subst.proofs.Replacing.{opening_keeps_truth, opening_holds_in_states}
use Rattle.rw_subst.proofs.laws.opening.Goals as goal

pub returns : goal.returns
returns c = record { truth = opening_keeps_truth; in_states = opening_holds_in_states }
