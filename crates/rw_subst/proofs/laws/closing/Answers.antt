use Rattle.rw_subst.proofs.Replacing.{closing_keeps_truth, closing_holds_in_states}
use Rattle.rw_subst.proofs.laws.closing.Goals as goal

pub returns : goal.returns
returns c = record { truth = closing_keeps_truth; in_states = closing_holds_in_states }
