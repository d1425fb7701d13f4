use Rattle.rw_faults.proofs.InPreorder.{first_in_preorder}
use Rattle.rw_faults.proofs.InFormula.{first_in_formula}
use Rattle.rw_faults.proofs.laws.faults_in_preorder.Goals as goal

pub returns : goal.returns
returns c = record { terms = first_in_preorder; formulas = first_in_formula }
