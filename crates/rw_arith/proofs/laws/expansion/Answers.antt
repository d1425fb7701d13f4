use Rattle.rw_arith.proofs.ExpansionLaws.{expansion_law}
use Rattle.rw_arith.proofs.laws.expansion.Goals as goal

pub returns : goal.returns
returns c = expansion_law
