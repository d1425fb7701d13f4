use Rattle.rw_arith.proofs.Refuting.{refuted}
use Rattle.rw_arith.proofs.laws.refutation.Goals as goal

pub returns : goal.returns
returns c = refuted
