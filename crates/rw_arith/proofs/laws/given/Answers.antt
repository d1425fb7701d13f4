use Rattle.rw_arith.proofs.GivenLaws.{left_law, right_law}
use Rattle.rw_arith.proofs.laws.given.Goals as goal

pub returns : goal.returns
returns c = record { left = left_law; right = right_law }
