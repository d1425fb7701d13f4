use Rattle.rw_reader.proofs.Expressions.{exclusive, one_fault}
use Rattle.rw_reader.proofs.laws.one_fault.Goals as goal

pub returns : goal.returns
returns c = record { apart = exclusive; one = one_fault }
