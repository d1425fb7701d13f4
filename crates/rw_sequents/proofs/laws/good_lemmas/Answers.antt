use Rattle.rw_sequents.proofs.Table.{rounds_are_valid, good_are_valid}
use Rattle.rw_sequents.proofs.laws.good_lemmas.Goals as goal

pub returns : goal.returns
returns c = record { rounds = rounds_are_valid; valid = good_are_valid }
