use Rattle.rw_lemmas.proofs.Sound.{good_is_valid}
use Rattle.rw_lemmas.proofs.laws.good_lemmas.Goals as goal

pub returns : goal.returns
returns c = good_is_valid
