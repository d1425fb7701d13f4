use Rattle.rw_lemmas.proofs.Reaching.{none_reaches_itself}
use Rattle.rw_lemmas.proofs.laws.no_definition_reaches_itself.Goals as goal

pub returns : goal.returns
returns c = none_reaches_itself
