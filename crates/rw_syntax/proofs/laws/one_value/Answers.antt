use Rattle.rw_syntax.proofs.Exact as lemmas
use Rattle.rw_syntax.proofs.laws.one_value.Goals as goal

pub returns : goal.returns
returns c = lemmas.one_value
