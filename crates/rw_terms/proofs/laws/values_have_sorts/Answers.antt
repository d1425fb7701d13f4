use Rattle.rw_terms.proofs.Typed.{sort_law}
use Rattle.rw_terms.proofs.laws.values_have_sorts.Goals as goal

pub returns : goal.returns
returns c = sort_law
