use Rattle.rw_subst.proofs.KindLemmas.{names_have_one_kind, names_of_terms_have_one_kind}
use Rattle.rw_subst.proofs.laws.kinds.Goals as goal

pub returns : goal.returns
returns c = record { formulas = names_have_one_kind; terms = names_of_terms_have_one_kind }
