use Rattle.rw_subst.proofs.Defining.{definedness_of_terms}
use Rattle.rw_subst.proofs.DefiningGuards.{definedness_of_guards}
use Rattle.rw_subst.proofs.laws.definedness.Goals as goal

pub returns : goal.returns
returns c = record { terms = definedness_of_terms; guards = definedness_of_guards }
