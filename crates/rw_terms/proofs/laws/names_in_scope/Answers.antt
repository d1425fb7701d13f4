use Rattle.rw_terms.proofs.Gathers.{names_are_exact}
use Rattle.rw_terms.proofs.Restricted.{valid_follows}
use Rattle.rw_terms.proofs.laws.names_in_scope.Goals as goal

pub returns : goal.returns
returns c = record { exact = names_are_exact; valid = valid_follows }
