use Rattle.rw_accepting.proofs.Bounded.{bounded_made}
use Rattle.rw_accepting.proofs.laws.bounds.Goals as goal

pub returns : goal.returns
returns c = λ most l parts good m. bounded_made most l parts good m
