use Rattle.rw_laws.proofs.Fitting.{counts_exact}
use Rattle.rw_laws.proofs.counts.counts_are_exact.Goals as goal

pub returns : goal.returns
returns c = counts_exact
