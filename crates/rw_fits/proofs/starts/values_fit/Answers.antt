use Rattle.rw_fits.proofs.Testing.{values_unlike}
use Rattle.rw_fits.proofs.starts.values_fit.Goals as goal

pub returns-then-globals-values : goal.returns-then-globals-values
returns-then-globals-values c = values_unlike c.args.globals.now c.args.values.now c.if-globals-values.true
