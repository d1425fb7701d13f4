use Rattle.rw_fits.proofs.Testing.{code_tests, decided}
use Rattle.rw_fits.proofs.fitting.fits.Goals as goal

pub returns : goal.returns
returns c = decided c.code_fits.result (code_tests c.args.code.now c.args.globals.now) c.code_fits.ensures
