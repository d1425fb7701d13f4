use Rattle.std.proofs.Common.{◌≡◌, drop}
use Rattle.rw_fits.specs.Fits.{modules_fit}
use Rattle.rw_fits.proofs.fitting.modules_fit.Given as goal

abbrev pub invariant-loop-owner : goal.invariant-loop-owner
invariant-loop-owner l = modules_fit l.code l.fn.modules ≡ modules_fit l.code (drop l.owner-index l.modules)
