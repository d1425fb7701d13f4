use Rattle.std.proofs.Common.{◌≡◌, drop}
use Rattle.rw_fits.specs.Fits.{procs_fit}
use Rattle.rw_fits.proofs.bodies.procs_fit.Given as goal

abbrev pub invariant-loop-entry : goal.invariant-loop-entry
invariant-loop-entry l = procs_fit l.code l.fn.procs ≡ procs_fit l.code (drop l.entry-index l.procs)
