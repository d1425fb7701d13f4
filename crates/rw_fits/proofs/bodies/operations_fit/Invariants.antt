use Rattle.std.proofs.Common.{◌≡◌, drop}
use Rattle.rw_fits.specs.Fits.{operations_fit}
use Rattle.rw_fits.proofs.bodies.operations_fit.Given as goal

abbrev pub invariant-loop-entry : goal.invariant-loop-entry
invariant-loop-entry l = operations_fit l.code l.owner l.fn.operations ≡ operations_fit l.code l.owner (drop l.entry-index l.operations)
