use Rattle.std.proofs.Common.{◌≡◌, drop, length}
use Rattle.rw_fits.specs.Fits.{values_fit}
use Rattle.rw_fits.proofs.starts.values_fit.Given as goal

abbrev pub invariant-loop-i : goal.invariant-loop-i
invariant-loop-i l = record {
  long : length l.globals ≡ length l.values;
  rest : values_fit (drop l.i l.globals) (drop l.i l.values) ≡ values_fit l.globals l.values;
}
