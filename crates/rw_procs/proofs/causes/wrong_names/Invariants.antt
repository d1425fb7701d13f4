use Rattle.std.proofs.Common.{◌≡◌, drop, length}
use Rattle.rw_procs.specs.Causes.{wrong_names}
use Rattle.rw_procs.proofs.causes.wrong_names.Given as goal

abbrev pub invariant-loop-i : goal.invariant-loop-i
invariant-loop-i l = record {
  long : length l.results ≡ length l.names;
  rest : wrong_names l.scope (drop l.i l.results) (drop l.i l.names) ≡ wrong_names l.scope l.results l.names;
}
