use Rattle.std.proofs.Common.{◌≡◌, [], map, drop, length}
use Rattle.rw_faults.specs.Faults.{each_fits, checked}
use Rattle.rw_procs.proofs.causes.fit_in.Given as goal

abbrev pub invariant-loop-i : goal.invariant-loop-i
invariant-loop-i l = record {
  long : length l.values ≡ length l.args;
  rest : each_fits (map (λ p. p.sort) (drop l.i l.values)) (map (checked l.scope []) (drop l.i l.args)) ≡ each_fits (map (λ p. p.sort) l.values) (map (checked l.scope []) l.args);
}
