use Rattle.std.proofs.Common.{◌≡◌, map, drop, length}
use Rattle.rw_faults.specs.Faults.{each_fits, checked}
use Rattle.rw_faults.proofs.faults.fit_in.Given as goal

abbrev pub invariant-loop-i : goal.invariant-loop-i
invariant-loop-i l = record {
  long : length l.sorts ≡ length l.args;
  rest : each_fits (drop l.i l.sorts) (map (checked l.scope l.binders) (drop l.i l.args)) ≡ each_fits l.sorts (map (checked l.scope l.binders) l.args);
}
