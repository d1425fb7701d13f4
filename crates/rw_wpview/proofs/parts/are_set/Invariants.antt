use Rattle.std.proofs.Common.{◌≡◌, drop, length}
use Rattle.rw_programs.specs.Scoped.{each_set}
use Rattle.rw_wpview.proofs.parts.are_set.Given as goal

abbrev pub invariant-loop-i : goal.invariant-loop-i
invariant-loop-i l = record {
  long : length l.names ≡ length l.terms;
  rest : each_set l.scope (drop l.i l.names) (drop l.i l.terms) ≡ each_set l.scope l.names l.terms;
}
