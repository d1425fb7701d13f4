use Rattle.std.proofs.Common.{◌≡◌, drop, length}
use Rattle.rw_derived.specs.Causes.{any_ill_set}
use Rattle.rw_derived.proofs.parts.any_ill_set.Given as goal

abbrev pub invariant-loop-i : goal.invariant-loop-i
invariant-loop-i l = record {
  long : length l.names ≡ length l.terms;
  rest : any_ill_set l.scope (drop l.i l.names) (drop l.i l.terms) ≡ any_ill_set l.scope l.names l.terms;
}
