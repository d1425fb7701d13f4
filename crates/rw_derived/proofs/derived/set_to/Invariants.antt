use Rattle.std.proofs.Common.{◌≡◌, ◌++◌, drop, length}
use Rattle.rw_derived.specs.Derived.{set_to}
use Rattle.rw_derived.proofs.derived.set_to.Given as goal

abbrev pub invariant-loop-i : goal.invariant-loop-i
invariant-loop-i l = record {
  long : length l.names ≡ length l.terms;
  rest : l.changes ++ set_to (drop l.i l.names) (drop l.i l.terms) ≡ set_to l.names l.terms;
}
