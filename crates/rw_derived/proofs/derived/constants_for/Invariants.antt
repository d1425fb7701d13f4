use Rattle.std.proofs.Common.{◌≡◌, ◌++◌, drop, length}
use Rattle.rw_derived.specs.Derived.{constants_for}
use Rattle.rw_derived.proofs.derived.constants_for.Given as goal

abbrev pub invariant-loop-i : goal.invariant-loop-i
invariant-loop-i l = record {
  long : length l.frame ≡ length l.names;
  rest : l.entries ++ constants_for l.scope (drop l.i l.frame) (drop l.i l.names) ≡ constants_for l.scope l.frame l.names;
}
