use Rattle.std.proofs.Common.{◌≡◌, ◌++◌, drop, length}
use Rattle.rw_derived.specs.Derived.{pins_for}
use Rattle.rw_derived.proofs.derived.pins_for.Given as goal

abbrev pub invariant-loop-i : goal.invariant-loop-i
invariant-loop-i l = record {
  long : length l.frame ≡ length l.names;
  rest : l.pins ++ pins_for (drop l.i l.frame) (drop l.i l.names) ≡ pins_for l.frame l.names;
}
