use Rattle.std.proofs.Common.{◌≡◌, ◌++◌, drop, length}
use Rattle.rw_derived.specs.Derived.{pinned_to}
use Rattle.rw_derived.proofs.derived.pinned_to.Given as goal

abbrev pub invariant-loop-i : goal.invariant-loop-i
invariant-loop-i l = record {
  long : length l.frame ≡ length l.names;
  rest : l.changes ++ pinned_to (drop l.i l.frame) (drop l.i l.names) ≡ pinned_to l.frame l.names;
}
