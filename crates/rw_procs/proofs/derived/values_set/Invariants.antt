use Rattle.std.proofs.Common.{◌≡◌, ◌++◌, drop, length}
use Rattle.rw_programs.specs.State.{names_of}
use Rattle.rw_derived.specs.Derived.{set_to}
use Rattle.rw_procs.proofs.derived.values_set.Given as goal

abbrev pub invariant-loop-i : goal.invariant-loop-i
invariant-loop-i l = record {
  long : length l.values ≡ length l.args;
  rest : l.changes ++ set_to (names_of (drop l.i l.values)) (drop l.i l.args) ≡ set_to (names_of l.values) l.args;
}
