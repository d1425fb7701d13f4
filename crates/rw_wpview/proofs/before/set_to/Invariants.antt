use Rattle.std.proofs.Common.{◌≡◌, ◌++◌, drop}
use Rattle.rw_derived.specs.Derived.{set_to}
use Rattle.rw_wpview.proofs.before.set_to.Given as goal

abbrev pub invariant-loop-i : goal.invariant-loop-i
invariant-loop-i l = l.changes ++ set_to (drop l.i l.names) (drop l.i l.terms) ≡ set_to l.names l.terms
