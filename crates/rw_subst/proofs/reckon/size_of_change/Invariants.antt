use Rattle.std.proofs.Common.{◌≡◌, drop}
use Rattle.rw_subst.specs.Slots.{changed}
use Rattle.rw_subst.proofs.reckon.size_of_change.Given as goal

abbrev pub invariant-loop-i : goal.invariant-loop-i
invariant-loop-i l = changed (drop l.i l.changes) l.form l.name ≡ changed l.changes l.form l.name
