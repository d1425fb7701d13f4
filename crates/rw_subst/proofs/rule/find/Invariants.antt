use Rattle.std.proofs.Common.{◌≡◌, drop}
use Rattle.rw_subst.specs.Slots.{changed}
use Rattle.rw_subst.proofs.rule.find.Given as goal

abbrev pub invariant-loop-change : goal.invariant-loop-change
invariant-loop-change l = changed (drop l.change-index l.changes) l.form l.name ≡ changed l.changes l.form l.name
