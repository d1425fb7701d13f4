use Rattle.std.proofs.Common.{◌≡◌, [], take, drop}
use Rattle.rw_lemmas.specs.Refusals.{first_late}
use Rattle.rw_lemmas.proofs.refusal.first_late.Given as goal

abbrev pub invariant-loop-i : goal.invariant-loop-i
invariant-loop-i l = first_late (take l.i l.entries) (drop l.i l.entries) ≡ first_late [] l.entries
