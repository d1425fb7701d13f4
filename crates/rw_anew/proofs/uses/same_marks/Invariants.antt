use Rattle.std.proofs.Common.{◌≡◌, drop}
use Rattle.rw_anew.specs.Marks.{same_marks}
use Rattle.rw_anew.proofs.uses.same_marks.Given as goal

abbrev pub invariant-loop-i : goal.invariant-loop-i
invariant-loop-i l = same_marks (drop l.i l.one) (drop l.i l.other) ≡ same_marks l.one l.other
