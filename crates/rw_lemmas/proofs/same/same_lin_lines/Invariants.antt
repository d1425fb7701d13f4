use Rattle.std.proofs.Common.{◌≡◌, take}
use Rattle.rw_lemmas.proofs.same.same_lin_lines.Given as goal

abbrev pub invariant-loop-i : goal.invariant-loop-i
invariant-loop-i l = take l.i l.ones ≡ take l.i l.others
