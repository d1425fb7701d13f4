use Rattle.std.proofs.Common.{◌≡◌, take}
use Rattle.rw_anew.proofs.copying.copy_lemma_marks.Given as goal

abbrev pub invariant-loop-mark : goal.invariant-loop-mark
invariant-loop-mark l = l.copies ≡ take l.mark-index l.marks
