use Rattle.std.proofs.Common.{◌≡◌, drop}
use Rattle.rw_project.specs.Goals.{lemma_of}
use Rattle.rw_project.proofs.goals.lemma_of.Given as goal

abbrev pub invariant-loop-mark : goal.invariant-loop-mark
invariant-loop-mark l = lemma_of l.name (drop l.mark-index l.marks) ≡ lemma_of l.name l.marks
