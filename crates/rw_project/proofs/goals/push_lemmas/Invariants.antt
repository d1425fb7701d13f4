use Rattle.std.proofs.Common.{◌≡◌, ◌++◌, drop, map}
use Rattle.rw_project.specs.Texts.{lemma_text}
use Rattle.rw_project.proofs.goals.push_lemmas.Given as goal

abbrev pub invariant-loop-mark : goal.invariant-loop-mark
invariant-loop-mark l = l.texts ++ map lemma_text (drop l.mark-index l.marks) ≡ l.initial.texts ++ map lemma_text l.marks
