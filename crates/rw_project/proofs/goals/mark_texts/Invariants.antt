use Rattle.std.proofs.Common.{◌≡◌, ◌++◌, map, drop}
use Rattle.rw_project.specs.Goals.{mark_text}
use Rattle.rw_project.proofs.goals.mark_texts.Given as goal

-- the lines so far and those of the marks that are left
abbrev pub invariant-loop-mark : goal.invariant-loop-mark
invariant-loop-mark l = l.texts ++ map mark_text (drop l.mark-index l.marks) ≡ map mark_text l.marks
