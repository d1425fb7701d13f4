use Rattle.std.proofs.Common.{◌≡◌, drop}
use Rattle.rw_project.specs.Texts.{closing_text}
use Rattle.rw_project.proofs.texts.closing_text.Given as goal

abbrev pub invariant-loop-mark : goal.invariant-loop-mark
invariant-loop-mark l = closing_text (drop l.mark-index l.marks) l.used ≡ closing_text l.marks l.used
