use Rattle.std.proofs.Common.{◌≡◌, drop}
use Rattle.rw_project.specs.Texts.{lemmas_text}
use Rattle.rw_project.proofs.texts.lemmas_text.Given as goal

abbrev pub invariant-loop-mark : goal.invariant-loop-mark
invariant-loop-mark l = lemmas_text (drop l.mark-index l.used) ≡ lemmas_text l.used
