use Rattle.std.proofs.Common.{◌≡◌, ◌++◌, drop}
use Rattle.rw_project.specs.Texts.{kids_text}
use Rattle.rw_project.proofs.texts.push_kids.Given as goal

abbrev pub invariant-loop-kid : goal.invariant-loop-kid
invariant-loop-kid l = l.text ++ kids_text (drop l.kid-index l.kids) ≡ l.initial.text ++ kids_text l.kids
