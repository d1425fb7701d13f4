use Rattle.std.proofs.Common.{◌≡◌, ◌++◌, drop}
use Rattle.rw_project.specs.Session.{bodies}
use Rattle.rw_top.proofs.replies.spell.Given as goal

abbrev pub invariant-loop-line : goal.invariant-loop-line
invariant-loop-line l = l.text.items ++ bodies (drop l.line-index l.line-items) ≡ bodies l.line-items
