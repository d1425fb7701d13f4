use Rattle.std.proofs.Common.{◌≡◌, drop}
use Rattle.rw_project.specs.Goals.{mark_of}
use Rattle.rw_project.proofs.goals.mark_of.Given as goal

-- the node is looked for among the marks that are left
abbrev pub invariant-loop-mark : goal.invariant-loop-mark
invariant-loop-mark l = mark_of l.place (drop l.mark-index l.marks) ≡ mark_of l.place l.marks
