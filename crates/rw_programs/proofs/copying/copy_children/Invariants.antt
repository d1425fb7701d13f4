use Rattle.std.proofs.Common.{◌≡◌, take}
use Rattle.rw_programs.proofs.copying.copy_children.Given as goal

abbrev pub invariant-loop-child : goal.invariant-loop-child
invariant-loop-child l = l.copies ≡ take l.child-index l.children
