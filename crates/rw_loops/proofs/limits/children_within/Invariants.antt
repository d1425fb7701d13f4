use Rattle.std.proofs.Common.{◌≡◌, drop}
use Rattle.std.specs.List.{list_all}
use Rattle.rw_loops.specs.Limits.{child_within}
use Rattle.rw_loops.proofs.limits.children_within.Given as goal

abbrev pub invariant-loop-child : goal.invariant-loop-child
invariant-loop-child l = list_all child_within l.fn.children ≡ list_all child_within (drop l.child-index l.children)
