use Rattle.std.proofs.Common.{◌≡◌, replicate, None}
use Rattle.rw_trees.proofs.node.no_certs.Given as goal

abbrev pub invariant-loop-none : goal.invariant-loop-none
invariant-loop-none l = l.certs ≡ replicate l._none None
