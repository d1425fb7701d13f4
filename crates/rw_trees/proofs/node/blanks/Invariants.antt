use Rattle.std.proofs.Common.{◌≡◌, replicate}
use Rattle.rw_trees.specs.Nodes.{blank}
use Rattle.rw_trees.proofs.node.blanks.Given as goal

abbrev pub invariant-loop-blank : goal.invariant-loop-blank
invariant-loop-blank l = l.nodes ≡ replicate l._blank blank
