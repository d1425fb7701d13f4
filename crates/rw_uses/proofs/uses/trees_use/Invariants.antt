use Rattle.std.proofs.Common.{◌≡◌, ◌&&◌, drop}
use Rattle.std.specs.List.{list_any}
use Rattle.rw_edits.specs.Names.{goes_with}
use Rattle.rw_uses.specs.Uses.{node_uses}
use Rattle.rw_uses.proofs.uses.trees_use.Given as goal

abbrev pub invariant-loop-tree : goal.invariant-loop-tree
invariant-loop-tree l = list_any (λ t. goes_with l.entry t.name && node_uses l.name t.top) (drop l.tree-index l.trees) ≡ list_any (λ t. goes_with l.entry t.name && node_uses l.name t.top) l.trees
