use Rattle.std.proofs.Common.{ap, ◌∙◌, ◌&&◌}
use Rattle.rw_edits.specs.Names.{has_tree}
use Rattle.rw_trees.specs.Trees.{of_tree}
use Rattle.rw_trees.specs.Edits.{is_node}
use Rattle.rw_trees.proofs.Tops.{node_there}
use Rattle.rw_trees.proofs.parts.nodes_there.Goals as goal

pub returns : goal.returns
returns c = λ most l parts q m. node_there l q parts.trees m.tops ∙ ap (λ names. has_tree q.tree names && is_node (of_tree q.tree l) q.path.kids) m.names
