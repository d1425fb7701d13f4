use Rattle.std.proofs.Common.{ap, ◌∙◌, ◌&&◌}
use Rattle.rw_edits.specs.Names.{has_tree}
use Rattle.rw_trees.specs.Trees.{of_tree}
use Rattle.rw_trees.specs.Edits.{is_node, has_obligation_of}
use Rattle.rw_trees.proofs.Tops.{obligation_there}
use Rattle.rw_trees.proofs.parts.obligations_there.Goals as goal

pub returns : goal.returns
returns c = λ most l parts q k m. obligation_there l q k parts.trees m.tops ∙ ap (λ names. has_tree q.tree names && (is_node (of_tree q.tree l) q.path.kids && has_obligation_of (of_tree q.tree l) q.path.kids k)) m.names
