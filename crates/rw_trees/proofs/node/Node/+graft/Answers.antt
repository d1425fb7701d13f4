use Rattle.std.proofs.Common.{rules, sym, ◌∙◌}
use Rattle.rw_trees.proofs.Ways.{first_within, rest_some}
use Rattle.rw_trees.proofs.node.Node.+graft.Goals as goal

pub item_mut-kid-requires : goal.item_mut-kid-requires
item_mut-kid-requires t c = first_within _ _ (sym c.is_empty.ensures ∙ c.if-is_empty.false) c.requires

pub graft-requires : goal.graft-requires
graft-requires t c = (search rules, rest_some _ _ _ (sym c.is_empty.ensures ∙ c.if-is_empty.false) c.requires c.item_mut-kid.ensures.value)
