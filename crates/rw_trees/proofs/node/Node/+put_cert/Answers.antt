use Rattle.std.proofs.Common.{rules, sym, ◌∙◌}
use Rattle.rw_trees.proofs.Ways.{first_within, obligation_there, cert_within, rest_obligation}
use Rattle.rw_trees.proofs.node.Node.+put_cert.Goals as goal

pub set-requires : goal.set-requires
set-requires t c = cert_within _ _ _ (sym c.is_empty.ensures ∙ c.if-is_empty.true) c.requires

pub item_mut-kid-requires : goal.item_mut-kid-requires
item_mut-kid-requires t c = first_within _ _ (sym c.is_empty.ensures ∙ c.if-is_empty.false) (obligation_there _ _ _ c.requires)

pub put_cert-requires : goal.put_cert-requires
put_cert-requires t c = (search rules, rest_obligation _ _ _ _ (sym c.is_empty.ensures ∙ c.if-is_empty.false) c.requires c.item_mut-kid.ensures.value)
