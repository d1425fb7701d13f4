use Rattle.std.proofs.Common.{refl, sym, ◌∙◌}
use Rattle.rw_citations.proofs.Typed.{told_right}
use Rattle.rw_citations.proofs.instance.said_right.Goals as goal

pub returns : goal.returns
returns c = told_right c.beside_right.result _ _ _ _ c.beside_right.ensures c.in_ok-found.ensures (sym c.are_of.ensures ∙ c.if-not-are_of.false) refl
