use Rattle.std.proofs.Common.{refl, sym, ◌∙◌}
use Rattle.rw_citations.proofs.Typed.{told_left}
use Rattle.rw_citations.proofs.instance.said_left.Goals as goal

pub returns : goal.returns
returns c = told_left c.beside_left.result _ _ _ _ c.beside_left.ensures c.in_ok-found.ensures (sym c.are_of.ensures ∙ c.if-not-are_of.false) refl
