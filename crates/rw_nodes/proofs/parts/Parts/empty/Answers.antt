use Rattle.std.proofs.Common.{[], None, sym, subst}
use Rattle.rw_nodes.specs.Parts.{Makes}
use Rattle.rw_nodes.proofs.Making.{made_none}
use Rattle.rw_nodes.proofs.parts.Parts.empty.Goals as goal

pub returns : goal.returns
returns c = subst (Makes c.args.most []) (λ i. record { globals = sym c.new.ensures i; root = None; library = record { entries = sym c.new-2.ensures i }; proofs = sym c.new-3.ensures i; main = sym c.blank.ensures i; most = c.args.most }) (made_none c.args.most)
