use Rattle.std.proofs.Common.{◌∙◌, sym, subst}
use Rattle.rw_nodes.specs.Parts.{Makes}
use Rattle.rw_tree.proofs.Same.{made_good, parts_same, edited_same}
use Rattle.rw_tree.proofs.laws.read_backwards.Goals as goal

pub returns-clause-made : goal.returns-clause-made
returns-clause-made c = λ most l good. subst (Makes most l) (sym (edited_same most l)) (made_good most l good)

pub returns-clause-only : goal.returns-clause-only
returns-clause-only c = λ most l parts good made. parts_same most l parts good made ∙ sym (edited_same most l)
