use Rattle.std.proofs.Common.{sym, ◌∙◌, subst}
use Rattle.rw_trees.specs.Parts.{Makes}
use Rattle.rw_accepting.proofs.Same.{edited_same, made_good, parts_same}
use Rattle.rw_accepting.proofs.laws.read_backwards.Goals as goal

pub returns-clause-made : goal.returns-clause-made
returns-clause-made c = λ most l good. subst (Makes most l) (sym (edited_same most l good)) (made_good most l good)

pub returns-clause-only : goal.returns-clause-only
returns-clause-only c = λ most l parts good m. parts_same most l parts good m ∙ sym (edited_same most l good)
