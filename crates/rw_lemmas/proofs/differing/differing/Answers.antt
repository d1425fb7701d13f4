use Rattle.std.proofs.Common.{sym, subst}
use Rattle.rw_terms.specs.Validity.{Each}
use Rattle.rw_lemmas.specs.Differing.{Same}
use Rattle.rw_lemmas.proofs.Changed.{tells}
use Rattle.rw_lemmas.proofs.differing.differing.Goals as goal

pub returns : goal.returns
returns c =
    tells c.args.kind c.args.old.now c.args.new.now c.add_differing.new.names c.add_differing-2.new.names c.in_ok-add_differing-2.ensures.kept c.in_ok-add_differing.ensures.told c.in_ok-add_differing-2.ensures.told
    (c.in_ok-add_differing-2.ensures.each (c.in_ok-add_differing.ensures.each (subst (Each (λ x. Same c.args.kind c.args.old.now c.args.new.now x → ⊥)) (sym c.new-names.ensures) tt)))
