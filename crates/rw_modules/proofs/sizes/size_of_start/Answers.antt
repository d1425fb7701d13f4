use Rattle.std.proofs.Common.{◌≡◌, ◌∙◌, ◌+◌, ap, sym}
use Rattle.rw_terms.specs.declared.term.Formula.TheVariants as formula
use Rattle.rw_terms.specs.Size.{formula_weight, formula_depth}
use Rattle.rw_subst.specs.declared.slot.Slot.TheVariants as slot
use Rattle.rw_modules.proofs.Large.{some_weight, some_depth, and_weight, and_depth, under_size, joined_size}
use Rattle.rw_modules.proofs.sizes.size_of_start.Goals as goal

pub returns : goal.returns
returns c =
    let m = c.args.module.now in
    let both = formula.And m.start m.coupling in
    let n = sym c.len.ensures in
    let joined = joined_size m.start m.coupling both _ _ _ c.size_of.ensures c.size_of-2.ensures (and_weight m.start m.coupling) (and_depth m.start m.coupling) c.joined-coupled.ensures.weight c.joined-coupled.ensures.depth in
    under_size _ both _ _ _ joined (some_weight (λ x. slot.Var x) m.state both ∙ ap (λ n. n + formula_weight both) n) (some_depth (λ x. slot.Var x) m.state both ∙ ap (λ n. n + formula_depth both) n)
    c.under.ensures.weight c.under.ensures.depth
