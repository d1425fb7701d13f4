use Rattle.std.proofs.Common.{◌≡◌, ◌∙◌, ◌+◌, ap, sym}
use Rattle.rw_subst.specs.declared.slot.Slot.TheVariants as slot
use Rattle.rw_terms.specs.Size.{formula_weight, formula_depth}
use Rattle.rw_modules.proofs.Large.{some_weight, some_depth, under_size}
use Rattle.rw_modules.proofs.sizes.size_of_pre.Goals as goal

pub returns : goal.returns
returns c =
    let ps = c.args.module.now.state in
    let pre = c.args.spec.now.pre in
    under_size _ pre _ _ _ c.size_of.ensures (some_weight (λ x. slot.Var x) ps pre ∙ ap (λ n. n + formula_weight pre) (sym c.len.ensures)) (some_depth (λ x. slot.Var x) ps pre ∙ ap (λ n. n + formula_depth pre) (sym c.len.ensures))
    c.under.ensures.weight c.under.ensures.depth
