use Rattle.std.proofs.Common.{◌≡◌, ◌∙◌, ◌+◌, max, map, ap, sym}
use Rattle.rw_terms.specs.declared.term.Formula.TheVariants as formula
use Rattle.rw_terms.specs.Size.{formula_weight, formula_depth}
use Rattle.rw_subst.specs.declared.slot.Slot.TheVariants as slot
use Rattle.rw_subst.specs.Replaced.{replaced_formula, to_initial}
use Rattle.rw_modules.specs.Quantified.{for_some}
use Rattle.rw_modules.proofs.Large.{some_weight, some_depth, all_weight, all_depth, initial_weight, initial_depth, imp_weight, imp_depth, under_size, joined_size}
use Rattle.rw_modules.proofs.sizes.size_of_post.Goals as goal

pub returns : goal.returns
returns c =
    let ps = c.args.module.now.state in
    let w = c.args.spec.now in
    let before = replaced_formula (map to_initial w.frame) w.pre in
    let after = for_some (λ x. slot.Var x) ps w.post in
    let n = sym c.len-count.ensures in
    let inner = under_size _ w.post after _ _ c.size_of.ensures (some_weight (λ x. slot.Var x) ps w.post ∙ ap (λ n. n + formula_weight w.post) n)
    (some_depth (λ x. slot.Var x) ps w.post ∙ ap (λ n. n + formula_depth w.post) n) c.under-after.ensures.weight c.under-after.ensures.depth in
    let both = joined_size w.pre after (formula.Imp before after) _ _ _ c.size_of-2.ensures inner (imp_weight before after ∙ ap (λ n. n + formula_weight after + 1) (initial_weight w.frame w.pre))
    (imp_depth before after ∙ ap (λ n. max n (formula_depth after) + 1) (initial_depth w.frame w.pre)) c.joined.ensures.weight c.joined.ensures.depth in
    under_size _ (formula.Imp before after) _ _ _ both (all_weight (λ x. slot.Init x) ps (formula.Imp before after) ∙ ap (λ n. n + formula_weight (formula.Imp before after)) n)
    (all_depth (λ x. slot.Init x) ps (formula.Imp before after) ∙ ap (λ n. n + formula_depth (formula.Imp before after)) n) c.under.ensures.weight c.under.ensures.depth
