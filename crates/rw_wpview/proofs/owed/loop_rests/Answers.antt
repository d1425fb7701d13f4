use Rattle.std.proofs.Common.{ap, ◌∙◌}
use Rattle.rw_terms.specs.declared.term.Formula.TheVariants as formula
use Rattle.rw_subst.specs.Conj.{disj}
use Rattle.rw_loops.specs.Guards.{guards_definedness}
use Rattle.rw_wpview.specs.Kept.{kept}
use Rattle.rw_wpview.specs.Arms.{guards}
use Rattle.rw_wpview.proofs.owed.loop_rests.Goals as goal

pub returns : goal.returns
returns c = λ f e.
    let s = c.args.scope.now in let i = c.args.invariant.now in
    c.joined.ensures _ _
    (c.condition.ensures i (guards_definedness s (guards c.args.arms.now)) c.in_ok-kept_copy.ensures (c.in_ok-defined.ensures ∙ ap (λ gs. kept (guards_definedness s gs)) (c.as_slice.ensures ∙ c.in_ok-guards.ensures)))
    (c.condition-2.ensures (formula.And i (formula.Not (disj (guards c.args.arms.now)))) f (c.in_ok-end.ensures ∙ ap (λ gs. kept (formula.And i (formula.Not (disj gs)))) (c.as_slice-2.ensures ∙ c.in_ok-guards.ensures)) (c.in_ok-again.ensures ∙ e))
