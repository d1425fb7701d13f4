use Rattle.std.proofs.Common.{◌≡◌, ◌+◌, drop, map, ap, sym, ◌∙◌, subst, IfOk}
use Rattle.std.proofs.lemmas.List.{at_drop_more}
use Rattle.rw_terms.specs.declared.term.Formula.TheVariants.{And}
use Rattle.rw_subst.specs.Conj.{conj_with, disj}
use Rattle.rw_loops.specs.Guards.{guards_definedness}
use Rattle.rw_wpview.specs.Before.{before_set, for_all, before}
use Rattle.rw_wpview.specs.Arms.{guards, choice}
use Rattle.rw_wpview.specs.Kept.{kept}
use Rattle.rw_wpview.proofs.Rows.{seq_before, if_before, block_before}
use Rattle.rw_wpview.proofs.before.+before.Goals as goal

pub before-returns-in-Assign : goal.before-returns-in-Assign
before-returns-in-Assign t c = λ f e.
    let s = c.args.scope.now in
    subst (λ g. IfOk c.before_set.result (λ o. o ≡ kept g))
    ((λ i. before_set s (c.as_slice.ensures i) (c.as_slice-in-Assign.ensures i) f) ∙ ap (λ p. before s p f) (sym c.in-Assign.is))
    (c.before_set.ensures f e)

pub before-returns-in_ok-middle-in-Seq : goal.before-returns-in_ok-middle-in-Seq
before-returns-in_ok-middle-in-Seq t c = λ f e.
    let s = c.args.scope.now in
    subst (λ g. IfOk c.before-in-Seq-2.result (λ o. o ≡ kept g))
    ((λ i. before s (c.get-in-Seq.ensures i) (before s (c.get.ensures i) f)) ∙ (sym (seq_before s f c.in-Seq.first c.in-Seq.second) ∙ ap (λ p. before s p f) (sym c.in-Seq.is)))
    (c.before-in-Seq-2.ensures _ (c.in_ok-middle-in-Seq.ensures f e))

pub before-returns-in_ok-choice-in-If : goal.before-returns-in_ok-choice-in-If
before-returns-in_ok-choice-in-If t c = λ f e.
    let s = c.args.scope.now in
    subst (λ g. IfOk c.before_arms.result (λ o. o ≡ kept g))
    ((λ i. conj_with (And (guards_definedness s (guards (c.as_slice-in-If.ensures i))) (disj (guards (c.as_slice-in-If.ensures i)))) (map (choice s f) (c.as_slice-in-If-2.ensures i)))
    ∙ (sym (if_before s f c.in-If.arms) ∙ ap (λ p. before s p f) (sym c.in-If.is)))
    (c.before_arms.ensures f _ e c.in_ok-choice-in-If.ensures)

pub before-returns-in_ok-body-in-Block : goal.before-returns-in_ok-body-in-Block
before-returns-in_ok-body-in-Block t c = λ f e.
    let s = c.args.scope.now in
    subst (λ g. IfOk c.for_all.result (λ o. o ≡ kept g))
    (ap (for_all c.in-Block.name c.in-Block.sort) (λ i. before (c.in_ok-inner-in-Block.ensures i) (c.get-in-Block.ensures i) f)
    ∙ (sym (block_before s f c.in-Block.name c.in-Block.sort c.in-Block.body) ∙ ap (λ p. before s p f) (sym c.in-Block.is)))
    (c.for_all.ensures _ (c.in_ok-body-in-Block.ensures f e))

pub before_arms-loop-arm-preserved : goal.before_arms-loop-arm-preserved
before_arms-loop-arm-preserved t c = λ f g e k.
    let so_far = c.loop-arm.invariant f g e k in let i = c.loop-arm.arm-index in let arm = c.arm-item.result in let of = choice c.args.scope.now f in (
      And so_far.0 (of arm),
      c.in_ok-so_far.ensures so_far.0 (of arm) so_far.1 (c.in_ok-implied.ensures (before c.args.scope.now arm.body f) (c.in_ok-behind.ensures f e)),
      sym (at_drop_more (λ l. conj_with so_far.0 (map of l)) c.args.arms.now i arm c.loop-arm-test.true ∙ ap (λ y. conj_with (And so_far.0 (of y)) (map of (drop (i + 1) c.args.arms.now))) (sym c.arm-item.is)) ∙ so_far.2,
    )
