use Rattle.std.proofs.Common.{◌≡◌, ℕ, ◌+◌, suc, ◌++◌, drop, map, ap, sym, ◌∙◌, subst, arith}
use Rattle.std.proofs.lemmas.List.{at_drop_more, append_assoc}
use Rattle.rw_wpview.specs.Loops.{loops}
use Rattle.rw_wpview.specs.Before.{before}
use Rattle.rw_wpview.specs.Conditions.{turned, loop_rests, of_loops}
use Rattle.rw_wpview.specs.Arms.{guards, turn_of, of_arms}
use Rattle.rw_wpview.specs.Kept.{Answers}
use Rattle.rw_wpview.proofs.Rows.{seq_conditions, block_conditions, if_conditions, do_conditions}
use Rattle.rw_wpview.proofs.owed.+of_loops.Goals as goal

pub of_loops-returns-in_ok-behind-in-Seq : goal.of_loops-returns-in_ok-behind-in-Seq
of_loops-returns-in_ok-behind-in-Seq t c = λ f e.
    let s = c.args.scope.now in let n = c.args.number in
    let middle = c.in_ok-middle-in-Seq.ensures f e in
    let behind = c.in_ok-behind-in-Seq.ensures ∙ ap (λ z. n + loops z) c.get-in-Seq.ensures in
    subst (λ w. Answers w c.joined.result)
    ((λ i. of_loops s n (c.get-in-Seq-2.ensures i) (before s (c.get.ensures i) f) ++ of_loops s (behind i) (c.get-in-Seq-3.ensures i) f)
    ∙ (sym (seq_conditions s n f c.in-Seq.first c.in-Seq.second) ∙ ap (λ p. of_loops s n p f) (sym c.in-Seq.is)))
    (c.joined.ensures _ _ (c.of_loops.ensures _ middle) (c.of_loops-in-Seq.ensures f e))

pub of_loops-returns-in-If : goal.of_loops-returns-in-If
of_loops-returns-in-If t c = λ f e.
    let s = c.args.scope.now in let n = c.args.number in
    subst (λ w. Answers w c.of_arms.result) (ap (λ l. of_arms s n l f) c.as_slice.ensures ∙ (sym (if_conditions s n f c.in-If.arms) ∙ ap (λ p. of_loops s n p f) (sym c.in-If.is))) (c.of_arms.ensures f e)

pub of_loops-returns-in_ok-next-in-Do : goal.of_loops-returns-in_ok-next-in-Do
of_loops-returns-in_ok-next-in-Do t c = λ f e.
    let s = c.args.scope.now in let n = c.args.number in let v = c.in-Do.variant in let i = c.in-Do.invariant in
    let after : c.in_ok-next-in-Do.field-0 ≡ suc n = omega (arith, c.in_ok-next-in-Do.ensures) in
    subst (λ w. Answers w c.joined-in-Do-2.result)
    ((λ j. loop_rests s i (guards (c.as_slice-in-Do.ensures j)) f ++ (map (turn_of (c.in_ok-inner-in-Do.ensures j) n v i) (c.as_slice-in-Do-2.ensures j) ++ of_arms (c.in_ok-inner-in-Do.ensures j) (after j) (c.as_slice-in-Do-3.ensures j) (turned n v i)))
    ∙ (sym (do_conditions s n v i f c.in-Do.arms) ∙ ap (λ p. of_loops s n p f) (sym c.in-Do.is)))
    (c.joined-in-Do-2.ensures _ _ (c.loop_rests-rests.ensures f e) (c.joined-in-Do.ensures _ _ c.turns-turns.ensures (c.of_arms-inside.ensures _ c.in_ok-turned-in-Do.ensures)))

pub of_loops-returns-in_ok-inner-in-Block : goal.of_loops-returns-in_ok-inner-in-Block
of_loops-returns-in_ok-inner-in-Block t c = λ f e.
    let s = c.args.scope.now in let n = c.args.number in
    subst (λ w. Answers w c.of_loops-in-Block.result)
    ((λ i. of_loops (c.in_ok-inner-in-Block.ensures i) n (c.get-in-Block.ensures i) f) ∙ (sym (block_conditions s n f c.in-Block.name c.in-Block.sort c.in-Block.body) ∙ ap (λ p. of_loops s n p f) (sym c.in-Block.is)))
    (c.of_loops-in-Block.ensures f e)

pub of_arms-loop-arm-preserved : goal.of_arms-loop-arm-preserved
of_arms-loop-arm-preserved t c = λ f e.
    let so_far = c.loop-arm.invariant f e in let s = c.args.scope.now in let i = c.loop-arm.arm-index in let arm = c.arm-item.result in let n = c.loop-arm.number in
    let rest = λ (m : ℕ). of_arms s m (drop (i + 1) c.args.arms.now) f in (
      so_far.0 ++ of_loops s n arm.body f,
      c.joined-owed.ensures _ _ so_far.1 (c.of_loops.ensures f e),
      append_assoc so_far.0 (of_loops s n arm.body f) (rest c.in_ok-number.number)
          ∙ (ap (λ m. so_far.0 ++ (of_loops s n arm.body f ++ rest m)) c.in_ok-number.ensures
          ∙ (sym (ap (λ qs. so_far.0 ++ qs) (at_drop_more (λ l. of_arms s n l f) c.args.arms.now i arm c.loop-arm-test.true ∙ ap (λ y. of_loops s n y.body f ++ of_arms s (n + loops y.body) (drop (i + 1) c.args.arms.now) f) (sym c.arm-item.is))) ∙ so_far.2)),
    )
