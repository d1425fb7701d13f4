use Rattle.std.proofs.Common.{◌≡◌, ◌+◌, suc, Bool, true, false, ◌||◌, ap, sym, ◌∙◌, subst, IfOk, arith, refl}
use Rattle.rw_wpview.specs.Loops.{loops, with_local}
use Rattle.rw_wpview.specs.Misfits.{Variant, Invariant, Local, holds_of, of_some}
use Rattle.rw_wpview.specs.Arms.{of_some_arm}
use Rattle.rw_wpview.proofs.Rows.{seq_some, if_some, do_some, block_some}
use Rattle.rw_wpview.proofs.some.+of_some.Goals as goal

behind_none : (a b : Bool) → a ≡ false → b ≡ (a || b)
behind_none a b e = ap (λ x. x || b) (sym e)

behind_two : (a b d : Bool) → (a || b) ≡ false → d ≡ (a || (b || d))
behind_two true b d e = absurd (cc)
behind_two false true d e = absurd (cc)
behind_two false false d e = refl

pub of_some-returns-then-branch : goal.of_some-returns-then-branch
of_some-returns-then-branch t c =
    let is = holds_of c.args.heads.now c.args.frame.now c.args.test in let s = c.args.scope.now in let n = c.args.number in
    let first : of_some is s n c.in-Seq.first ≡ true = sym (ap (of_some is s n) c.get.ensures) ∙ (sym c.in_ok-of_some-in-Seq.ensures ∙ c.if-branch.true) in
    sym (ap (of_some is s n) c.in-Seq.is ∙ (seq_some is s n c.in-Seq.first c.in-Seq.second ∙ ap (λ b. b || of_some is s (n + loops c.in-Seq.first) c.in-Seq.second) first))

pub of_some-returns-then-of_local : goal.of_some-returns-then-of_local
of_some-returns-then-of_local t c =
    let is = holds_of c.args.heads.now c.args.frame.now c.args.test in let s = c.args.scope.now in let n = c.args.number in
    let local : is s (Local c.in-Block.name c.in-Block.sort) ≡ true = sym (c.of_local.ensures c.args.heads.now c.args.frame.now) ∙ c.if-of_local.true in
    sym (ap (of_some is s n) c.in-Block.is ∙ (block_some is s n c.in-Block.name c.in-Block.sort c.in-Block.body ∙ ap (λ b. b || of_some is (with_local s c.in-Block.name c.in-Block.sort) n c.in-Block.body) local))

pub of_some-returns-in_ok-middle-in-Seq : goal.of_some-returns-in_ok-middle-in-Seq
of_some-returns-in_ok-middle-in-Seq t c =
    let is = holds_of c.args.heads.now c.args.frame.now c.args.test in let s = c.args.scope.now in let n = c.args.number in
    let first : of_some is s n c.in-Seq.first ≡ false = sym (ap (of_some is s n) c.get.ensures) ∙ (sym c.in_ok-of_some-in-Seq.ensures ∙ c.if-branch.false) in
    let middle = c.in_ok-middle-in-Seq.ensures ∙ ap (λ z. n + loops z) c.get-in-Seq.ensures in
    subst (λ v. IfOk c.of_some-in-Seq.result (λ b. b ≡ v))
    ((λ i. of_some is s (middle i) (c.get-in-Seq-2.ensures i)) ∙ (behind_none _ _ first ∙ (sym (seq_some is s n c.in-Seq.first c.in-Seq.second) ∙ ap (of_some is s n) (sym c.in-Seq.is))))
    c.of_some-in-Seq.ensures

pub of_some-returns-in-If : goal.of_some-returns-in-If
of_some-returns-in-If t c =
    let is = holds_of c.args.heads.now c.args.frame.now c.args.test in let s = c.args.scope.now in let n = c.args.number in
    subst (λ v. IfOk c.of_arms.result (λ b. b ≡ v)) (ap (of_some_arm is s n) c.as_slice-in-If.ensures ∙ (sym (if_some is s n c.in-If.arms) ∙ ap (of_some is s n) (sym c.in-If.is))) c.of_arms.ensures

pub of_some-returns-in_ok-next-in-Do : goal.of_some-returns-in_ok-next-in-Do
of_some-returns-in_ok-next-in-Do t c =
    let is = holds_of c.args.heads.now c.args.frame.now c.args.test in let s = c.args.scope.now in let n = c.args.number in
    let notes : (is s (Variant c.in-Do.variant) || is s (Invariant c.in-Do.invariant)) ≡ false = sym c.in_ok-of_notes-in-Do.ensures ∙ c.if-branch-2.false in
    let after : c.in_ok-next-in-Do.field-0 ≡ suc n = omega (arith, c.in_ok-next-in-Do.ensures) in
    subst (λ v. IfOk c.of_arms-in-Do.result (λ b. b ≡ v))
    ((λ i. of_some_arm is (c.in_ok-inner-in-Do.ensures i) (after i) (c.as_slice-in-Do.ensures i)) ∙ (behind_two _ _ _ notes
    ∙ (sym (do_some is s n c.in-Do.variant c.in-Do.invariant c.in-Do.arms) ∙ ap (of_some is s n) (sym c.in-Do.is))))
    c.of_arms-in-Do.ensures

pub of_some-returns-in_ok-inner-in-Block : goal.of_some-returns-in_ok-inner-in-Block
of_some-returns-in_ok-inner-in-Block t c =
    let is = holds_of c.args.heads.now c.args.frame.now c.args.test in let s = c.args.scope.now in let n = c.args.number in
    let local : is s (Local c.in-Block.name c.in-Block.sort) ≡ false = sym (c.of_local.ensures c.args.heads.now c.args.frame.now) ∙ c.if-of_local.false in
    subst (λ v. IfOk c.of_some-in-Block.result (λ b. b ≡ v))
    ((λ i. of_some is (c.in_ok-inner-in-Block.ensures i) n (c.get-in-Block.ensures i)) ∙ (behind_none _ _ local
    ∙ (sym (block_some is s n c.in-Block.name c.in-Block.sort c.in-Block.body) ∙ ap (of_some is s n) (sym c.in-Block.is))))
    c.of_some-in-Block.ensures
