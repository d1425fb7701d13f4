use Rattle.std.proofs.Common.{◌∙◌, ◌++◌, [], ◌∷◌, arith, refl, sym, ap, subst, drop}
use Rattle.std.specs.Prelude.{codes}
use Rattle.std.proofs.lemmas.Result.{err_from_is_err_and}
use Rattle.rw_forms.specs.Forms.{many, an_arm}
use Rattle.rw_forms.specs.Reading.{read_form}
use Rattle.rw_program_reader.specs.Programs.{program, plain, one, group, alternation, iteration, block, arm, arms, arm_form, arm_in}
use Rattle.rw_forms.proofs.Parts.{carried, passed_on, told_as}
use Rattle.rw_forms.proofs.Listing.{Listed, first_item, first_fault, next_item, item_fault, last_item}
use Rattle.rw_program_reader.proofs.Depth.{flat, parted, one_more}
use Rattle.rw_program_reader.proofs.Made.{made_arm, made_loop}
use Rattle.rw_program_reader.proofs.ListItems.{arm_item, program_followed}
use Rattle.rw_program_reader.proofs.Advance.{arm_on}
use Rattle.rw_program_reader.proofs.program.+program.Goals as goal

pub program-returns-then-most-eq0 : goal.program-returns-then-most-eq0
program-returns-then-most-eq0 t c = passed_on _ _ c.args.line.now _ _ _ c.plain.result (λ k. flat c.args.most k (drop c.args.at.now c.args.line.now) c.if-most-eq0.true) c.plain.ensures

pub program-returns-in_err-first : goal.program-returns-in_err-first
program-returns-in_err-first t c = let p = err_from_is_err_and c.from_residual.result c.from_residual.ensures.1 in rw (p.1, p.2) (λ k. carried c.args.line.now _ (parted c.args.most k (drop c.args.at.now c.args.line.now) c.if-most-eq0.false) (c.in_err-first.ensures _))

pub program-returns-in_err-rest : goal.program-returns-in_err-rest
program-returns-in_err-rest t c = let p = err_from_is_err_and c.from_residual-in_err-rest.result c.from_residual-in_err-rest.ensures.1 in rw (p.1, p.2) (λ k. carried c.args.line.now _ (parted c.args.most k (drop c.args.at.now c.args.line.now) c.if-most-eq0.false ∙ c.in_ok-first.ensures.1 _ ∙ c.if-accept.ensures.chose.1 _ _) (c.in_err-rest.ensures _))

pub program-returns-then-accept : goal.program-returns-then-accept
program-returns-then-accept t c = (c.in_ok-rest.ensures.0, λ k. told_as _ _ _ k _ _ (sym c.in_ok-sequence.ensures) (parted c.args.most k (drop c.args.at.now c.args.line.now) c.if-most-eq0.false ∙ c.in_ok-first.ensures.1 _ ∙ c.if-accept.ensures.chose.1 _ _ ∙ c.in_ok-rest.ensures.1 _))

pub program-returns : goal.program-returns
program-returns t c = (c.if-accept.ensures.chose.0, λ k. parted c.args.most k (drop c.args.at.now c.args.line.now) c.if-most-eq0.false ∙ c.in_ok-first.ensures.1 _ ∙ c.if-accept.ensures.chose.1 _ _)

pub one-returns-then-accept : goal.one-returns-then-accept
unfolding one group
one-returns-then-accept t c = passed_on _ _ c.args.line.now _ _ _ c.alternation.result (λ k. c.if-accept.ensures.chose.1 _ _) c.alternation.ensures

pub one-returns-then-accept-2 : goal.one-returns-then-accept-2
unfolding one group
one-returns-then-accept-2 t c = passed_on _ _ c.args.line.now _ _ _ c.iteration.result (λ k. c.if-accept.ensures.chose.1 _ _ ∙ c.if-accept-2.ensures.chose.1 _ _) c.iteration.ensures

pub one-returns-then-accept-3 : goal.one-returns-then-accept-3
unfolding one group
one-returns-then-accept-3 t c = passed_on _ _ c.args.line.now _ _ _ c.block.result (λ k. c.if-accept.ensures.chose.1 _ _ ∙ c.if-accept-2.ensures.chose.1 _ _ ∙ c.if-accept-3.ensures.chose.1 _ _) c.block.ensures

pub one-returns-in_err-program : goal.one-returns-in_err-program
unfolding one group
one-returns-in_err-program t c = let p = err_from_is_err_and c.from_residual.result c.from_residual.ensures.1 in rw (p.1, p.2) (λ k. carried c.args.line.now _ (c.if-accept.ensures.chose.1 _ _ ∙ c.if-accept-2.ensures.chose.1 _ _ ∙ c.if-accept-3.ensures.chose.1 _ _ ∙ c.if-accept-4.ensures.chose.1 _ _) (c.in_err-program.ensures _))

pub one-returns-in_err-expect : goal.one-returns-in_err-expect
unfolding one group
one-returns-in_err-expect t c = let p = err_from_is_err_and c.from_residual-in_err-expect.result c.from_residual-in_err-expect.ensures.1 in rw (p.1, p.2) (λ k. carried c.args.line.now _ (c.if-accept.ensures.chose.1 _ _ ∙ c.if-accept-2.ensures.chose.1 _ _ ∙ c.if-accept-3.ensures.chose.1 _ _ ∙ c.if-accept-4.ensures.chose.1 _ _ ∙ c.in_ok-program.ensures.1 _) (c.in_err-expect.ensures.took _))

pub one-returns-then-accept-4 : goal.one-returns-then-accept-4
unfolding one group
one-returns-then-accept-4 t c = (c.in_ok-expect.ensures.took.0, λ k. c.if-accept.ensures.chose.1 _ _ ∙ c.if-accept-2.ensures.chose.1 _ _ ∙ c.if-accept-3.ensures.chose.1 _ _ ∙ c.if-accept-4.ensures.chose.1 _ _ ∙ c.in_ok-program.ensures.1 _ ∙ c.in_ok-expect.ensures.took.1 _)

pub one-returns : goal.one-returns
unfolding one group
one-returns t c = passed_on _ _ c.args.line.now _ _ _ c.plain.result (λ k. c.if-accept.ensures.chose.1 _ _ ∙ c.if-accept-2.ensures.chose.1 _ _ ∙ c.if-accept-3.ensures.chose.1 _ _ ∙ c.if-accept-4.ensures.chose.1 _ _ ∙ ap (λ m. read_form (plain m k) (drop c.accept-4.new.at c.args.line.now)) (one_more c.args.most)) c.plain.ensures

pub alternation-returns-in_err-arms : goal.alternation-returns-in_err-arms
unfolding alternation
alternation-returns-in_err-arms t c = let p = err_from_is_err_and c.from_residual.result c.from_residual.ensures.1 in rw (p.1, p.2) (λ k. c.in_err-arms.ensures _)

pub alternation-returns-in_err-expect : goal.alternation-returns-in_err-expect
unfolding alternation
alternation-returns-in_err-expect t c = let p = err_from_is_err_and c.from_residual-in_err-expect.result c.from_residual-in_err-expect.ensures.1 in rw (p.1, p.2) (λ k. carried c.args.line.now _ (c.in_ok-arms.ensures.1 _) (c.in_err-expect.ensures.took _))

pub alternation-returns : goal.alternation-returns
unfolding alternation
alternation-returns t c = (c.in_ok-expect.ensures.took.0, λ k. told_as _ _ _ k _ _ (sym c.in_ok-new.ensures) (c.in_ok-arms.ensures.1 _ ∙ c.in_ok-expect.ensures.took.1 _))

pub iteration-returns-in_err-variant : goal.iteration-returns-in_err-variant
unfolding iteration
iteration-returns-in_err-variant t c = let p = err_from_is_err_and c.from_residual.result c.from_residual.ensures.1 in rw (p.1, p.2) (λ k. c.in_err-variant.ensures _)

pub iteration-returns-in_err-arms : goal.iteration-returns-in_err-arms
unfolding iteration
iteration-returns-in_err-arms t c = let p = err_from_is_err_and c.from_residual-in_err-arms.result c.from_residual-in_err-arms.ensures.1 in rw (p.1, p.2) (λ k. carried c.args.line.now _ (c.in_ok-variant.ensures.1 _) (c.in_err-arms.ensures _))

pub iteration-returns-in_err-expect : goal.iteration-returns-in_err-expect
unfolding iteration
iteration-returns-in_err-expect t c = let p = err_from_is_err_and c.from_residual-in_err-expect.result c.from_residual-in_err-expect.ensures.1 in rw (p.1, p.2) (λ k. carried c.args.line.now _ (c.in_ok-variant.ensures.1 _ ∙ c.in_ok-arms.ensures.1 _) (c.in_err-expect.ensures.took _))

pub iteration-returns : goal.iteration-returns
unfolding iteration
iteration-returns t c = (c.in_ok-expect.ensures.took.0, λ k. told_as _ _ _ k _ _ (made_loop _ _ _ _ c.into_inner-variant.ensures c.in_ok-new.ensures) (c.in_ok-variant.ensures.1 _ ∙ c.in_ok-arms.ensures.1 _ ∙ c.in_ok-expect.ensures.took.1 _))

pub block-returns-in_err-opening : goal.block-returns-in_err-opening
unfolding block
block-returns-in_err-opening t c = let p = err_from_is_err_and c.from_residual.result c.from_residual.ensures.1 in rw (p.1, p.2) (λ k. c.in_err-opening.ensures _)

pub block-returns-in_err-expect : goal.block-returns-in_err-expect
unfolding block
block-returns-in_err-expect t c = let p = err_from_is_err_and c.from_residual-in_err-expect.result c.from_residual-in_err-expect.ensures.1 in rw (p.1, p.2) (λ k. carried c.args.line.now _ (c.in_ok-opening.ensures.1 _) (c.in_err-expect.ensures.took _))

pub block-returns-in_err-body : goal.block-returns-in_err-body
unfolding block
block-returns-in_err-body t c = let p = err_from_is_err_and c.from_residual-in_err-body.result c.from_residual-in_err-body.ensures.1 in rw (p.1, p.2) (λ k. carried c.args.line.now _ (c.in_ok-opening.ensures.1 _ ∙ c.in_ok-expect.ensures.took.1 _) (c.in_err-body.ensures _))

pub block-returns-in_err-expect-2 : goal.block-returns-in_err-expect-2
unfolding block
block-returns-in_err-expect-2 t c = let p = err_from_is_err_and c.from_residual-in_err-expect-2.result c.from_residual-in_err-expect-2.ensures.1 in rw (p.1, p.2) (λ k. carried c.args.line.now _ (c.in_ok-opening.ensures.1 _ ∙ c.in_ok-expect.ensures.took.1 _ ∙ c.in_ok-body.ensures.1 _) (c.in_err-expect-2.ensures.took _))

pub block-returns : goal.block-returns
unfolding block
block-returns t c = (c.in_ok-expect-2.ensures.took.0, λ k. told_as _ _ _ k _ _ (sym c.in_ok-block_of.ensures) (c.in_ok-opening.ensures.1 _ ∙ c.in_ok-expect.ensures.took.1 _ ∙ c.in_ok-body.ensures.1 _ ∙ c.in_ok-expect-2.ensures.took.1 _))

pub arm-returns-in_err-guard : goal.arm-returns-in_err-guard
unfolding arm
arm-returns-in_err-guard t c = let p = err_from_is_err_and c.from_residual.result c.from_residual.ensures.1 in rw (p.1, p.2) (λ k. c.in_err-guard.ensures.took _)

pub arm-returns-in_err-expect : goal.arm-returns-in_err-expect
unfolding arm
arm-returns-in_err-expect t c = let p = err_from_is_err_and c.from_residual-in_err-expect.result c.from_residual-in_err-expect.ensures.1 in rw (p.1, p.2) (λ k. carried c.args.line.now _ (c.in_ok-guard.ensures.took.1 _) (c.in_err-expect.ensures.took _))

pub arm-returns-in_err-body : goal.arm-returns-in_err-body
unfolding arm
arm-returns-in_err-body t c = let p = err_from_is_err_and c.from_residual-in_err-body.result c.from_residual-in_err-body.ensures.1 in rw (p.1, p.2) (λ k. carried c.args.line.now _ (c.in_ok-guard.ensures.took.1 _ ∙ c.in_ok-expect.ensures.took.1 _) (c.in_err-body.ensures _))

pub arm-returns : goal.arm-returns
unfolding arm
arm-returns t c = (c.in_ok-body.ensures.0, λ k. told_as _ _ _ k _ _ (made_arm _ _ _ _ _ c.into_inner-guard.ensures c.into_inner-body.ensures c.in_ok-new.ensures) (c.in_ok-guard.ensures.took.1 _ ∙ c.in_ok-expect.ensures.took.1 _ ∙ c.in_ok-body.ensures.1 _))

pub arms-returns-in_err-first : goal.arms-returns-in_err-first
unfolding arms
arms-returns-in_err-first t c = let p = err_from_is_err_and c.from_residual.result c.from_residual.ensures.1 in rw (p.1, p.2) (first_fault (arm_form c.args.most (program c.args.most)) (codes "[]") (arm c.args.most (program c.args.most)) an_arm arm_in c.args.line.now c.args.at.now _ (arm_item c.args.most (program c.args.most) (program_followed c.args.most)) c.in_err-first.ensures)

pub arms-arms-init : goal.arms-arms-init
arms-arms-init t c = record {
  place = c.in_ok-first.ensures.0;
  listed = subst (Listed (arm_form c.args.most (program c.args.most)) (codes "[]") an_arm arm_in c.args.line.now c.args.at.now c.arm.new.at) (sym (c.in_ok-push.ensures.ok ∙ ap (λ l. l ++ c.into_inner.result ∷ []) c.new-arms.ensures ∙ ap (λ x. x ∷ []) c.into_inner.ensures)) (first_item (arm_form c.args.most (program c.args.most)) (codes "[]") (arm c.args.most (program c.args.most)) an_arm arm_in c.args.line.now c.args.at.now c.arm.new.at _ (arm_item c.args.most (program c.args.most) (program_followed c.args.most)) c.in_ok-first.ensures.1);
}

pub arms-accept-requires : goal.arms-accept-requires
arms-accept-requires t c = c.arms.invariant.place

pub arms-returns-in_err-next : goal.arms-returns-in_err-next
unfolding arms
arms-returns-in_err-next t c = let p = err_from_is_err_and c.from_residual-in_err-next.result c.from_residual-in_err-next.ensures.1 in rw (p.1, p.2) (item_fault (many (arm_form c.args.most (program c.args.most)) (codes "[]")) (arm_form c.args.most (program c.args.most)) (codes "[]") (arm c.args.most (program c.args.most)) an_arm arm_in c.args.line.now c.args.at.now c.arms.at c.accept.new.at c.arms.arms _ (arm_item c.args.most (program c.args.most) (program_followed c.args.most)) c.arms.invariant.listed c.arms-test.ensures.chose.1 c.in_err-next.ensures)

pub arms-arms-smaller : goal.arms-arms-smaller
arms-arms-smaller t c = let a = c.arms-test.ensures.further refl in let b = arm_on c.args.most c.args.line.now c.accept.new.at c.arm-in-arms.new.at _ c.in_ok-next.ensures.0.within c.in_ok-next.ensures.1 c.arms-test.ensures.chose.0.within in let d = c.in_ok-next.ensures.0.within in omega arith

pub arms-arms-preserved : goal.arms-arms-preserved
arms-arms-preserved t c = record {
  place = c.in_ok-next.ensures.0;
  listed = subst (Listed (arm_form c.args.most (program c.args.most)) (codes "[]") an_arm arm_in c.args.line.now c.args.at.now c.arm-in-arms.new.at) (sym (c.in_ok-push-2.ensures.ok ∙ ap (λ x. c.arms.arms ++ x ∷ []) c.into_inner-in-arms.ensures)) (next_item (many (arm_form c.args.most (program c.args.most)) (codes "[]")) (arm_form c.args.most (program c.args.most)) (codes "[]") (arm c.args.most (program c.args.most)) an_arm arm_in c.args.line.now c.args.at.now c.arms.at c.accept.new.at c.arm-in-arms.new.at c.arms.arms _ (arm_item c.args.most (program c.args.most) (program_followed c.args.most)) c.arms.invariant.listed c.arms-test.ensures.chose.1 c.in_ok-next.ensures.1);
}

pub arms-returns : goal.arms-returns
unfolding arms
arms-returns t c = (c.arms-test.ensures.chose.0, last_item (many (arm_form c.args.most (program c.args.most)) (codes "[]")) (arm_form c.args.most (program c.args.most)) (codes "[]") an_arm arm_in c.args.line.now c.args.at.now c.arms.at c.accept.new.at c.arms.arms (λ x. refl) c.arms.invariant.listed c.arms-test.ensures.chose.1)
