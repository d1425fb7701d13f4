use Rattle.std.proofs.Common.{◌∙◌}
use Rattle.std.proofs.lemmas.Result.{err_from_is_err_and}
use Rattle.rw_reader.specs.Steps.{loop_step}
use Rattle.rw_forms.proofs.Parts.{carried, passed_on}
use Rattle.rw_reader.proofs.step.loop_step.Goals as goal

pub returns-in_err-guards : goal.returns-in_err-guards
unfolding loop_step
returns-in_err-guards c = let p = err_from_is_err_and c.from_residual.result c.from_residual.ensures.1 in rw (p.1, p.2) (λ k. carried c.args.line.now _ (c.if-accept.ensures.chose.1 _ _) (c.in_err-guards.ensures _))

pub returns-then-accept : goal.returns-then-accept
unfolding loop_step
returns-then-accept c = (c.in_ok-guards.ensures.0, λ k. c.if-accept.ensures.chose.1 _ _ ∙ c.in_ok-guards.ensures.1 _)

pub returns-then-accept-2 : goal.returns-then-accept-2
unfolding loop_step
returns-then-accept-2 c = passed_on _ _ c.args.line.now _ _ _ c.iteration.result (λ k. c.if-accept.ensures.chose.1 _ _ ∙ c.if-accept-2.ensures.chose.1 _ _) c.iteration.ensures

pub returns-in_err-expect : goal.returns-in_err-expect
unfolding loop_step
returns-in_err-expect c = let p = err_from_is_err_and c.from_residual-in_err-expect.result c.from_residual-in_err-expect.ensures.1 in rw (p.1, p.2) (λ k. carried c.args.line.now _ (c.if-accept.ensures.chose.1 _ _ ∙ c.if-accept-2.ensures.chose.1 _ _) (c.in_err-expect.ensures.took _))

pub returns : goal.returns
unfolding loop_step
returns c = passed_on _ _ c.args.line.now _ _ _ c.block.result (λ k. c.if-accept.ensures.chose.1 _ _ ∙ c.if-accept-2.ensures.chose.1 _ _ ∙ c.in_ok-expect.ensures.took.1 _) c.block.ensures
