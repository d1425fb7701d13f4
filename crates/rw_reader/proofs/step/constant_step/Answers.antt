use Rattle.std.proofs.Common.{◌∙◌}
use Rattle.std.proofs.lemmas.Result.{err_from_is_err_and}
use Rattle.rw_reader.specs.Steps.{constant_step}
use Rattle.rw_forms.proofs.Parts.{carried}
use Rattle.rw_reader.proofs.step.constant_step.Goals as goal

pub returns-in_err-step : goal.returns-in_err-step
unfolding constant_step
returns-in_err-step c = let p = err_from_is_err_and c.from_residual.result c.from_residual.ensures.1 in rw (p.1, p.2) (λ k. carried c.args.line.now _ (c.if-accept.ensures.chose.1 _ _) (c.in_err-step.ensures _))

pub returns-then-accept : goal.returns-then-accept
unfolding constant_step
returns-then-accept c = (c.in_ok-step.ensures.0, λ k. c.if-accept.ensures.chose.1 _ _ ∙ c.in_ok-step.ensures.1 _)

pub returns-in_err-step-2 : goal.returns-in_err-step-2
unfolding constant_step
returns-in_err-step-2 c = let p = err_from_is_err_and c.from_residual-in_err-step-2.result c.from_residual-in_err-step-2.ensures.1 in rw (p.1, p.2) (λ k. carried c.args.line.now _ (c.if-accept.ensures.chose.1 _ _ ∙ c.if-accept-2.ensures.chose.1 _ _) (c.in_err-step-2.ensures _))

pub returns-then-accept-2 : goal.returns-then-accept-2
unfolding constant_step
returns-then-accept-2 c = (c.in_ok-step-2.ensures.0, λ k. c.if-accept.ensures.chose.1 _ _ ∙ c.if-accept-2.ensures.chose.1 _ _ ∙ c.in_ok-step-2.ensures.1 _)

pub returns-in_err-step-3 : goal.returns-in_err-step-3
unfolding constant_step
returns-in_err-step-3 c = let p = err_from_is_err_and c.from_residual-in_err-step-3.result c.from_residual-in_err-step-3.ensures.1 in rw (p.1, p.2) (λ k. carried c.args.line.now _ (c.if-accept.ensures.chose.1 _ _ ∙ c.if-accept-2.ensures.chose.1 _ _) (c.in_err-step-3.ensures _))

pub returns : goal.returns
unfolding constant_step
returns c = (c.in_ok-step-3.ensures.0, λ k. c.if-accept.ensures.chose.1 _ _ ∙ c.if-accept-2.ensures.chose.1 _ _ ∙ c.in_ok-step-3.ensures.1 _)
