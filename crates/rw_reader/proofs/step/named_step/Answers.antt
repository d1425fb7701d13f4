use Rattle.std.proofs.Common.{◌∙◌}
use Rattle.std.proofs.lemmas.Result.{err_from_is_err_and}
use Rattle.rw_reader.specs.Steps.{named_step}
use Rattle.rw_forms.proofs.Parts.{carried, passed_on}
use Rattle.rw_reader.proofs.step.named_step.Goals as goal

pub returns-in_err-names : goal.returns-in_err-names
unfolding named_step
returns-in_err-names c = let p = err_from_is_err_and c.from_residual.result c.from_residual.ensures.1 in rw (p.1, p.2) (λ k. carried c.args.line.now _ (c.if-accept.ensures.chose.1 _ _) (c.in_err-names.ensures _))

pub returns-then-accept : goal.returns-then-accept
unfolding named_step
returns-then-accept c = (c.in_ok-names.ensures.0, λ k. c.if-accept.ensures.chose.1 _ _ ∙ c.in_ok-names.ensures.1 _)

pub returns-in_err-names-2 : goal.returns-in_err-names-2
unfolding named_step
returns-in_err-names-2 c = let p = err_from_is_err_and c.from_residual-in_err-names-2.result c.from_residual-in_err-names-2.ensures.1 in rw (p.1, p.2) (λ k. carried c.args.line.now _ (c.if-accept.ensures.chose.1 _ _ ∙ c.if-accept-2.ensures.chose.1 _ _) (c.in_err-names-2.ensures _))

pub returns-then-accept-2 : goal.returns-then-accept-2
unfolding named_step
returns-then-accept-2 c = (c.in_ok-names-2.ensures.0, λ k. c.if-accept.ensures.chose.1 _ _ ∙ c.if-accept-2.ensures.chose.1 _ _ ∙ c.in_ok-names-2.ensures.1 _)

pub returns-in_err-names-3 : goal.returns-in_err-names-3
unfolding named_step
returns-in_err-names-3 c = let p = err_from_is_err_and c.from_residual-in_err-names-3.result c.from_residual-in_err-names-3.ensures.1 in rw (p.1, p.2) (λ k. carried c.args.line.now _ (c.if-accept.ensures.chose.1 _ _ ∙ c.if-accept-2.ensures.chose.1 _ _ ∙ c.if-accept-3.ensures.chose.1 _ _) (c.in_err-names-3.ensures _))

pub returns-then-accept-3 : goal.returns-then-accept-3
unfolding named_step
returns-then-accept-3 c = (c.in_ok-names-3.ensures.0, λ k. c.if-accept.ensures.chose.1 _ _ ∙ c.if-accept-2.ensures.chose.1 _ _ ∙ c.if-accept-3.ensures.chose.1 _ _ ∙ c.in_ok-names-3.ensures.1 _)

pub returns-in_err-names-4 : goal.returns-in_err-names-4
unfolding named_step
returns-in_err-names-4 c = let p = err_from_is_err_and c.from_residual-in_err-names-4.result c.from_residual-in_err-names-4.ensures.1 in rw (p.1, p.2) (λ k. carried c.args.line.now _ (c.if-accept.ensures.chose.1 _ _ ∙ c.if-accept-2.ensures.chose.1 _ _ ∙ c.if-accept-3.ensures.chose.1 _ _ ∙ c.if-accept-4.ensures.chose.1 _ _) (c.in_err-names-4.ensures _))

pub returns-then-accept-4 : goal.returns-then-accept-4
unfolding named_step
returns-then-accept-4 c = (c.in_ok-names-4.ensures.0, λ k. c.if-accept.ensures.chose.1 _ _ ∙ c.if-accept-2.ensures.chose.1 _ _ ∙ c.if-accept-3.ensures.chose.1 _ _ ∙ c.if-accept-4.ensures.chose.1 _ _ ∙ c.in_ok-names-4.ensures.1 _)

pub returns : goal.returns
unfolding named_step
returns c = passed_on _ _ c.args.line.now _ _ _ c.constant_step.result (λ k. c.if-accept.ensures.chose.1 _ _ ∙ c.if-accept-2.ensures.chose.1 _ _ ∙ c.if-accept-3.ensures.chose.1 _ _ ∙ c.if-accept-4.ensures.chose.1 _ _) c.constant_step.ensures
