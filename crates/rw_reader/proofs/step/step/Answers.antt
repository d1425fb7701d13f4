use Rattle.std.proofs.Common.{◌∙◌, sym, ap}
use Rattle.std.proofs.lemmas.Result.{err_from_is_err_and}
use Rattle.rw_reader.specs.Steps.{step}
use Rattle.rw_forms.proofs.Parts.{carried, passed_on, told_as}
use Rattle.rw_laws.specs.declared.step.BasicStep.TheVariants as basic
use Rattle.rw_nodes.specs.declared.edit.Step.TheVariants as steps
use Rattle.rw_reader.proofs.step.step.Goals as goal

pub returns-then-accept : goal.returns-then-accept
unfolding step
returns-then-accept c = (c.if-accept.ensures.chose.0, λ k. c.if-accept.ensures.chose.1 _ _)

pub returns-in_err-formula : goal.returns-in_err-formula
unfolding step
returns-in_err-formula c = let p = err_from_is_err_and c.from_residual.result c.from_residual.ensures.1 in rw (p.1, p.2) (λ k. carried c.args.line.now _ (c.if-accept.ensures.chose.1 _ _ ∙ c.if-accept-2.ensures.chose.1 _ _) (c.in_err-formula.ensures.took _))

pub returns-then-accept-2 : goal.returns-then-accept-2
unfolding step
returns-then-accept-2 c = (c.in_ok-formula.ensures.took.0, λ k. told_as _ _ _ k _ _ (ap (λ z. steps.Basic (basic.Weaken z)) (sym c.into_inner.ensures)) (c.if-accept.ensures.chose.1 _ _ ∙ c.if-accept-2.ensures.chose.1 _ _ ∙ c.in_ok-formula.ensures.took.1 _))

pub returns-in_err-formula-2 : goal.returns-in_err-formula-2
unfolding step
returns-in_err-formula-2 c = let p = err_from_is_err_and c.from_residual-in_err-formula-2.result c.from_residual-in_err-formula-2.ensures.1 in rw (p.1, p.2) (λ k. carried c.args.line.now _ (c.if-accept.ensures.chose.1 _ _ ∙ c.if-accept-2.ensures.chose.1 _ _ ∙ c.if-accept-3.ensures.chose.1 _ _) (c.in_err-formula-2.ensures.took _))

pub returns-then-accept-3 : goal.returns-then-accept-3
unfolding step
returns-then-accept-3 c = (c.in_ok-formula-2.ensures.took.0, λ k. told_as _ _ _ k _ _ (ap (λ z. steps.Basic (basic.Strengthen z)) (sym c.into_inner-then-accept-3.ensures)) (c.if-accept.ensures.chose.1 _ _ ∙ c.if-accept-2.ensures.chose.1 _ _ ∙ c.if-accept-3.ensures.chose.1 _ _ ∙ c.in_ok-formula-2.ensures.took.1 _))

pub returns-in_err-formula-3 : goal.returns-in_err-formula-3
unfolding step
returns-in_err-formula-3 c = let p = err_from_is_err_and c.from_residual-in_err-formula-3.result c.from_residual-in_err-formula-3.ensures.1 in rw (p.1, p.2) (λ k. carried c.args.line.now _ (c.if-accept.ensures.chose.1 _ _ ∙ c.if-accept-2.ensures.chose.1 _ _ ∙ c.if-accept-3.ensures.chose.1 _ _ ∙ c.if-accept-4.ensures.chose.1 _ _) (c.in_err-formula-3.ensures.took _))

pub returns-then-accept-4 : goal.returns-then-accept-4
unfolding step
returns-then-accept-4 c = (c.in_ok-formula-3.ensures.took.0, λ k. told_as _ _ _ k _ _ (ap (λ z. steps.Basic (basic.Seq z)) (sym c.into_inner-then-accept-4.ensures)) (c.if-accept.ensures.chose.1 _ _ ∙ c.if-accept-2.ensures.chose.1 _ _ ∙ c.if-accept-3.ensures.chose.1 _ _ ∙ c.if-accept-4.ensures.chose.1 _ _ ∙ c.in_ok-formula-3.ensures.took.1 _))

pub returns : goal.returns
unfolding step
returns c = passed_on _ _ c.args.line.now _ _ _ c.named_step.result (λ k. c.if-accept.ensures.chose.1 _ _ ∙ c.if-accept-2.ensures.chose.1 _ _ ∙ c.if-accept-3.ensures.chose.1 _ _ ∙ c.if-accept-4.ensures.chose.1 _ _) c.named_step.ensures
