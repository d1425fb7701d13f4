use Rattle.std.proofs.Common.{◌∙◌}
use Rattle.std.proofs.lemmas.Result.{err_from_is_err_and}
use Rattle.rw_program_reader.specs.Steps.{module_step}
use Rattle.rw_forms.proofs.Parts.{carried, passed_on}
use Rattle.rw_program_reader.proofs.steps.module_step.Goals as goal

pub returns-in_err-home : goal.returns-in_err-home
unfolding module_step
returns-in_err-home c = let p = err_from_is_err_and c.from_residual.result c.from_residual.ensures.1 in rw (p.1, p.2) (λ k. carried c.args.line.now _ (c.if-accept.ensures.chose.1 _ _) (c.in_err-home.ensures.took _))

pub returns-then-accept : goal.returns-then-accept
unfolding module_step
returns-then-accept c = (c.in_ok-home.ensures.took.0, λ k. c.if-accept.ensures.chose.1 _ _ ∙ c.in_ok-home.ensures.took.1 _)

pub returns-in_err-expect : goal.returns-in_err-expect
unfolding module_step
returns-in_err-expect c = let p = err_from_is_err_and c.from_residual-in_err-expect.result c.from_residual-in_err-expect.ensures.1 in rw (p.1, p.2) (λ k. carried c.args.line.now _ (c.if-accept.ensures.chose.1 _ _) (c.in_err-expect.ensures.took _))

pub returns : goal.returns
unfolding module_step
returns c = passed_on _ _ c.args.line.now _ _ _ c.operated.result (λ k. c.if-accept.ensures.chose.1 _ _ ∙ c.in_ok-expect.ensures.took.1 _) c.operated.ensures
