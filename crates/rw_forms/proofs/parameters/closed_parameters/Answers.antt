use Rattle.std.proofs.Common.{◌∙◌}
use Rattle.std.proofs.lemmas.Result.{err_from_is_err_and}
use Rattle.rw_forms.specs.Phrases.{closed_parameters}
use Rattle.rw_forms.proofs.Parts.{carried}
use Rattle.rw_forms.proofs.parameters.closed_parameters.Goals as goal

pub returns-in_err-params : goal.returns-in_err-params
unfolding closed_parameters
returns-in_err-params c = let p = err_from_is_err_and c.from_residual.result c.from_residual.ensures.1 in rw (p.1, p.2) (λ k. c.in_err-params.ensures _)

pub returns-in_err-expect : goal.returns-in_err-expect
unfolding closed_parameters
returns-in_err-expect c = let p = err_from_is_err_and c.from_residual-in_err-expect.result c.from_residual-in_err-expect.ensures.1 in rw (p.1, p.2) (λ k. carried c.args.line.now _ (c.in_ok-params.ensures.1 _) (c.in_err-expect.ensures.took _))

pub returns : goal.returns
unfolding closed_parameters
returns c = (c.in_ok-expect.ensures.took.0, λ k. c.in_ok-params.ensures.1 _ ∙ c.in_ok-expect.ensures.took.1 _)
