use Rattle.std.proofs.Common.{◌∙◌}
use Rattle.std.proofs.lemmas.Result.{err_from_is_err_and}
use Rattle.rw_reader.specs.Steps.{assignment}
use Rattle.rw_forms.proofs.Parts.{carried}
use Rattle.rw_reader.proofs.step.assignment.Goals as goal

pub returns-in_err-names : goal.returns-in_err-names
unfolding assignment
returns-in_err-names c = let p = err_from_is_err_and c.from_residual.result c.from_residual.ensures.1 in rw (p.1, p.2) (λ k. c.in_err-names.ensures _)

pub returns-in_err-expect : goal.returns-in_err-expect
unfolding assignment
returns-in_err-expect c = let p = err_from_is_err_and c.from_residual-in_err-expect.result c.from_residual-in_err-expect.ensures.1 in rw (p.1, p.2) (λ k. carried c.args.line.now _ (c.in_ok-names.ensures.1 _) (c.in_err-expect.ensures.took _))

pub returns-in_err-terms : goal.returns-in_err-terms
unfolding assignment
returns-in_err-terms c = let p = err_from_is_err_and c.from_residual-in_err-terms.result c.from_residual-in_err-terms.ensures.1 in rw (p.1, p.2) (λ k. carried c.args.line.now _ (c.in_ok-names.ensures.1 _ ∙ c.in_ok-expect.ensures.took.1 _) (c.in_err-terms.ensures.took _))

pub returns : goal.returns
unfolding assignment
returns c = (c.in_ok-terms.ensures.took.0, λ k. c.in_ok-names.ensures.1 _ ∙ c.in_ok-expect.ensures.took.1 _ ∙ c.in_ok-terms.ensures.took.1 _)
