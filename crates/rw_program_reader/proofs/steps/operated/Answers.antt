use Rattle.std.proofs.Common.{◌∙◌}
use Rattle.std.proofs.lemmas.Result.{err_from_is_err_and}
use Rattle.rw_forms.proofs.Parts.{carried}
use Rattle.rw_program_reader.specs.Steps.{operated}
use Rattle.rw_program_reader.proofs.steps.operated.Goals as goal

pub returns-in_err-home : goal.returns-in_err-home
unfolding operated
returns-in_err-home c = let p = err_from_is_err_and c.from_residual.result c.from_residual.ensures.1 in rw (p.1, p.2) (λ k. c.in_err-home.ensures.took _)

pub returns-in_err-expect : goal.returns-in_err-expect
unfolding operated
returns-in_err-expect c = let p = err_from_is_err_and c.from_residual-in_err-expect.result c.from_residual-in_err-expect.ensures.1 in rw (p.1, p.2) (λ k. carried c.args.line.now _ (c.in_ok-home.ensures.took.1 _) (c.in_err-expect.ensures.took _))

pub returns-in_err-name : goal.returns-in_err-name
unfolding operated
returns-in_err-name c = let p = err_from_is_err_and c.from_residual-in_err-name.result c.from_residual-in_err-name.ensures.1 in rw (p.1, p.2) (λ k. carried c.args.line.now _ (c.in_ok-home.ensures.took.1 _ ∙ c.in_ok-expect.ensures.took.1 _) (c.in_err-name.ensures.took _))

pub returns-in_err-args : goal.returns-in_err-args
unfolding operated
returns-in_err-args c = let p = err_from_is_err_and c.from_residual-in_err-args.result c.from_residual-in_err-args.ensures.1 in rw (p.1, p.2) (λ k. carried c.args.line.now _ (c.in_ok-home.ensures.took.1 _ ∙ c.in_ok-expect.ensures.took.1 _ ∙ c.in_ok-name.ensures.took.1 _) (c.in_err-args.ensures _))

pub returns : goal.returns
unfolding operated
returns c = (c.in_ok-args.ensures.0, λ k. c.in_ok-home.ensures.took.1 _ ∙ c.in_ok-expect.ensures.took.1 _ ∙ c.in_ok-name.ensures.took.1 _ ∙ c.in_ok-args.ensures.1 _)
