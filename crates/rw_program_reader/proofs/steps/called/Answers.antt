use Rattle.std.proofs.Common.{◌∙◌}
use Rattle.std.proofs.lemmas.Result.{err_from_is_err_and}
use Rattle.rw_forms.proofs.Parts.{carried}
use Rattle.rw_program_reader.specs.Steps.{called}
use Rattle.rw_program_reader.proofs.steps.called.Goals as goal

pub returns-in_err-name : goal.returns-in_err-name
unfolding called
returns-in_err-name c = let p = err_from_is_err_and c.from_residual.result c.from_residual.ensures.1 in rw (p.1, p.2) (λ k. c.in_err-name.ensures.took _)

pub returns-in_err-args : goal.returns-in_err-args
unfolding called
returns-in_err-args c = let p = err_from_is_err_and c.from_residual-in_err-args.result c.from_residual-in_err-args.ensures.1 in rw (p.1, p.2) (λ k. carried c.args.line.now _ (c.in_ok-name.ensures.took.1 _) (c.in_err-args.ensures _))

pub returns : goal.returns
unfolding called
returns c = (c.in_ok-args.ensures.0, λ k. c.in_ok-name.ensures.took.1 _ ∙ c.in_ok-args.ensures.1 _)
