use Rattle.std.proofs.lemmas.Result.{err_from_is_err_and}
use Rattle.rw_program_reader.specs.Steps.{call_step}
use Rattle.rw_forms.proofs.Parts.{passed_on}
use Rattle.rw_program_reader.proofs.steps.call_step.Goals as goal

pub returns-in_err-expect : goal.returns-in_err-expect
unfolding call_step
returns-in_err-expect c = let p = err_from_is_err_and c.from_residual.result c.from_residual.ensures.1 in rw (p.1, p.2) (λ k. c.in_err-expect.ensures.took _)

pub returns : goal.returns
unfolding call_step
returns c = passed_on _ _ c.args.line.now _ _ _ c.called.result (λ k. c.in_ok-expect.ensures.took.1 _) c.called.ensures
