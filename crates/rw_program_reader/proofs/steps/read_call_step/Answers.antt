use Rattle.std.proofs.Common.{◌∙◌, ap, inl, inr}
use Rattle.std.specs.Prelude.{Ok, Err}
use Rattle.std.proofs.lemmas.Result.{err_from_is_err_and}
use Rattle.rw_forms.proofs.Parts.{carried}
use Rattle.rw_program_reader.specs.Steps.{given_call, call_form}
use Rattle.rw_program_reader.proofs.Texts.{answered}
use Rattle.rw_program_reader.proofs.StepTexts.{one_call_step, call_ok, call_err}
use Rattle.rw_program_reader.proofs.steps.read_call_step.Goals as goal

pub returns-in_err-step : goal.returns-in_err-step
unfolding call_form
returns-in_err-step c =
    let p = err_from_is_err_and c.from_residual.result c.from_residual.ensures.1 in
    let x = call_err c.args.text.now c.skip-at.result _ c.skip-at.ensures.place (c.in_err-step.ensures _) in
    rw (p.1, p.2) (record { ok = tt; err = x; spelled = λ s h. inr (ap Err (answered call_form c.args.text.now (given_call s) _ x h)) })

pub returns-in_err-end : goal.returns-in_err-end
unfolding call_form
returns-in_err-end c =
    let p = err_from_is_err_and c.from_residual-in_err-end.result c.from_residual-in_err-end.ensures.1 in
    let x = call_err c.args.text.now c.skip-at.result _ c.skip-at.ensures.place (carried c.args.text.now _ (c.in_ok-step.ensures.1 _) (c.in_err-end.ensures _)) in
    rw (p.1, p.2) (record { ok = tt; err = x; spelled = λ s h. inr (ap Err (answered call_form c.args.text.now (given_call s) _ x h)) })

pub returns : goal.returns
unfolding call_form
returns c =
    let x = call_ok c.args.text.now c.skip-at.result _ c.skip-at.ensures.place (c.in_ok-step.ensures.1 _ ∙ c.in_ok-end.ensures _) in
    record { ok = x; err = tt; spelled = λ s h. inl (ap Ok (one_call_step c.args.text.now _ s x h)) }
