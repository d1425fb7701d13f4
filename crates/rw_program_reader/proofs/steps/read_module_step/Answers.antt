use Rattle.std.proofs.Common.{◌∙◌, ap, inl, inr}
use Rattle.std.specs.Prelude.{Ok, Err}
use Rattle.std.proofs.lemmas.Result.{err_from_is_err_and}
use Rattle.rw_forms.proofs.Parts.{carried}
use Rattle.rw_program_reader.specs.Steps.{given_module, module_form}
use Rattle.rw_program_reader.proofs.Texts.{answered}
use Rattle.rw_program_reader.proofs.StepTexts.{one_module_step, module_ok, module_err}
use Rattle.rw_program_reader.proofs.steps.read_module_step.Goals as goal

pub returns-in_err-step : goal.returns-in_err-step
unfolding module_form
returns-in_err-step c =
    let p = err_from_is_err_and c.from_residual.result c.from_residual.ensures.1 in
    let x = module_err c.args.text.now c.skip-at.result _ c.skip-at.ensures.place (c.in_err-step.ensures _) in
    rw (p.1, p.2) (record { ok = tt; err = x; spelled = λ s h. inr (ap Err (answered module_form c.args.text.now (given_module s) _ x h)) })

pub returns-in_err-end : goal.returns-in_err-end
unfolding module_form
returns-in_err-end c =
    let p = err_from_is_err_and c.from_residual-in_err-end.result c.from_residual-in_err-end.ensures.1 in
    let x = module_err c.args.text.now c.skip-at.result _ c.skip-at.ensures.place (carried c.args.text.now _ (c.in_ok-step.ensures.1 _) (c.in_err-end.ensures _)) in
    rw (p.1, p.2) (record { ok = tt; err = x; spelled = λ s h. inr (ap Err (answered module_form c.args.text.now (given_module s) _ x h)) })

pub returns : goal.returns
unfolding module_form
returns c =
    let x = module_ok c.args.text.now c.skip-at.result _ c.skip-at.ensures.place (c.in_ok-step.ensures.1 _ ∙ c.in_ok-end.ensures _) in
    record { ok = x; err = tt; spelled = λ s h. inl (ap Ok (one_module_step c.args.text.now _ s x h)) }
