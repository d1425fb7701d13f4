use Rattle.std.proofs.Common.{◌∙◌}
use Rattle.std.proofs.lemmas.Result.{err_from_is_err_and}
use Rattle.rw_reader.specs.Requests.{step_form}
use Rattle.rw_forms.proofs.Parts.{carried}
use Rattle.rw_reader.proofs.Made.{made_step}
use Rattle.rw_reader.proofs.reading.read_step.Goals as goal

pub returns-in_err-place : goal.returns-in_err-place
unfolding step_form
returns-in_err-place c = let p = err_from_is_err_and c.from_residual.result c.from_residual.ensures.1 in rw (p.1, p.2) (c.in_err-place.ensures _)

pub returns-in_err-end : goal.returns-in_err-end
unfolding step_form
returns-in_err-end c = let p = err_from_is_err_and c.from_residual-in_err-end.result c.from_residual-in_err-end.ensures.1 in rw (p.1, p.2) (carried c.args.line.now _ (c.in_ok-place.ensures.1 _ ∙ c.if-accept.ensures.chose.1 _ _) (c.in_err-end.ensures _))

pub returns-then-accept : goal.returns-then-accept
unfolding step_form
returns-then-accept c = c.in_ok-place.ensures.1 _ ∙ c.if-accept.ensures.chose.1 _ _ ∙ c.in_ok-end.ensures _

pub returns-in_err-made : goal.returns-in_err-made
unfolding step_form
returns-in_err-made c = let p = err_from_is_err_and c.from_residual-in_err-made.result c.from_residual-in_err-made.ensures.1 in rw (p.1, p.2) (carried c.args.line.now _ (c.in_ok-place.ensures.1 _ ∙ c.if-accept.ensures.chose.1 _ _) (c.in_err-made.ensures _))

pub returns-in_err-end-2 : goal.returns-in_err-end-2
unfolding step_form
returns-in_err-end-2 c = let p = err_from_is_err_and c.from_residual-in_err-end-2.result c.from_residual-in_err-end-2.ensures.1 in rw (p.1, p.2) (carried c.args.line.now _ (c.in_ok-place.ensures.1 _ ∙ c.if-accept.ensures.chose.1 _ _ ∙ c.in_ok-made.ensures.1 _) (c.in_err-end-2.ensures _))

pub returns : goal.returns
unfolding step_form
returns c = c.in_ok-place.ensures.1 _ ∙ c.if-accept.ensures.chose.1 _ _ ∙ c.in_ok-made.ensures.1 _ ∙ c.in_ok-end-2.ensures _ ∙ made_step _ _ _ (c.into_inner.ensures ∙ c.in_ok-made-2.ensures)
