use Rattle.std.proofs.Common.{◌∙◌}
use Rattle.std.proofs.lemmas.Result.{err_from_is_err_and}
use Rattle.rw_reader.specs.Requests.{status_form}
use Rattle.rw_forms.proofs.Parts.{carried}
use Rattle.rw_reader.proofs.reading.read_status.Goals as goal

pub returns-in_err-end : goal.returns-in_err-end
unfolding status_form
returns-in_err-end c = let p = err_from_is_err_and c.from_residual.result c.from_residual.ensures.1 in rw (p.1, p.2) (carried c.args.line.now _ (c.if-accept.ensures.chose.1 _ _) (c.in_err-end.ensures _))

pub returns-then-accept : goal.returns-then-accept
unfolding status_form
returns-then-accept c = c.if-accept.ensures.chose.1 _ _ ∙ c.in_ok-end.ensures _

pub returns-in_err-place : goal.returns-in_err-place
unfolding status_form
returns-in_err-place c = let p = err_from_is_err_and c.from_residual-in_err-place.result c.from_residual-in_err-place.ensures.1 in rw (p.1, p.2) (carried c.args.line.now _ (c.if-accept.ensures.chose.1 _ _ ∙ c.if-accept-2.ensures.chose.1 _ _) (c.in_err-place.ensures _))

pub returns-in_err-end-2 : goal.returns-in_err-end-2
unfolding status_form
returns-in_err-end-2 c = let p = err_from_is_err_and c.from_residual-in_err-end-2.result c.from_residual-in_err-end-2.ensures.1 in rw (p.1, p.2) (carried c.args.line.now _ (c.if-accept.ensures.chose.1 _ _ ∙ c.if-accept-2.ensures.chose.1 _ _ ∙ c.in_ok-place.ensures.1 _) (c.in_err-end-2.ensures _))

pub returns-then-accept-2 : goal.returns-then-accept-2
unfolding status_form
returns-then-accept-2 c = c.if-accept.ensures.chose.1 _ _ ∙ c.if-accept-2.ensures.chose.1 _ _ ∙ c.in_ok-place.ensures.1 _ ∙ c.in_ok-end-2.ensures _

pub returns-in_err-name : goal.returns-in_err-name
unfolding status_form
returns-in_err-name c = let p = err_from_is_err_and c.from_residual-in_err-name.result c.from_residual-in_err-name.ensures.1 in rw (p.1, p.2) (carried c.args.line.now _ (c.if-accept.ensures.chose.1 _ _ ∙ c.if-accept-2.ensures.chose.1 _ _ ∙ c.if-accept-3.ensures.chose.1 _ _) (c.in_err-name.ensures.took _))

pub returns-in_err-end-3 : goal.returns-in_err-end-3
unfolding status_form
returns-in_err-end-3 c = let p = err_from_is_err_and c.from_residual-in_err-end-3.result c.from_residual-in_err-end-3.ensures.1 in rw (p.1, p.2) (carried c.args.line.now _ (c.if-accept.ensures.chose.1 _ _ ∙ c.if-accept-2.ensures.chose.1 _ _ ∙ c.if-accept-3.ensures.chose.1 _ _ ∙ c.in_ok-name.ensures.took.1 _) (c.in_err-end-3.ensures _))

pub returns-then-accept-3 : goal.returns-then-accept-3
unfolding status_form
returns-then-accept-3 c = c.if-accept.ensures.chose.1 _ _ ∙ c.if-accept-2.ensures.chose.1 _ _ ∙ c.if-accept-3.ensures.chose.1 _ _ ∙ c.in_ok-name.ensures.took.1 _ ∙ c.in_ok-end-3.ensures _

pub returns-in_err-end-4 : goal.returns-in_err-end-4
unfolding status_form
returns-in_err-end-4 c = let p = err_from_is_err_and c.from_residual-in_err-end-4.result c.from_residual-in_err-end-4.ensures.1 in rw (p.1, p.2) (carried c.args.line.now _ (c.if-accept.ensures.chose.1 _ _ ∙ c.if-accept-2.ensures.chose.1 _ _ ∙ c.if-accept-3.ensures.chose.1 _ _) (c.in_err-end-4.ensures _))

pub returns : goal.returns
unfolding status_form
returns c = c.if-accept.ensures.chose.1 _ _ ∙ c.if-accept-2.ensures.chose.1 _ _ ∙ c.if-accept-3.ensures.chose.1 _ _ ∙ c.in_ok-end-4.ensures _
