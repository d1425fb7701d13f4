use Rattle.std.proofs.Common.{◌∙◌}
use Rattle.std.proofs.lemmas.Result.{err_from_is_err_and}
use Rattle.rw_reader.specs.Requests.{prove_form}
use Rattle.rw_forms.proofs.Parts.{carried}
use Rattle.rw_reader.proofs.reading.read_prove.Goals as goal

pub returns-in_err-name : goal.returns-in_err-name
unfolding prove_form
returns-in_err-name c = let p = err_from_is_err_and c.from_residual.result c.from_residual.ensures.1 in rw (p.1, p.2) (carried c.args.line.now _ (c.if-accept.ensures.chose.1 _ _) (c.in_err-name.ensures.took _))

pub returns-in_err-lines : goal.returns-in_err-lines
unfolding prove_form
returns-in_err-lines c = let p = err_from_is_err_and c.from_residual-in_err-lines.result c.from_residual-in_err-lines.ensures.1 in rw (p.1, p.2) (carried c.args.line.now _ (c.if-accept.ensures.chose.1 _ _ ∙ c.in_ok-name.ensures.took.1 _) (c.in_err-lines.ensures _))

pub returns-in_err-end : goal.returns-in_err-end
unfolding prove_form
returns-in_err-end c = let p = err_from_is_err_and c.from_residual-in_err-end.result c.from_residual-in_err-end.ensures.1 in rw (p.1, p.2) (carried c.args.line.now _ (c.if-accept.ensures.chose.1 _ _ ∙ c.in_ok-name.ensures.took.1 _ ∙ c.in_ok-lines.ensures.1 _) (c.in_err-end.ensures _))

pub returns-then-accept : goal.returns-then-accept
unfolding prove_form
returns-then-accept c = c.if-accept.ensures.chose.1 _ _ ∙ c.in_ok-name.ensures.took.1 _ ∙ c.in_ok-lines.ensures.1 _ ∙ c.in_ok-end.ensures _

pub returns-in_err-place : goal.returns-in_err-place
unfolding prove_form
returns-in_err-place c = let p = err_from_is_err_and c.from_residual-in_err-place.result c.from_residual-in_err-place.ensures.1 in rw (p.1, p.2) (carried c.args.line.now _ (c.if-accept.ensures.chose.1 _ _) (c.in_err-place.ensures _))

pub returns-in_err-number : goal.returns-in_err-number
unfolding prove_form
returns-in_err-number c = let p = err_from_is_err_and c.from_residual-in_err-number.result c.from_residual-in_err-number.ensures.1 in rw (p.1, p.2) (carried c.args.line.now _ (c.if-accept.ensures.chose.1 _ _ ∙ c.in_ok-place.ensures.1 _) (c.in_err-number.ensures.took _))

pub returns-in_err-lines-2 : goal.returns-in_err-lines-2
unfolding prove_form
returns-in_err-lines-2 c = let p = err_from_is_err_and c.from_residual-in_err-lines-2.result c.from_residual-in_err-lines-2.ensures.1 in rw (p.1, p.2) (carried c.args.line.now _ (c.if-accept.ensures.chose.1 _ _ ∙ c.in_ok-place.ensures.1 _ ∙ c.in_ok-number.ensures.took.1 _) (c.in_err-lines-2.ensures _))

pub returns-in_err-end-2 : goal.returns-in_err-end-2
unfolding prove_form
returns-in_err-end-2 c = let p = err_from_is_err_and c.from_residual-in_err-end-2.result c.from_residual-in_err-end-2.ensures.1 in rw (p.1, p.2) (carried c.args.line.now _ (c.if-accept.ensures.chose.1 _ _ ∙ c.in_ok-place.ensures.1 _ ∙ c.in_ok-number.ensures.took.1 _ ∙ c.in_ok-lines-2.ensures.1 _) (c.in_err-end-2.ensures _))

pub returns : goal.returns
unfolding prove_form
returns c = c.if-accept.ensures.chose.1 _ _ ∙ c.in_ok-place.ensures.1 _ ∙ c.in_ok-number.ensures.took.1 _ ∙ c.in_ok-lines-2.ensures.1 _ ∙ c.in_ok-end-2.ensures _
