use Rattle.std.proofs.Common.{◌∙◌}
use Rattle.std.proofs.lemmas.Result.{err_from_is_err_and}
use Rattle.rw_reader.specs.Requests.{find_form}
use Rattle.rw_forms.proofs.Parts.{carried}
use Rattle.rw_reader.proofs.reading.read_find.Goals as goal

pub returns-in_err-place : goal.returns-in_err-place
unfolding find_form
returns-in_err-place c = let p = err_from_is_err_and c.from_residual.result c.from_residual.ensures.1 in rw (p.1, p.2) (c.in_err-place.ensures _)

pub returns-in_err-number : goal.returns-in_err-number
unfolding find_form
returns-in_err-number c = let p = err_from_is_err_and c.from_residual-in_err-number.result c.from_residual-in_err-number.ensures.1 in rw (p.1, p.2) (carried c.args.line.now _ (c.in_ok-place.ensures.1 _) (c.in_err-number.ensures.took _))

pub returns-in_err-end : goal.returns-in_err-end
unfolding find_form
returns-in_err-end c = let p = err_from_is_err_and c.from_residual-in_err-end.result c.from_residual-in_err-end.ensures.1 in rw (p.1, p.2) (carried c.args.line.now _ (c.in_ok-place.ensures.1 _ ∙ c.in_ok-number.ensures.took.1 _) (c.in_err-end.ensures _))

pub returns : goal.returns
unfolding find_form
returns c = c.in_ok-place.ensures.1 _ ∙ c.in_ok-number.ensures.took.1 _ ∙ c.in_ok-end.ensures _
