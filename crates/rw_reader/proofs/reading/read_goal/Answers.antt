use Rattle.std.proofs.Common.{◌∙◌}
use Rattle.std.proofs.lemmas.Result.{err_from_is_err_and}
use Rattle.rw_reader.specs.Requests.{goal_form}
use Rattle.rw_forms.proofs.Parts.{carried}
use Rattle.rw_reader.proofs.reading.read_goal.Goals as goal

pub returns-in_err-place : goal.returns-in_err-place
unfolding goal_form
returns-in_err-place c = let p = err_from_is_err_and c.from_residual.result c.from_residual.ensures.1 in rw (p.1, p.2) (c.in_err-place.ensures _)

pub returns-in_err-end : goal.returns-in_err-end
unfolding goal_form
returns-in_err-end c = let p = err_from_is_err_and c.from_residual-in_err-end.result c.from_residual-in_err-end.ensures.1 in rw (p.1, p.2) (carried c.args.line.now _ (c.in_ok-place.ensures.1 _) (c.in_err-end.ensures _))

pub returns : goal.returns
unfolding goal_form
returns c = c.in_ok-place.ensures.1 _ ∙ c.in_ok-end.ensures _
