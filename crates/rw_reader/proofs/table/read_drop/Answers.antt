use Rattle.std.proofs.Common.{◌∙◌}
use Rattle.std.proofs.lemmas.Result.{err_from_is_err_and}
use Rattle.rw_reader.specs.Requests.{drop_form}
use Rattle.rw_forms.proofs.Parts.{carried}
use Rattle.rw_reader.proofs.table.read_drop.Goals as goal

pub returns-in_err-name : goal.returns-in_err-name
unfolding drop_form
returns-in_err-name c = let p = err_from_is_err_and c.from_residual.result c.from_residual.ensures.1 in rw (p.1, p.2) (c.in_err-name.ensures.took _)

pub returns-in_err-end : goal.returns-in_err-end
unfolding drop_form
returns-in_err-end c = let p = err_from_is_err_and c.from_residual-in_err-end.result c.from_residual-in_err-end.ensures.1 in rw (p.1, p.2) (carried c.args.line.now _ (c.in_ok-name.ensures.took.1 _) (c.in_err-end.ensures _))

pub returns : goal.returns
unfolding drop_form
returns c = c.in_ok-name.ensures.took.1 _ ∙ c.in_ok-end.ensures _
