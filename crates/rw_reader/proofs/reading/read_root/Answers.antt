use Rattle.std.proofs.Common.{◌∙◌}
use Rattle.std.proofs.lemmas.Result.{err_from_is_err_and}
use Rattle.rw_reader.specs.Requests.{root_form}
use Rattle.rw_forms.proofs.Parts.{carried}
use Rattle.rw_reader.proofs.Made.{made_root}
use Rattle.rw_reader.proofs.reading.read_root.Goals as goal

pub returns-in_err-spec : goal.returns-in_err-spec
unfolding root_form
returns-in_err-spec c = let p = err_from_is_err_and c.from_residual.result c.from_residual.ensures.1 in rw (p.1, p.2) (c.in_err-spec.ensures _)

pub returns-in_err-end : goal.returns-in_err-end
unfolding root_form
returns-in_err-end c = let p = err_from_is_err_and c.from_residual-in_err-end.result c.from_residual-in_err-end.ensures.1 in rw (p.1, p.2) (carried c.args.line.now _ (c.in_ok-spec.ensures.1 _) (c.in_err-end.ensures _))

pub returns : goal.returns
unfolding root_form
returns c = c.in_ok-spec.ensures.1 _ ∙ c.in_ok-end.ensures _ ∙ made_root _ _ c.into_inner.ensures
