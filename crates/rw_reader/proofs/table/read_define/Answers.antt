use Rattle.std.proofs.Common.{◌∙◌}
use Rattle.std.proofs.lemmas.Result.{err_from_is_err_and}
use Rattle.rw_reader.specs.Requests.{define_form}
use Rattle.rw_forms.proofs.Parts.{carried}
use Rattle.rw_reader.proofs.Made.{made_definition}
use Rattle.rw_reader.proofs.table.read_define.Goals as goal

pub returns-in_err-name : goal.returns-in_err-name
unfolding define_form
returns-in_err-name c = let p = err_from_is_err_and c.from_residual.result c.from_residual.ensures.1 in rw (p.1, p.2) (c.in_err-name.ensures.took _)

pub returns-in_err-expect : goal.returns-in_err-expect
unfolding define_form
returns-in_err-expect c = let p = err_from_is_err_and c.from_residual-in_err-expect.result c.from_residual-in_err-expect.ensures.1 in rw (p.1, p.2) (carried c.args.line.now _ (c.in_ok-name.ensures.took.1 _) (c.in_err-expect.ensures.took _))

pub returns-in_err-params : goal.returns-in_err-params
unfolding define_form
returns-in_err-params c = let p = err_from_is_err_and c.from_residual-in_err-params.result c.from_residual-in_err-params.ensures.1 in rw (p.1, p.2) (carried c.args.line.now _ (c.in_ok-name.ensures.took.1 _ ∙ c.in_ok-expect.ensures.took.1 _) (c.in_err-params.ensures _))

pub returns-in_err-expect-2 : goal.returns-in_err-expect-2
unfolding define_form
returns-in_err-expect-2 c = let p = err_from_is_err_and c.from_residual-in_err-expect-2.result c.from_residual-in_err-expect-2.ensures.1 in rw (p.1, p.2) (carried c.args.line.now _ (c.in_ok-name.ensures.took.1 _ ∙ c.in_ok-expect.ensures.took.1 _ ∙ c.in_ok-params.ensures.1 _) (c.in_err-expect-2.ensures.took _))

pub returns-in_err-body : goal.returns-in_err-body
unfolding define_form
returns-in_err-body c = let p = err_from_is_err_and c.from_residual-in_err-body.result c.from_residual-in_err-body.ensures.1 in rw (p.1, p.2) (carried c.args.line.now _ (c.in_ok-name.ensures.took.1 _ ∙ c.in_ok-expect.ensures.took.1 _ ∙ c.in_ok-params.ensures.1 _ ∙ c.in_ok-expect-2.ensures.took.1 _) (c.in_err-body.ensures.took _))

pub returns-in_err-end : goal.returns-in_err-end
unfolding define_form
returns-in_err-end c = let p = err_from_is_err_and c.from_residual-in_err-end.result c.from_residual-in_err-end.ensures.1 in rw (p.1, p.2) (carried c.args.line.now _ (c.in_ok-name.ensures.took.1 _ ∙ c.in_ok-expect.ensures.took.1 _ ∙ c.in_ok-params.ensures.1 _ ∙ c.in_ok-expect-2.ensures.took.1 _ ∙ c.in_ok-body.ensures.took.1 _) (c.in_err-end.ensures _))

pub returns : goal.returns
unfolding define_form
returns c = c.in_ok-name.ensures.took.1 _ ∙ c.in_ok-expect.ensures.took.1 _ ∙ c.in_ok-params.ensures.1 _ ∙ c.in_ok-expect-2.ensures.took.1 _ ∙ c.in_ok-body.ensures.took.1 _ ∙ c.in_ok-end.ensures _ ∙ made_definition _ _ _ _ c.into_inner.ensures
