use Rattle.std.proofs.Common.{◌∙◌}
use Rattle.std.proofs.lemmas.Result.{err_from_is_err_and}
use Rattle.rw_reader.specs.Requests.{lemma_form, statement}
use Rattle.rw_forms.proofs.Parts.{carried}
use Rattle.rw_reader.proofs.Made.{made_lemma}
use Rattle.rw_reader.proofs.table.read_lemma.Goals as goal

pub returns-in_err-name : goal.returns-in_err-name
unfolding lemma_form statement
returns-in_err-name c = let p = err_from_is_err_and c.from_residual.result c.from_residual.ensures.1 in rw (p.1, p.2) (c.in_err-name.ensures.took _)

pub returns-in_err-expect : goal.returns-in_err-expect
unfolding lemma_form statement
returns-in_err-expect c = let p = err_from_is_err_and c.from_residual-in_err-expect.result c.from_residual-in_err-expect.ensures.1 in rw (p.1, p.2) (carried c.args.line.now _ (c.in_ok-name.ensures.took.1 _) (c.in_err-expect.ensures.took _))

pub returns-in_err-params : goal.returns-in_err-params
unfolding lemma_form statement
returns-in_err-params c = let p = err_from_is_err_and c.from_residual-in_err-params.result c.from_residual-in_err-params.ensures.1 in rw (p.1, p.2) (carried c.args.line.now _ (c.in_ok-name.ensures.took.1 _ ∙ c.in_ok-expect.ensures.took.1 _) (c.in_err-params.ensures _))

pub returns-in_err-expect-2 : goal.returns-in_err-expect-2
unfolding lemma_form statement
returns-in_err-expect-2 c = let p = err_from_is_err_and c.from_residual-in_err-expect-2.result c.from_residual-in_err-expect-2.ensures.1 in rw (p.1, p.2) (carried c.args.line.now _ (c.in_ok-name.ensures.took.1 _ ∙ c.in_ok-expect.ensures.took.1 _ ∙ c.in_ok-params.ensures.1 _) (c.in_err-expect-2.ensures.took _))

pub returns-in_err-left : goal.returns-in_err-left
unfolding lemma_form statement
returns-in_err-left c = let p = err_from_is_err_and c.from_residual-in_err-left.result c.from_residual-in_err-left.ensures.1 in rw (p.1, p.2) (carried c.args.line.now _ (c.in_ok-name.ensures.took.1 _ ∙ c.in_ok-expect.ensures.took.1 _ ∙ c.in_ok-params.ensures.1 _ ∙ c.in_ok-expect-2.ensures.took.1 _) (c.in_err-left.ensures _))

pub returns-in_err-right : goal.returns-in_err-right
unfolding lemma_form statement
returns-in_err-right c = let p = err_from_is_err_and c.from_residual-in_err-right.result c.from_residual-in_err-right.ensures.1 in rw (p.1, p.2) (carried c.args.line.now _ (c.in_ok-name.ensures.took.1 _ ∙ c.in_ok-expect.ensures.took.1 _ ∙ c.in_ok-params.ensures.1 _ ∙ c.in_ok-expect-2.ensures.took.1 _ ∙ c.in_ok-left.ensures.1 _) (c.in_err-right.ensures _))

pub returns-in_err-end : goal.returns-in_err-end
unfolding lemma_form statement
returns-in_err-end c = let p = err_from_is_err_and c.from_residual-in_err-end.result c.from_residual-in_err-end.ensures.1 in rw (p.1, p.2) (carried c.args.line.now _ (c.in_ok-name.ensures.took.1 _ ∙ c.in_ok-expect.ensures.took.1 _ ∙ c.in_ok-params.ensures.1 _ ∙ c.in_ok-expect-2.ensures.took.1 _ ∙ c.in_ok-left.ensures.1 _ ∙ c.in_ok-right.ensures.1 _) (c.in_err-end.ensures _))

pub returns : goal.returns
unfolding lemma_form statement
returns c = c.in_ok-name.ensures.took.1 _ ∙ c.in_ok-expect.ensures.took.1 _ ∙ c.in_ok-params.ensures.1 _ ∙ c.in_ok-expect-2.ensures.took.1 _ ∙ c.in_ok-left.ensures.1 _ ∙ c.in_ok-right.ensures.1 _ ∙ c.in_ok-end.ensures _ ∙ made_lemma _ _ c.in_ok-lemma.ensures
