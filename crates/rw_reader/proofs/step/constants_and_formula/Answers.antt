use Rattle.std.proofs.Common.{◌∙◌, sym, ap}
use Rattle.std.proofs.lemmas.Result.{err_from_is_err_and}
use Rattle.rw_reader.specs.Steps.{constants_and_formula}
use Rattle.rw_forms.proofs.Parts.{carried, told_as}
use Rattle.rw_laws.specs.declared.step.BasicStep.TheVariants as basic
use Rattle.rw_reader.proofs.step.constants_and_formula.Goals as goal

pub returns-in_err-names : goal.returns-in_err-names
unfolding constants_and_formula
returns-in_err-names c = let p = err_from_is_err_and c.from_residual.result c.from_residual.ensures.1 in rw (p.1, p.2) (λ k. c.in_err-names.ensures _)

pub returns-in_err-expect : goal.returns-in_err-expect
unfolding constants_and_formula
returns-in_err-expect c = let p = err_from_is_err_and c.from_residual-in_err-expect.result c.from_residual-in_err-expect.ensures.1 in rw (p.1, p.2) (λ k. carried c.args.line.now _ (c.in_ok-names.ensures.1 _) (c.in_err-expect.ensures.took _))

pub returns-in_err-formula : goal.returns-in_err-formula
unfolding constants_and_formula
returns-in_err-formula c = let p = err_from_is_err_and c.from_residual-in_err-formula.result c.from_residual-in_err-formula.ensures.1 in rw (p.1, p.2) (λ k. carried c.args.line.now _ (c.in_ok-names.ensures.1 _ ∙ c.in_ok-expect.ensures.took.1 _) (c.in_err-formula.ensures.took _))

pub returns : goal.returns
unfolding constants_and_formula
returns c = (c.in_ok-formula.ensures.took.0, λ k. told_as _ _ _ k _ _ (ap (λ z. basic.SeqCon c.in_ok-names.names z) (sym c.into_inner.ensures)) (c.in_ok-names.ensures.1 _ ∙ c.in_ok-expect.ensures.took.1 _ ∙ c.in_ok-formula.ensures.took.1 _))
