use Rattle.std.proofs.Common.{◌∙◌, sym, ap}
use Rattle.std.proofs.lemmas.Result.{err_from_is_err_and}
use Rattle.rw_reader.specs.Steps.{pinned}
use Rattle.rw_forms.proofs.Parts.{carried, told_as}
use Rattle.rw_laws.specs.declared.step.BasicStep.TheVariants as basic
use Rattle.rw_reader.proofs.step.pinned.Goals as goal

pub returns-in_err-name : goal.returns-in_err-name
unfolding pinned
returns-in_err-name c = let p = err_from_is_err_and c.from_residual.result c.from_residual.ensures.1 in rw (p.1, p.2) (λ k. c.in_err-name.ensures.took _)

pub returns-in_err-expect : goal.returns-in_err-expect
unfolding pinned
returns-in_err-expect c = let p = err_from_is_err_and c.from_residual-in_err-expect.result c.from_residual-in_err-expect.ensures.1 in rw (p.1, p.2) (λ k. carried c.args.line.now _ (c.in_ok-name.ensures.took.1 _) (c.in_err-expect.ensures.took _))

pub returns-in_err-term : goal.returns-in_err-term
unfolding pinned
returns-in_err-term c = let p = err_from_is_err_and c.from_residual-in_err-term.result c.from_residual-in_err-term.ensures.1 in rw (p.1, p.2) (λ k. carried c.args.line.now _ (c.in_ok-name.ensures.took.1 _ ∙ c.in_ok-expect.ensures.took.1 _) (c.in_err-term.ensures.took _))

pub returns : goal.returns
unfolding pinned
returns c = (c.in_ok-term.ensures.took.0, λ k. told_as _ _ _ k _ _ (ap (λ z. basic.Con c.in_ok-name.name z) (sym c.into_inner.ensures)) (c.in_ok-name.ensures.took.1 _ ∙ c.in_ok-expect.ensures.took.1 _ ∙ c.in_ok-term.ensures.took.1 _))
