use Rattle.std.proofs.Common.{◌∙◌, sym, ap}
use Rattle.std.proofs.lemmas.Result.{err_from_is_err_and}
use Rattle.rw_reader.specs.Steps.{iteration}
use Rattle.rw_forms.proofs.Parts.{carried, told_as}
use Rattle.rw_loops.specs.declared.step.LoopStep.TheVariants as loops
use Rattle.rw_reader.proofs.step.iteration.Goals as goal

pub returns-in_err-variant : goal.returns-in_err-variant
unfolding iteration
returns-in_err-variant c = let p = err_from_is_err_and c.from_residual.result c.from_residual.ensures.1 in rw (p.1, p.2) (λ k. c.in_err-variant.ensures.took _)

pub returns-in_err-expect : goal.returns-in_err-expect
unfolding iteration
returns-in_err-expect c = let p = err_from_is_err_and c.from_residual-in_err-expect.result c.from_residual-in_err-expect.ensures.1 in rw (p.1, p.2) (λ k. carried c.args.line.now _ (c.in_ok-variant.ensures.took.1 _) (c.in_err-expect.ensures.took _))

pub returns-in_err-guards : goal.returns-in_err-guards
unfolding iteration
returns-in_err-guards c = let p = err_from_is_err_and c.from_residual-in_err-guards.result c.from_residual-in_err-guards.ensures.1 in rw (p.1, p.2) (λ k. carried c.args.line.now _ (c.in_ok-variant.ensures.took.1 _ ∙ c.in_ok-expect.ensures.took.1 _) (c.in_err-guards.ensures _))

pub returns : goal.returns
unfolding iteration
returns c = (c.in_ok-guards.ensures.0, λ k. told_as _ _ _ k _ _ (ap (λ z. loops.Do z c.in_ok-guards.guards) (sym c.into_inner.ensures)) (c.in_ok-variant.ensures.took.1 _ ∙ c.in_ok-expect.ensures.took.1 _ ∙ c.in_ok-guards.ensures.1 _))
