use Rattle.std.proofs.Common.{◌∙◌, arith}
use Rattle.std.proofs.lemmas.Result.{err_from_is_err_and}
use Rattle.rw_forms.specs.Phrases.{parameter}
use Rattle.rw_forms.proofs.Parts.{carried}
use Rattle.rw_forms.proofs.parameters.parameter.Goals as goal

pub returns-in_err-name-clause-took : goal.returns-in_err-name-clause-took
unfolding parameter
returns-in_err-name-clause-took c = let p = err_from_is_err_and c.from_residual.result c.from_residual.ensures.1 in rw (p.1, p.2) (λ k. c.in_err-name.ensures.took _)

pub returns-in_err-name-clause-on : goal.returns-in_err-name-clause-on
returns-in_err-name-clause-on c = let h0 = c.in_err-name.ensures.on in omega arith

pub returns-in_err-expect-clause-took : goal.returns-in_err-expect-clause-took
unfolding parameter
returns-in_err-expect-clause-took c = let p = err_from_is_err_and c.from_residual-in_err-expect.result c.from_residual-in_err-expect.ensures.1 in rw (p.1, p.2) (λ k. carried c.args.line.now _ (c.in_ok-name.ensures.took.1 _) (c.in_err-expect.ensures.took _))

pub returns-in_err-expect-clause-on : goal.returns-in_err-expect-clause-on
returns-in_err-expect-clause-on c = let h0 = c.in_ok-name.ensures.on in let h1 = c.in_err-expect.ensures.on in omega arith

pub returns-in_err-sort-clause-took : goal.returns-in_err-sort-clause-took
unfolding parameter
returns-in_err-sort-clause-took c = let p = err_from_is_err_and c.from_residual-in_err-sort.result c.from_residual-in_err-sort.ensures.1 in rw (p.1, p.2) (λ k. carried c.args.line.now _ (c.in_ok-name.ensures.took.1 _ ∙ c.in_ok-expect.ensures.took.1 _) (c.in_err-sort.ensures.took _))

pub returns-in_err-sort-clause-on : goal.returns-in_err-sort-clause-on
returns-in_err-sort-clause-on c = let h0 = c.in_ok-name.ensures.on in let h1 = c.in_ok-expect.ensures.on in let h2 = c.in_err-sort.ensures.on in omega arith

pub returns-clause-took : goal.returns-clause-took
unfolding parameter
returns-clause-took c = (c.in_ok-sort.ensures.took.0, λ k. c.in_ok-name.ensures.took.1 _ ∙ c.in_ok-expect.ensures.took.1 _ ∙ c.in_ok-sort.ensures.took.1 _)

pub returns-clause-on : goal.returns-clause-on
returns-clause-on c = let h0 = c.in_ok-name.ensures.on in let h1 = c.in_ok-expect.ensures.on in let h2 = c.in_ok-sort.ensures.on in omega arith
