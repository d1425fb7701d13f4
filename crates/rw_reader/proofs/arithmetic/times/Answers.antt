use Rattle.std.proofs.Common.{◌∙◌, arith, sym}
use Rattle.std.proofs.lemmas.Result.{err_from_is_err_and}
use Rattle.rw_forms.specs.Certificates.{times}
use Rattle.rw_forms.proofs.Parts.{carried, told_as}
use Rattle.rw_reader.proofs.arithmetic.times.Goals as goal

pub returns-in_err-expect-clause-took : goal.returns-in_err-expect-clause-took
unfolding times
returns-in_err-expect-clause-took c = let p = err_from_is_err_and c.from_residual.result c.from_residual.ensures.1 in rw (p.1, p.2) (λ k. c.in_err-expect.ensures.took _)

pub returns-in_err-expect-clause-on : goal.returns-in_err-expect-clause-on
returns-in_err-expect-clause-on c = let h0 = c.in_err-expect.ensures.on in omega arith

pub returns-in_err-of-clause-took : goal.returns-in_err-of-clause-took
unfolding times
returns-in_err-of-clause-took c = let p = err_from_is_err_and c.from_residual-in_err-of.result c.from_residual-in_err-of.ensures.1 in rw (p.1, p.2) (λ k. carried c.args.line.now _ (c.in_ok-expect.ensures.took.1 _) (c.in_err-of.ensures.took _))

pub returns-in_err-of-clause-on : goal.returns-in_err-of-clause-on
returns-in_err-of-clause-on c = let h0 = c.in_ok-expect.ensures.on in let h1 = c.in_err-of.ensures.on in omega arith

pub returns-clause-took : goal.returns-clause-took
unfolding times
returns-clause-took c = (c.in_ok-of.ensures.took.0, λ k. told_as _ _ _ k _ _ (sym c.multiple.ensures) (c.in_ok-expect.ensures.took.1 _ ∙ c.in_ok-of.ensures.took.1 _))

pub returns-clause-on : goal.returns-clause-on
returns-clause-on c = let h0 = c.in_ok-expect.ensures.on in let h1 = c.in_ok-of.ensures.on in omega arith
