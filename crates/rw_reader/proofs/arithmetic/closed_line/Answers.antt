use Rattle.std.proofs.Common.{◌∙◌, arith}
use Rattle.std.proofs.lemmas.Result.{err_from_is_err_and}
use Rattle.rw_forms.specs.Certificates.{closed_line}
use Rattle.rw_forms.proofs.Parts.{carried}
use Rattle.rw_reader.proofs.arithmetic.closed_line.Goals as goal

pub returns-in_err-made-clause-took : goal.returns-in_err-made-clause-took
unfolding closed_line
returns-in_err-made-clause-took c = let p = err_from_is_err_and c.from_residual.result c.from_residual.ensures.1 in rw (p.1, p.2) (λ k. c.in_err-made.ensures.took _)

pub returns-in_err-made-clause-on : goal.returns-in_err-made-clause-on
returns-in_err-made-clause-on c = let h0 = c.in_err-made.ensures.on in omega arith

pub returns-in_err-expect-clause-took : goal.returns-in_err-expect-clause-took
unfolding closed_line
returns-in_err-expect-clause-took c = let p = err_from_is_err_and c.from_residual-in_err-expect.result c.from_residual-in_err-expect.ensures.1 in rw (p.1, p.2) (λ k. carried c.args.line.now _ (c.in_ok-made.ensures.took.1 _) (c.in_err-expect.ensures.took _))

pub returns-in_err-expect-clause-on : goal.returns-in_err-expect-clause-on
returns-in_err-expect-clause-on c = let h0 = c.in_ok-made.ensures.on in let h1 = c.in_err-expect.ensures.on in omega arith

pub returns-clause-took : goal.returns-clause-took
unfolding closed_line
returns-clause-took c = (c.in_ok-expect.ensures.took.0, λ k. c.in_ok-made.ensures.took.1 _ ∙ c.in_ok-expect.ensures.took.1 _)

pub returns-clause-on : goal.returns-clause-on
returns-clause-on c = let h0 = c.in_ok-made.ensures.on in let h1 = c.in_ok-expect.ensures.on in omega arith
