use Rattle.std.proofs.Common.{◌∙◌, arith}
use Rattle.std.proofs.lemmas.Result.{err_from_is_err_and}
use Rattle.rw_forms.specs.Certificates.{two_terms}
use Rattle.rw_forms.proofs.Parts.{carried}
use Rattle.rw_reader.proofs.certificate.two_terms.Goals as goal

pub returns-in_err-first-clause-took : goal.returns-in_err-first-clause-took
unfolding two_terms
returns-in_err-first-clause-took c = let p = err_from_is_err_and c.from_residual.result c.from_residual.ensures.1 in rw (p.1, p.2) (λ k. c.in_err-first.ensures.took _)

pub returns-in_err-first-clause-on : goal.returns-in_err-first-clause-on
returns-in_err-first-clause-on c = let h0 = c.in_err-first.ensures.on in omega arith

pub returns-in_err-expect-clause-took : goal.returns-in_err-expect-clause-took
unfolding two_terms
returns-in_err-expect-clause-took c = let p = err_from_is_err_and c.from_residual-in_err-expect.result c.from_residual-in_err-expect.ensures.1 in rw (p.1, p.2) (λ k. carried c.args.line.now _ (c.in_ok-first.ensures.took.1 _) (c.in_err-expect.ensures.took _))

pub returns-in_err-expect-clause-on : goal.returns-in_err-expect-clause-on
returns-in_err-expect-clause-on c = let h0 = c.in_ok-first.ensures.on in let h1 = c.in_err-expect.ensures.on in omega arith

pub returns-in_err-second-clause-took : goal.returns-in_err-second-clause-took
unfolding two_terms
returns-in_err-second-clause-took c = let p = err_from_is_err_and c.from_residual-in_err-second.result c.from_residual-in_err-second.ensures.1 in rw (p.1, p.2) (λ k. carried c.args.line.now _ (c.in_ok-first.ensures.took.1 _ ∙ c.in_ok-expect.ensures.took.1 _) (c.in_err-second.ensures.took _))

pub returns-in_err-second-clause-on : goal.returns-in_err-second-clause-on
returns-in_err-second-clause-on c = let h0 = c.in_ok-first.ensures.on in let h1 = c.in_ok-expect.ensures.on in let h2 = c.in_err-second.ensures.on in omega arith

pub returns-clause-took : goal.returns-clause-took
unfolding two_terms
returns-clause-took c = (c.in_ok-second.ensures.took.0, λ k. c.in_ok-first.ensures.took.1 _ ∙ c.in_ok-expect.ensures.took.1 _ ∙ c.in_ok-second.ensures.took.1 _)

pub returns-clause-on : goal.returns-clause-on
returns-clause-on c = let h0 = c.in_ok-first.ensures.on in let h1 = c.in_ok-expect.ensures.on in let h2 = c.in_ok-second.ensures.on in omega arith
