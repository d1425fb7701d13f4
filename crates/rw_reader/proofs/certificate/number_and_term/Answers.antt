use Rattle.std.proofs.Common.{◌∙◌, arith}
use Rattle.std.proofs.lemmas.Result.{err_from_is_err_and}
use Rattle.rw_forms.specs.Certificates.{number_and_term}
use Rattle.rw_forms.proofs.Parts.{carried}
use Rattle.rw_reader.proofs.certificate.number_and_term.Goals as goal

pub returns-in_err-number-clause-took : goal.returns-in_err-number-clause-took
unfolding number_and_term
returns-in_err-number-clause-took c = let p = err_from_is_err_and c.from_residual.result c.from_residual.ensures.1 in rw (p.1, p.2) (λ k. c.in_err-number.ensures.took _)

pub returns-in_err-number-clause-on : goal.returns-in_err-number-clause-on
returns-in_err-number-clause-on c = let h0 = c.in_err-number.ensures.on in omega arith

pub returns-in_err-term-clause-took : goal.returns-in_err-term-clause-took
unfolding number_and_term
returns-in_err-term-clause-took c = let p = err_from_is_err_and c.from_residual-in_err-term.result c.from_residual-in_err-term.ensures.1 in rw (p.1, p.2) (λ k. carried c.args.line.now _ (c.in_ok-number.ensures.took.1 _) (c.in_err-term.ensures.took _))

pub returns-in_err-term-clause-on : goal.returns-in_err-term-clause-on
returns-in_err-term-clause-on c = let h0 = c.in_ok-number.ensures.on in let h1 = c.in_err-term.ensures.on in omega arith

pub returns-clause-took : goal.returns-clause-took
unfolding number_and_term
returns-clause-took c = (c.in_ok-term.ensures.took.0, λ k. c.in_ok-number.ensures.took.1 _ ∙ c.in_ok-term.ensures.took.1 _)

pub returns-clause-on : goal.returns-clause-on
returns-clause-on c = let h0 = c.in_ok-number.ensures.on in let h1 = c.in_ok-term.ensures.on in omega arith
