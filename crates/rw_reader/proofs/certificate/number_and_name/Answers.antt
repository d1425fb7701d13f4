use Rattle.std.proofs.Common.{◌∙◌, arith}
use Rattle.std.proofs.lemmas.Result.{err_from_is_err_and}
use Rattle.rw_forms.specs.Certificates.{number_and_name}
use Rattle.rw_forms.proofs.Parts.{carried}
use Rattle.rw_reader.proofs.certificate.number_and_name.Goals as goal

pub returns-in_err-number-clause-took : goal.returns-in_err-number-clause-took
unfolding number_and_name
returns-in_err-number-clause-took c = let p = err_from_is_err_and c.from_residual.result c.from_residual.ensures.1 in rw (p.1, p.2) (λ k. c.in_err-number.ensures.took _)

pub returns-in_err-number-clause-on : goal.returns-in_err-number-clause-on
returns-in_err-number-clause-on c = let h0 = c.in_err-number.ensures.on in omega arith

pub returns-in_err-name-clause-took : goal.returns-in_err-name-clause-took
unfolding number_and_name
returns-in_err-name-clause-took c = let p = err_from_is_err_and c.from_residual-in_err-name.result c.from_residual-in_err-name.ensures.1 in rw (p.1, p.2) (λ k. carried c.args.line.now _ (c.in_ok-number.ensures.took.1 _) (c.in_err-name.ensures.took _))

pub returns-in_err-name-clause-on : goal.returns-in_err-name-clause-on
returns-in_err-name-clause-on c = let h0 = c.in_ok-number.ensures.on in let h1 = c.in_err-name.ensures.on in omega arith

pub returns-clause-took : goal.returns-clause-took
unfolding number_and_name
returns-clause-took c = (c.in_ok-name.ensures.took.0, λ k. c.in_ok-number.ensures.took.1 _ ∙ c.in_ok-name.ensures.took.1 _)

pub returns-clause-on : goal.returns-clause-on
returns-clause-on c = let h0 = c.in_ok-number.ensures.on in let h1 = c.in_ok-name.ensures.on in omega arith
