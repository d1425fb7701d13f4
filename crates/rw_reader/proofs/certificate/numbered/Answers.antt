use Rattle.std.proofs.Common.{◌∙◌, arith, sym}
use Rattle.std.proofs.lemmas.Result.{err_from_is_err_and}
use Rattle.rw_forms.specs.Certificates.{numbered}
use Rattle.rw_forms.proofs.Parts.{carried, told_as}
use Rattle.rw_reader.proofs.certificate.numbered.Goals as goal

pub returns-in_err-rule-clause-took : goal.returns-in_err-rule-clause-took
unfolding numbered
returns-in_err-rule-clause-took c = let p = err_from_is_err_and c.from_residual.result c.from_residual.ensures.1 in rw (p.1, p.2) (λ k. c.in_err-rule.ensures.took _)

pub returns-in_err-rule-clause-on : goal.returns-in_err-rule-clause-on
returns-in_err-rule-clause-on c = let h0 = c.in_err-rule.ensures.on in omega arith

pub returns-in_err-number-clause-took : goal.returns-in_err-number-clause-took
unfolding numbered
returns-in_err-number-clause-took c = let p = err_from_is_err_and c.from_residual-in_err-number.result c.from_residual-in_err-number.ensures.1 in rw (p.1, p.2) (λ k. carried c.args.line.now _ (c.in_ok-rule.ensures.took.1 _) (c.in_err-number.ensures.took _))

pub returns-in_err-number-clause-on : goal.returns-in_err-number-clause-on
returns-in_err-number-clause-on c = let h0 = c.in_ok-rule.ensures.on in let h1 = c.in_err-number.ensures.on in omega arith

pub returns-clause-took : goal.returns-clause-took
unfolding numbered
returns-clause-took c = (c.in_ok-number.ensures.took.0, λ k. told_as _ _ _ k _ _ (sym c.with_number.ensures) (c.in_ok-rule.ensures.took.1 _ ∙ c.in_ok-number.ensures.took.1 _))

pub returns-clause-on : goal.returns-clause-on
returns-clause-on c = let h0 = c.in_ok-rule.ensures.on in let h1 = c.in_ok-number.ensures.on in omega arith
