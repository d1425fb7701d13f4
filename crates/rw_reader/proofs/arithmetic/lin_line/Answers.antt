use Rattle.std.proofs.Common.{◌∙◌, arith}
use Rattle.std.proofs.lemmas.Result.{err_from_is_err_and}
use Rattle.rw_forms.specs.Certificates.{lin_line}
use Rattle.rw_forms.proofs.Parts.{carried, passed_on}
use Rattle.rw_reader.proofs.arithmetic.lin_line.Goals as goal

pub returns-in_err-number-clause-took : goal.returns-in_err-number-clause-took
unfolding lin_line
returns-in_err-number-clause-took c = let p = err_from_is_err_and c.from_residual.result c.from_residual.ensures.1 in rw (p.1, p.2) (λ k. carried c.args.line.now _ (c.if-accept.ensures.chose.1 _ _) (c.in_err-number.ensures.took _))

pub returns-in_err-number-clause-on : goal.returns-in_err-number-clause-on
returns-in_err-number-clause-on c = let h0 = c.if-accept.ensures.on in let h1 = c.in_err-number.ensures.on in omega arith

pub returns-then-accept-clause-took : goal.returns-then-accept-clause-took
unfolding lin_line
returns-then-accept-clause-took c = passed_on _ _ c.args.line.now _ _ _ c.sum.result (λ k. c.if-accept.ensures.chose.1 _ _ ∙ c.in_ok-number.ensures.took.1 _) c.sum.ensures.took

pub returns-then-accept-clause-on : goal.returns-then-accept-clause-on
returns-then-accept-clause-on c = let h0 = c.if-accept.ensures.on in let h1 = c.in_ok-number.ensures.on in let h2 = c.sum.ensures.on in omega arith

pub returns-in_err-number-2-clause-took : goal.returns-in_err-number-2-clause-took
unfolding lin_line
returns-in_err-number-2-clause-took c = let p = err_from_is_err_and c.from_residual-in_err-number-2.result c.from_residual-in_err-number-2.ensures.1 in rw (p.1, p.2) (λ k. carried c.args.line.now _ (c.if-accept.ensures.chose.1 _ _) (c.in_err-number-2.ensures.took _))

pub returns-in_err-number-2-clause-on : goal.returns-in_err-number-2-clause-on
returns-in_err-number-2-clause-on c = let h0 = c.if-accept.ensures.on in let h1 = c.in_err-number-2.ensures.on in omega arith

pub returns-clause-took : goal.returns-clause-took
unfolding lin_line
returns-clause-took c = passed_on _ _ c.args.line.now _ _ _ c.sum_or_quotient.result (λ k. c.if-accept.ensures.chose.1 _ _ ∙ c.in_ok-number-2.ensures.took.1 _) c.sum_or_quotient.ensures.took

pub returns-clause-on : goal.returns-clause-on
returns-clause-on c = let h0 = c.if-accept.ensures.on in let h1 = c.in_ok-number-2.ensures.on in let h2 = c.sum_or_quotient.ensures.on in omega arith
