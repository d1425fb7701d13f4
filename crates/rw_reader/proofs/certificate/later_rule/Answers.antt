use Rattle.std.proofs.Common.{◌∙◌, arith}
use Rattle.std.proofs.lemmas.Result.{err_from_is_err_and}
use Rattle.rw_forms.specs.Certificates.{later_rules}
use Rattle.rw_forms.proofs.Parts.{carried}
use Rattle.rw_reader.proofs.certificate.later_rule.Goals as goal

pub returns-then-accept-clause-took : goal.returns-then-accept-clause-took
unfolding later_rules
returns-then-accept-clause-took c = (c.if-accept.ensures.chose.0, λ k. c.if-accept.ensures.chose.1 _ _)

pub returns-then-accept-clause-on : goal.returns-then-accept-clause-on
returns-then-accept-clause-on c = let h0 = c.if-accept.ensures.on in omega arith

pub returns-then-accept-2-clause-took : goal.returns-then-accept-2-clause-took
unfolding later_rules
returns-then-accept-2-clause-took c = (c.if-accept-2.ensures.chose.0, λ k. c.if-accept.ensures.chose.1 _ _ ∙ c.if-accept-2.ensures.chose.1 _ _)

pub returns-then-accept-2-clause-on : goal.returns-then-accept-2-clause-on
returns-then-accept-2-clause-on c = let h0 = c.if-accept.ensures.on in let h1 = c.if-accept-2.ensures.on in omega arith

pub returns-then-accept-3-clause-took : goal.returns-then-accept-3-clause-took
unfolding later_rules
returns-then-accept-3-clause-took c = (c.if-accept-3.ensures.chose.0, λ k. c.if-accept.ensures.chose.1 _ _ ∙ c.if-accept-2.ensures.chose.1 _ _ ∙ c.if-accept-3.ensures.chose.1 _ _)

pub returns-then-accept-3-clause-on : goal.returns-then-accept-3-clause-on
returns-then-accept-3-clause-on c = let h0 = c.if-accept.ensures.on in let h1 = c.if-accept-2.ensures.on in let h2 = c.if-accept-3.ensures.on in omega arith

pub returns-then-accept-4-clause-took : goal.returns-then-accept-4-clause-took
unfolding later_rules
returns-then-accept-4-clause-took c = (c.if-accept-4.ensures.chose.0, λ k. c.if-accept.ensures.chose.1 _ _ ∙ c.if-accept-2.ensures.chose.1 _ _ ∙ c.if-accept-3.ensures.chose.1 _ _ ∙ c.if-accept-4.ensures.chose.1 _ _)

pub returns-then-accept-4-clause-on : goal.returns-then-accept-4-clause-on
returns-then-accept-4-clause-on c = let h0 = c.if-accept.ensures.on in let h1 = c.if-accept-2.ensures.on in let h2 = c.if-accept-3.ensures.on in let h3 = c.if-accept-4.ensures.on in omega arith

pub returns-then-accept-5-clause-took : goal.returns-then-accept-5-clause-took
unfolding later_rules
returns-then-accept-5-clause-took c = (c.if-accept-5.ensures.chose.0, λ k. c.if-accept.ensures.chose.1 _ _ ∙ c.if-accept-2.ensures.chose.1 _ _ ∙ c.if-accept-3.ensures.chose.1 _ _ ∙ c.if-accept-4.ensures.chose.1 _ _ ∙ c.if-accept-5.ensures.chose.1 _ _)

pub returns-then-accept-5-clause-on : goal.returns-then-accept-5-clause-on
returns-then-accept-5-clause-on c = let h0 = c.if-accept.ensures.on in let h1 = c.if-accept-2.ensures.on in let h2 = c.if-accept-3.ensures.on in let h3 = c.if-accept-4.ensures.on in let h4 = c.if-accept-5.ensures.on in omega arith

pub returns-then-accept-6-clause-took : goal.returns-then-accept-6-clause-took
unfolding later_rules
returns-then-accept-6-clause-took c = (c.if-accept-6.ensures.chose.0, λ k. c.if-accept.ensures.chose.1 _ _ ∙ c.if-accept-2.ensures.chose.1 _ _ ∙ c.if-accept-3.ensures.chose.1 _ _ ∙ c.if-accept-4.ensures.chose.1 _ _ ∙ c.if-accept-5.ensures.chose.1 _ _ ∙ c.if-accept-6.ensures.chose.1 _ _)

pub returns-then-accept-6-clause-on : goal.returns-then-accept-6-clause-on
returns-then-accept-6-clause-on c = let h0 = c.if-accept.ensures.on in let h1 = c.if-accept-2.ensures.on in let h2 = c.if-accept-3.ensures.on in let h3 = c.if-accept-4.ensures.on in let h4 = c.if-accept-5.ensures.on in let h5 = c.if-accept-6.ensures.on in omega arith

pub returns-then-accept-7-clause-took : goal.returns-then-accept-7-clause-took
unfolding later_rules
returns-then-accept-7-clause-took c = (c.if-accept-7.ensures.chose.0, λ k. c.if-accept.ensures.chose.1 _ _ ∙ c.if-accept-2.ensures.chose.1 _ _ ∙ c.if-accept-3.ensures.chose.1 _ _ ∙ c.if-accept-4.ensures.chose.1 _ _ ∙ c.if-accept-5.ensures.chose.1 _ _ ∙ c.if-accept-6.ensures.chose.1 _ _ ∙ c.if-accept-7.ensures.chose.1 _ _)

pub returns-then-accept-7-clause-on : goal.returns-then-accept-7-clause-on
returns-then-accept-7-clause-on c = let h0 = c.if-accept.ensures.on in let h1 = c.if-accept-2.ensures.on in let h2 = c.if-accept-3.ensures.on in let h3 = c.if-accept-4.ensures.on in let h4 = c.if-accept-5.ensures.on in let h5 = c.if-accept-6.ensures.on in let h6 = c.if-accept-7.ensures.on in omega arith

pub returns-in_err-expect-clause-took : goal.returns-in_err-expect-clause-took
unfolding later_rules
returns-in_err-expect-clause-took c = let p = err_from_is_err_and c.from_residual.result c.from_residual.ensures.1 in rw (p.1, p.2) (λ k. carried c.args.line.now _ (c.if-accept.ensures.chose.1 _ _ ∙ c.if-accept-2.ensures.chose.1 _ _ ∙ c.if-accept-3.ensures.chose.1 _ _ ∙ c.if-accept-4.ensures.chose.1 _ _ ∙ c.if-accept-5.ensures.chose.1 _ _ ∙ c.if-accept-6.ensures.chose.1 _ _ ∙ c.if-accept-7.ensures.chose.1 _ _) (c.in_err-expect.ensures.took _))

pub returns-in_err-expect-clause-on : goal.returns-in_err-expect-clause-on
returns-in_err-expect-clause-on c = let h0 = c.if-accept.ensures.on in let h1 = c.if-accept-2.ensures.on in let h2 = c.if-accept-3.ensures.on in let h3 = c.if-accept-4.ensures.on in let h4 = c.if-accept-5.ensures.on in let h5 = c.if-accept-6.ensures.on in let h6 = c.if-accept-7.ensures.on in let h7 = c.in_err-expect.ensures.on in omega arith

pub returns-clause-took : goal.returns-clause-took
unfolding later_rules
returns-clause-took c = (c.in_ok-expect.ensures.took.0, λ k. c.if-accept.ensures.chose.1 _ _ ∙ c.if-accept-2.ensures.chose.1 _ _ ∙ c.if-accept-3.ensures.chose.1 _ _ ∙ c.if-accept-4.ensures.chose.1 _ _ ∙ c.if-accept-5.ensures.chose.1 _ _ ∙ c.if-accept-6.ensures.chose.1 _ _ ∙ c.if-accept-7.ensures.chose.1 _ _ ∙ c.in_ok-expect.ensures.took.1 _)

pub returns-clause-on : goal.returns-clause-on
returns-clause-on c = let h0 = c.if-accept.ensures.on in let h1 = c.if-accept-2.ensures.on in let h2 = c.if-accept-3.ensures.on in let h3 = c.if-accept-4.ensures.on in let h4 = c.if-accept-5.ensures.on in let h5 = c.if-accept-6.ensures.on in let h6 = c.if-accept-7.ensures.on in let h7 = c.in_ok-expect.ensures.on in omega arith
