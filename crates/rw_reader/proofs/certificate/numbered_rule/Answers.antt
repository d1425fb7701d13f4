use Rattle.std.proofs.Common.{◌∙◌, arith}
use Rattle.rw_forms.specs.Certificates.{numbered_rules}
use Rattle.rw_forms.proofs.Parts.{passed_on}
use Rattle.rw_reader.proofs.certificate.numbered_rule.Goals as goal

pub returns-then-accept-clause-took : goal.returns-then-accept-clause-took
unfolding numbered_rules
returns-then-accept-clause-took c = (c.if-accept.ensures.chose.0, λ k. c.if-accept.ensures.chose.1 _ _)

pub returns-then-accept-clause-on : goal.returns-then-accept-clause-on
returns-then-accept-clause-on c = let h0 = c.if-accept.ensures.on in omega arith

pub returns-then-accept-2-clause-took : goal.returns-then-accept-2-clause-took
unfolding numbered_rules
returns-then-accept-2-clause-took c = (c.if-accept-2.ensures.chose.0, λ k. c.if-accept.ensures.chose.1 _ _ ∙ c.if-accept-2.ensures.chose.1 _ _)

pub returns-then-accept-2-clause-on : goal.returns-then-accept-2-clause-on
returns-then-accept-2-clause-on c = let h0 = c.if-accept.ensures.on in let h1 = c.if-accept-2.ensures.on in omega arith

pub returns-then-accept-3-clause-took : goal.returns-then-accept-3-clause-took
unfolding numbered_rules
returns-then-accept-3-clause-took c = (c.if-accept-3.ensures.chose.0, λ k. c.if-accept.ensures.chose.1 _ _ ∙ c.if-accept-2.ensures.chose.1 _ _ ∙ c.if-accept-3.ensures.chose.1 _ _)

pub returns-then-accept-3-clause-on : goal.returns-then-accept-3-clause-on
returns-then-accept-3-clause-on c = let h0 = c.if-accept.ensures.on in let h1 = c.if-accept-2.ensures.on in let h2 = c.if-accept-3.ensures.on in omega arith

pub returns-then-accept-4-clause-took : goal.returns-then-accept-4-clause-took
unfolding numbered_rules
returns-then-accept-4-clause-took c = (c.if-accept-4.ensures.chose.0, λ k. c.if-accept.ensures.chose.1 _ _ ∙ c.if-accept-2.ensures.chose.1 _ _ ∙ c.if-accept-3.ensures.chose.1 _ _ ∙ c.if-accept-4.ensures.chose.1 _ _)

pub returns-then-accept-4-clause-on : goal.returns-then-accept-4-clause-on
returns-then-accept-4-clause-on c = let h0 = c.if-accept.ensures.on in let h1 = c.if-accept-2.ensures.on in let h2 = c.if-accept-3.ensures.on in let h3 = c.if-accept-4.ensures.on in omega arith

pub returns-then-accept-5-clause-took : goal.returns-then-accept-5-clause-took
unfolding numbered_rules
returns-then-accept-5-clause-took c = (c.if-accept-5.ensures.chose.0, λ k. c.if-accept.ensures.chose.1 _ _ ∙ c.if-accept-2.ensures.chose.1 _ _ ∙ c.if-accept-3.ensures.chose.1 _ _ ∙ c.if-accept-4.ensures.chose.1 _ _ ∙ c.if-accept-5.ensures.chose.1 _ _)

pub returns-then-accept-5-clause-on : goal.returns-then-accept-5-clause-on
returns-then-accept-5-clause-on c = let h0 = c.if-accept.ensures.on in let h1 = c.if-accept-2.ensures.on in let h2 = c.if-accept-3.ensures.on in let h3 = c.if-accept-4.ensures.on in let h4 = c.if-accept-5.ensures.on in omega arith

pub returns-then-accept-6-clause-took : goal.returns-then-accept-6-clause-took
unfolding numbered_rules
returns-then-accept-6-clause-took c = (c.if-accept-6.ensures.chose.0, λ k. c.if-accept.ensures.chose.1 _ _ ∙ c.if-accept-2.ensures.chose.1 _ _ ∙ c.if-accept-3.ensures.chose.1 _ _ ∙ c.if-accept-4.ensures.chose.1 _ _ ∙ c.if-accept-5.ensures.chose.1 _ _ ∙ c.if-accept-6.ensures.chose.1 _ _)

pub returns-then-accept-6-clause-on : goal.returns-then-accept-6-clause-on
returns-then-accept-6-clause-on c = let h0 = c.if-accept.ensures.on in let h1 = c.if-accept-2.ensures.on in let h2 = c.if-accept-3.ensures.on in let h3 = c.if-accept-4.ensures.on in let h4 = c.if-accept-5.ensures.on in let h5 = c.if-accept-6.ensures.on in omega arith

pub returns-clause-took : goal.returns-clause-took
unfolding numbered_rules
returns-clause-took c = passed_on _ _ c.args.line.now _ _ _ c.later_rule.result (λ k. c.if-accept.ensures.chose.1 _ _ ∙ c.if-accept-2.ensures.chose.1 _ _ ∙ c.if-accept-3.ensures.chose.1 _ _ ∙ c.if-accept-4.ensures.chose.1 _ _ ∙ c.if-accept-5.ensures.chose.1 _ _ ∙ c.if-accept-6.ensures.chose.1 _ _) c.later_rule.ensures.took

pub returns-clause-on : goal.returns-clause-on
returns-clause-on c = let h0 = c.if-accept.ensures.on in let h1 = c.if-accept-2.ensures.on in let h2 = c.if-accept-3.ensures.on in let h3 = c.if-accept-4.ensures.on in let h4 = c.if-accept-5.ensures.on in let h5 = c.if-accept-6.ensures.on in let h6 = c.later_rule.ensures.on in omega arith
