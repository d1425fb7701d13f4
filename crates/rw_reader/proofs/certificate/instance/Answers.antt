use Rattle.std.proofs.Common.{◌∙◌, arith, sym, ap}
use Rattle.std.proofs.lemmas.Result.{err_from_is_err_and}
use Rattle.rw_forms.specs.Certificates.{instances}
use Rattle.rw_forms.proofs.Parts.{carried, passed_on, told_as}
use Rattle.rw_sequents.specs.declared.line.CertLine.TheVariants as lines
use Rattle.rw_reader.proofs.certificate.instance.Goals as goal

pub returns-in_err-number-clause-took : goal.returns-in_err-number-clause-took
unfolding instances
returns-in_err-number-clause-took c = let p = err_from_is_err_and c.from_residual.result c.from_residual.ensures.1 in rw (p.1, p.2) (λ k. carried c.args.line.now _ (c.if-accept.ensures.chose.1 _ _) (c.in_err-number.ensures.took _))

pub returns-in_err-number-clause-on : goal.returns-in_err-number-clause-on
returns-in_err-number-clause-on c = let h0 = c.if-accept.ensures.on in let h1 = c.in_err-number.ensures.on in omega arith

pub returns-then-accept-clause-took : goal.returns-then-accept-clause-took
unfolding instances
returns-then-accept-clause-took c = (c.in_ok-number.ensures.took.0, λ k. told_as _ _ _ k _ _ (ap (λ z. lines.AllL c.in_ok-number.number z) (sym c.into_inner.ensures)) (c.if-accept.ensures.chose.1 _ _ ∙ c.in_ok-number.ensures.took.1 _))

pub returns-then-accept-clause-on : goal.returns-then-accept-clause-on
returns-then-accept-clause-on c = let h0 = c.if-accept.ensures.on in let h1 = c.in_ok-number.ensures.on in omega arith

pub returns-in_err-number-2-clause-took : goal.returns-in_err-number-2-clause-took
unfolding instances
returns-in_err-number-2-clause-took c = let p = err_from_is_err_and c.from_residual-in_err-number-2.result c.from_residual-in_err-number-2.ensures.1 in rw (p.1, p.2) (λ k. carried c.args.line.now _ (c.if-accept.ensures.chose.1 _ _ ∙ c.if-accept-2.ensures.chose.1 _ _) (c.in_err-number-2.ensures.took _))

pub returns-in_err-number-2-clause-on : goal.returns-in_err-number-2-clause-on
returns-in_err-number-2-clause-on c = let h0 = c.if-accept.ensures.on in let h1 = c.if-accept-2.ensures.on in let h2 = c.in_err-number-2.ensures.on in omega arith

pub returns-then-accept-2-clause-took : goal.returns-then-accept-2-clause-took
unfolding instances
returns-then-accept-2-clause-took c = (c.in_ok-number-2.ensures.took.0, λ k. told_as _ _ _ k _ _ (ap (λ z. lines.ExR c.in_ok-number-2.number z) (sym c.into_inner-then-accept-2.ensures)) (c.if-accept.ensures.chose.1 _ _ ∙ c.if-accept-2.ensures.chose.1 _ _ ∙ c.in_ok-number-2.ensures.took.1 _))

pub returns-then-accept-2-clause-on : goal.returns-then-accept-2-clause-on
returns-then-accept-2-clause-on c = let h0 = c.if-accept.ensures.on in let h1 = c.if-accept-2.ensures.on in let h2 = c.in_ok-number-2.ensures.on in omega arith

pub returns-in_err-number-3-clause-took : goal.returns-in_err-number-3-clause-took
unfolding instances
returns-in_err-number-3-clause-took c = let p = err_from_is_err_and c.from_residual-in_err-number-3.result c.from_residual-in_err-number-3.ensures.1 in rw (p.1, p.2) (λ k. carried c.args.line.now _ (c.if-accept.ensures.chose.1 _ _ ∙ c.if-accept-2.ensures.chose.1 _ _ ∙ c.if-accept-3.ensures.chose.1 _ _) (c.in_err-number-3.ensures.took _))

pub returns-in_err-number-3-clause-on : goal.returns-in_err-number-3-clause-on
returns-in_err-number-3-clause-on c = let h0 = c.if-accept.ensures.on in let h1 = c.if-accept-2.ensures.on in let h2 = c.if-accept-3.ensures.on in let h3 = c.in_err-number-3.ensures.on in omega arith

pub returns-then-accept-3-clause-took : goal.returns-then-accept-3-clause-took
unfolding instances
returns-then-accept-3-clause-took c = (c.in_ok-number-3.ensures.took.0, λ k. c.if-accept.ensures.chose.1 _ _ ∙ c.if-accept-2.ensures.chose.1 _ _ ∙ c.if-accept-3.ensures.chose.1 _ _ ∙ c.in_ok-number-3.ensures.took.1 _)

pub returns-then-accept-3-clause-on : goal.returns-then-accept-3-clause-on
returns-then-accept-3-clause-on c = let h0 = c.if-accept.ensures.on in let h1 = c.if-accept-2.ensures.on in let h2 = c.if-accept-3.ensures.on in let h3 = c.in_ok-number-3.ensures.on in omega arith

pub returns-in_err-number-4-clause-took : goal.returns-in_err-number-4-clause-took
unfolding instances
returns-in_err-number-4-clause-took c = let p = err_from_is_err_and c.from_residual-in_err-number-4.result c.from_residual-in_err-number-4.ensures.1 in rw (p.1, p.2) (λ k. carried c.args.line.now _ (c.if-accept.ensures.chose.1 _ _ ∙ c.if-accept-2.ensures.chose.1 _ _ ∙ c.if-accept-3.ensures.chose.1 _ _ ∙ c.if-accept-4.ensures.chose.1 _ _) (c.in_err-number-4.ensures.took _))

pub returns-in_err-number-4-clause-on : goal.returns-in_err-number-4-clause-on
returns-in_err-number-4-clause-on c = let h0 = c.if-accept.ensures.on in let h1 = c.if-accept-2.ensures.on in let h2 = c.if-accept-3.ensures.on in let h3 = c.if-accept-4.ensures.on in let h4 = c.in_err-number-4.ensures.on in omega arith

pub returns-then-accept-4-clause-took : goal.returns-then-accept-4-clause-took
unfolding instances
returns-then-accept-4-clause-took c = (c.in_ok-number-4.ensures.took.0, λ k. c.if-accept.ensures.chose.1 _ _ ∙ c.if-accept-2.ensures.chose.1 _ _ ∙ c.if-accept-3.ensures.chose.1 _ _ ∙ c.if-accept-4.ensures.chose.1 _ _ ∙ c.in_ok-number-4.ensures.took.1 _)

pub returns-then-accept-4-clause-on : goal.returns-then-accept-4-clause-on
returns-then-accept-4-clause-on c = let h0 = c.if-accept.ensures.on in let h1 = c.if-accept-2.ensures.on in let h2 = c.if-accept-3.ensures.on in let h3 = c.if-accept-4.ensures.on in let h4 = c.in_ok-number-4.ensures.on in omega arith

pub returns-in_err-by-clause-took : goal.returns-in_err-by-clause-took
unfolding instances
returns-in_err-by-clause-took c = let p = err_from_is_err_and c.from_residual-in_err-by.result c.from_residual-in_err-by.ensures.1 in rw (p.1, p.2) (λ k. carried c.args.line.now _ (c.if-accept.ensures.chose.1 _ _ ∙ c.if-accept-2.ensures.chose.1 _ _ ∙ c.if-accept-3.ensures.chose.1 _ _ ∙ c.if-accept-4.ensures.chose.1 _ _ ∙ c.if-accept-5.ensures.chose.1 _ _) (c.in_err-by.ensures.took _))

pub returns-in_err-by-clause-on : goal.returns-in_err-by-clause-on
returns-in_err-by-clause-on c = let h0 = c.if-accept.ensures.on in let h1 = c.if-accept-2.ensures.on in let h2 = c.if-accept-3.ensures.on in let h3 = c.if-accept-4.ensures.on in let h4 = c.if-accept-5.ensures.on in let h5 = c.in_err-by.ensures.on in omega arith

pub returns-then-accept-5-clause-took : goal.returns-then-accept-5-clause-took
unfolding instances
returns-then-accept-5-clause-took c = (c.in_ok-by.ensures.took.0, λ k. c.if-accept.ensures.chose.1 _ _ ∙ c.if-accept-2.ensures.chose.1 _ _ ∙ c.if-accept-3.ensures.chose.1 _ _ ∙ c.if-accept-4.ensures.chose.1 _ _ ∙ c.if-accept-5.ensures.chose.1 _ _ ∙ c.in_ok-by.ensures.took.1 _)

pub returns-then-accept-5-clause-on : goal.returns-then-accept-5-clause-on
returns-then-accept-5-clause-on c = let h0 = c.if-accept.ensures.on in let h1 = c.if-accept-2.ensures.on in let h2 = c.if-accept-3.ensures.on in let h3 = c.if-accept-4.ensures.on in let h4 = c.if-accept-5.ensures.on in let h5 = c.in_ok-by.ensures.on in omega arith

pub returns-in_err-by-2-clause-took : goal.returns-in_err-by-2-clause-took
unfolding instances
returns-in_err-by-2-clause-took c = let p = err_from_is_err_and c.from_residual-in_err-by-2.result c.from_residual-in_err-by-2.ensures.1 in rw (p.1, p.2) (λ k. carried c.args.line.now _ (c.if-accept.ensures.chose.1 _ _ ∙ c.if-accept-2.ensures.chose.1 _ _ ∙ c.if-accept-3.ensures.chose.1 _ _ ∙ c.if-accept-4.ensures.chose.1 _ _ ∙ c.if-accept-5.ensures.chose.1 _ _ ∙ c.if-accept-6.ensures.chose.1 _ _) (c.in_err-by-2.ensures.took _))

pub returns-in_err-by-2-clause-on : goal.returns-in_err-by-2-clause-on
returns-in_err-by-2-clause-on c = let h0 = c.if-accept.ensures.on in let h1 = c.if-accept-2.ensures.on in let h2 = c.if-accept-3.ensures.on in let h3 = c.if-accept-4.ensures.on in let h4 = c.if-accept-5.ensures.on in let h5 = c.if-accept-6.ensures.on in let h6 = c.in_err-by-2.ensures.on in omega arith

pub returns-then-accept-6-clause-took : goal.returns-then-accept-6-clause-took
unfolding instances
returns-then-accept-6-clause-took c = (c.in_ok-by-2.ensures.took.0, λ k. c.if-accept.ensures.chose.1 _ _ ∙ c.if-accept-2.ensures.chose.1 _ _ ∙ c.if-accept-3.ensures.chose.1 _ _ ∙ c.if-accept-4.ensures.chose.1 _ _ ∙ c.if-accept-5.ensures.chose.1 _ _ ∙ c.if-accept-6.ensures.chose.1 _ _ ∙ c.in_ok-by-2.ensures.took.1 _)

pub returns-then-accept-6-clause-on : goal.returns-then-accept-6-clause-on
returns-then-accept-6-clause-on c = let h0 = c.if-accept.ensures.on in let h1 = c.if-accept-2.ensures.on in let h2 = c.if-accept-3.ensures.on in let h3 = c.if-accept-4.ensures.on in let h4 = c.if-accept-5.ensures.on in let h5 = c.if-accept-6.ensures.on in let h6 = c.in_ok-by-2.ensures.on in omega arith

pub returns-clause-took : goal.returns-clause-took
unfolding instances
returns-clause-took c = passed_on _ _ c.args.line.now _ _ _ c.axiom.result (λ k. c.if-accept.ensures.chose.1 _ _ ∙ c.if-accept-2.ensures.chose.1 _ _ ∙ c.if-accept-3.ensures.chose.1 _ _ ∙ c.if-accept-4.ensures.chose.1 _ _ ∙ c.if-accept-5.ensures.chose.1 _ _ ∙ c.if-accept-6.ensures.chose.1 _ _) c.axiom.ensures.took

pub returns-clause-on : goal.returns-clause-on
returns-clause-on c = let h0 = c.if-accept.ensures.on in let h1 = c.if-accept-2.ensures.on in let h2 = c.if-accept-3.ensures.on in let h3 = c.if-accept-4.ensures.on in let h4 = c.if-accept-5.ensures.on in let h5 = c.if-accept-6.ensures.on in let h6 = c.axiom.ensures.on in omega arith
