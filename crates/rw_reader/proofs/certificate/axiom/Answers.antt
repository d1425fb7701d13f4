use Rattle.std.proofs.Common.{◌∙◌, arith, sym, ap}
use Rattle.std.proofs.lemmas.Result.{err_from_is_err_and}
use Rattle.rw_forms.specs.Certificates.{axioms}
use Rattle.rw_forms.proofs.Parts.{carried, passed_on, told_as}
use Rattle.rw_sequents.specs.declared.line.CertLine.TheVariants as lines
use Rattle.rw_reader.proofs.certificate.axiom.Goals as goal

pub returns-then-accept-clause-took : goal.returns-then-accept-clause-took
unfolding axioms
returns-then-accept-clause-took c = passed_on _ _ c.args.line.now _ _ _ c.put_same.result (λ k. c.if-accept.ensures.chose.1 _ _) c.put_same.ensures.took

pub returns-then-accept-clause-on : goal.returns-then-accept-clause-on
returns-then-accept-clause-on c = let h0 = c.if-accept.ensures.on in let h1 = c.put_same.ensures.on in omega arith

pub returns-then-accept-2-clause-took : goal.returns-then-accept-2-clause-took
unfolding axioms
returns-then-accept-2-clause-took c = passed_on _ _ c.args.line.now _ _ _ c.put_other.result (λ k. c.if-accept.ensures.chose.1 _ _ ∙ c.if-accept-2.ensures.chose.1 _ _) c.put_other.ensures.took

pub returns-then-accept-2-clause-on : goal.returns-then-accept-2-clause-on
returns-then-accept-2-clause-on c = let h0 = c.if-accept.ensures.on in let h1 = c.if-accept-2.ensures.on in let h2 = c.put_other.ensures.on in omega arith

pub returns-in_err-a-clause-took : goal.returns-in_err-a-clause-took
unfolding axioms
returns-in_err-a-clause-took c = let p = err_from_is_err_and c.from_residual.result c.from_residual.ensures.1 in rw (p.1, p.2) (λ k. carried c.args.line.now _ (c.if-accept.ensures.chose.1 _ _ ∙ c.if-accept-2.ensures.chose.1 _ _ ∙ c.if-accept-3.ensures.chose.1 _ _) (c.in_err-a.ensures.took _))

pub returns-in_err-a-clause-on : goal.returns-in_err-a-clause-on
returns-in_err-a-clause-on c = let h0 = c.if-accept.ensures.on in let h1 = c.if-accept-2.ensures.on in let h2 = c.if-accept-3.ensures.on in let h3 = c.in_err-a.ensures.on in omega arith

pub returns-then-accept-3-clause-took : goal.returns-then-accept-3-clause-took
unfolding axioms
returns-then-accept-3-clause-took c = (c.in_ok-a.ensures.took.0, λ k. told_as _ _ _ k _ _ (ap (λ z. lines.ArrExt z c.in_ok-a.b) (sym c.into_inner.ensures) ∙ ap (λ z. lines.ArrExt c.into_inner.result z) (sym c.into_inner-then-accept-3.ensures)) (c.if-accept.ensures.chose.1 _ _ ∙ c.if-accept-2.ensures.chose.1 _ _ ∙ c.if-accept-3.ensures.chose.1 _ _ ∙ c.in_ok-a.ensures.took.1 _))

pub returns-then-accept-3-clause-on : goal.returns-then-accept-3-clause-on
returns-then-accept-3-clause-on c = let h0 = c.if-accept.ensures.on in let h1 = c.if-accept-2.ensures.on in let h2 = c.if-accept-3.ensures.on in let h3 = c.in_ok-a.ensures.on in omega arith

pub returns-in_err-t-clause-took : goal.returns-in_err-t-clause-took
unfolding axioms
returns-in_err-t-clause-took c = let p = err_from_is_err_and c.from_residual-in_err-t.result c.from_residual-in_err-t.ensures.1 in rw (p.1, p.2) (λ k. carried c.args.line.now _ (c.if-accept.ensures.chose.1 _ _ ∙ c.if-accept-2.ensures.chose.1 _ _ ∙ c.if-accept-3.ensures.chose.1 _ _ ∙ c.if-accept-4.ensures.chose.1 _ _) (c.in_err-t.ensures.took _))

pub returns-in_err-t-clause-on : goal.returns-in_err-t-clause-on
returns-in_err-t-clause-on c = let h0 = c.if-accept.ensures.on in let h1 = c.if-accept-2.ensures.on in let h2 = c.if-accept-3.ensures.on in let h3 = c.if-accept-4.ensures.on in let h4 = c.in_err-t.ensures.on in omega arith

pub returns-then-accept-4-clause-took : goal.returns-then-accept-4-clause-took
unfolding axioms
returns-then-accept-4-clause-took c = (c.in_ok-t.ensures.took.0, λ k. told_as _ _ _ k _ _ (ap (λ z. lines.DivMod z c.in_ok-t.u) (sym c.into_inner-then-accept-4.ensures) ∙ ap (λ z. lines.DivMod c.into_inner-then-accept-4.result z) (sym c.into_inner-then-accept-4-2.ensures)) (c.if-accept.ensures.chose.1 _ _ ∙ c.if-accept-2.ensures.chose.1 _ _ ∙ c.if-accept-3.ensures.chose.1 _ _ ∙ c.if-accept-4.ensures.chose.1 _ _ ∙ c.in_ok-t.ensures.took.1 _))

pub returns-then-accept-4-clause-on : goal.returns-then-accept-4-clause-on
returns-then-accept-4-clause-on c = let h0 = c.if-accept.ensures.on in let h1 = c.if-accept-2.ensures.on in let h2 = c.if-accept-3.ensures.on in let h3 = c.if-accept-4.ensures.on in let h4 = c.in_ok-t.ensures.on in omega arith

pub returns-clause-took : goal.returns-clause-took
unfolding axioms
returns-clause-took c = passed_on _ _ c.args.line.now _ _ _ c.numbered.result (λ k. c.if-accept.ensures.chose.1 _ _ ∙ c.if-accept-2.ensures.chose.1 _ _ ∙ c.if-accept-3.ensures.chose.1 _ _ ∙ c.if-accept-4.ensures.chose.1 _ _) c.numbered.ensures.took

pub returns-clause-on : goal.returns-clause-on
returns-clause-on c = let h0 = c.if-accept.ensures.on in let h1 = c.if-accept-2.ensures.on in let h2 = c.if-accept-3.ensures.on in let h3 = c.if-accept-4.ensures.on in let h4 = c.numbered.ensures.on in omega arith
