use Rattle.std.proofs.Common.{◌∙◌, arith, sym, ap}
use Rattle.std.proofs.lemmas.Result.{err_from_is_err_and}
use Rattle.rw_forms.specs.Certificates.{put_same}
use Rattle.rw_forms.proofs.Parts.{carried, told_as}
use Rattle.rw_sequents.specs.declared.line.CertLine.TheVariants as lines
use Rattle.rw_reader.proofs.certificate.put_same.Goals as goal

pub returns-in_err-array-clause-took : goal.returns-in_err-array-clause-took
unfolding put_same
returns-in_err-array-clause-took c = let p = err_from_is_err_and c.from_residual.result c.from_residual.ensures.1 in rw (p.1, p.2) (λ k. c.in_err-array.ensures.took _)

pub returns-in_err-array-clause-on : goal.returns-in_err-array-clause-on
returns-in_err-array-clause-on c = let h0 = c.in_err-array.ensures.on in omega arith

pub returns-in_err-expect-clause-took : goal.returns-in_err-expect-clause-took
unfolding put_same
returns-in_err-expect-clause-took c = let p = err_from_is_err_and c.from_residual-in_err-expect.result c.from_residual-in_err-expect.ensures.1 in rw (p.1, p.2) (λ k. carried c.args.line.now _ (c.in_ok-array.ensures.took.1 _) (c.in_err-expect.ensures.took _))

pub returns-in_err-expect-clause-on : goal.returns-in_err-expect-clause-on
returns-in_err-expect-clause-on c = let h0 = c.in_ok-array.ensures.on in let h1 = c.in_err-expect.ensures.on in omega arith

pub returns-in_err-value-clause-took : goal.returns-in_err-value-clause-took
unfolding put_same
returns-in_err-value-clause-took c = let p = err_from_is_err_and c.from_residual-in_err-value.result c.from_residual-in_err-value.ensures.1 in rw (p.1, p.2) (λ k. carried c.args.line.now _ (c.in_ok-array.ensures.took.1 _ ∙ c.in_ok-expect.ensures.took.1 _) (c.in_err-value.ensures.took _))

pub returns-in_err-value-clause-on : goal.returns-in_err-value-clause-on
returns-in_err-value-clause-on c = let h0 = c.in_ok-array.ensures.on in let h1 = c.in_ok-expect.ensures.on in let h2 = c.in_err-value.ensures.on in omega arith

pub returns-clause-took : goal.returns-clause-took
unfolding put_same
returns-clause-took c = (c.in_ok-value.ensures.took.0, λ k. told_as _ _ _ k _ _ (ap (λ z. lines.PutSame z c.in_ok-array.index c.in_ok-value.value) (sym c.into_inner.ensures) ∙ ap (λ z. lines.PutSame c.into_inner.result z c.in_ok-value.value) (sym c.into_inner-2.ensures) ∙ ap (λ z. lines.PutSame c.into_inner.result c.into_inner-2.result z) (sym c.into_inner-3.ensures)) (c.in_ok-array.ensures.took.1 _ ∙ c.in_ok-expect.ensures.took.1 _ ∙ c.in_ok-value.ensures.took.1 _))

pub returns-clause-on : goal.returns-clause-on
returns-clause-on c = let h0 = c.in_ok-array.ensures.on in let h1 = c.in_ok-expect.ensures.on in let h2 = c.in_ok-value.ensures.on in omega arith
