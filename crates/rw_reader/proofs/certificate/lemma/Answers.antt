use Rattle.std.proofs.Common.{◌∙◌, arith}
use Rattle.std.proofs.lemmas.Result.{err_from_is_err_and}
use Rattle.rw_forms.specs.Certificates.{lemma}
use Rattle.rw_forms.proofs.Parts.{carried}
use Rattle.rw_reader.proofs.certificate.lemma.Goals as goal

pub returns-in_err-name-clause-took : goal.returns-in_err-name-clause-took
unfolding lemma
returns-in_err-name-clause-took c = let p = err_from_is_err_and c.from_residual.result c.from_residual.ensures.1 in rw (p.1, p.2) (λ k. c.in_err-name.ensures.took _)

pub returns-in_err-name-clause-on : goal.returns-in_err-name-clause-on
returns-in_err-name-clause-on c = let h0 = c.in_err-name.ensures.on in omega arith

pub returns-in_err-expect-clause-took : goal.returns-in_err-expect-clause-took
unfolding lemma
returns-in_err-expect-clause-took c = let p = err_from_is_err_and c.from_residual-in_err-expect.result c.from_residual-in_err-expect.ensures.1 in rw (p.1, p.2) (λ k. carried c.args.line.now _ (c.in_ok-name.ensures.took.1 _) (c.in_err-expect.ensures.took _))

pub returns-in_err-expect-clause-on : goal.returns-in_err-expect-clause-on
returns-in_err-expect-clause-on c = let h0 = c.in_ok-name.ensures.on in let h1 = c.in_err-expect.ensures.on in omega arith

pub returns-in_err-terms-clause-took : goal.returns-in_err-terms-clause-took
unfolding lemma
returns-in_err-terms-clause-took c = let p = err_from_is_err_and c.from_residual-in_err-terms.result c.from_residual-in_err-terms.ensures.1 in rw (p.1, p.2) (λ k. carried c.args.line.now _ (c.in_ok-name.ensures.took.1 _ ∙ c.in_ok-expect.ensures.took.1 _) (c.in_err-terms.ensures.took _))

pub returns-in_err-terms-clause-on : goal.returns-in_err-terms-clause-on
returns-in_err-terms-clause-on c = let h0 = c.in_ok-name.ensures.on in let h1 = c.in_ok-expect.ensures.on in let h2 = c.in_err-terms.ensures.on in omega arith

pub returns-clause-took : goal.returns-clause-took
unfolding lemma
returns-clause-took c = (c.in_ok-terms.ensures.took.0, λ k. c.in_ok-name.ensures.took.1 _ ∙ c.in_ok-expect.ensures.took.1 _ ∙ c.in_ok-terms.ensures.took.1 _)

pub returns-clause-on : goal.returns-clause-on
returns-clause-on c = let h0 = c.in_ok-name.ensures.on in let h1 = c.in_ok-expect.ensures.on in let h2 = c.in_ok-terms.ensures.on in omega arith
