use Rattle.std.proofs.Common.{◌∙◌, arith}
use Rattle.std.proofs.lemmas.Result.{err_from_is_err_and}
use Rattle.rw_forms.specs.Phrases.{sort}
use Rattle.rw_forms.proofs.Parts.{carried}
use Rattle.rw_forms.proofs.taking.sort.Goals as goal

pub returns-then-accept-clause-took : goal.returns-then-accept-clause-took
unfolding sort
returns-then-accept-clause-took c = (c.if-accept.ensures.chose.0, λ k. c.if-accept.ensures.chose.1 _ _)

pub returns-then-accept-clause-on : goal.returns-then-accept-clause-on
returns-then-accept-clause-on c = let h0 = c.if-accept.ensures.on in omega arith

pub returns-in_err-expect-clause-took : goal.returns-in_err-expect-clause-took
unfolding sort
returns-in_err-expect-clause-took c = let p = err_from_is_err_and c.from_residual.result c.from_residual.ensures.1 in rw (p.1, p.2) (λ k. carried c.args.line.now _ (c.if-accept.ensures.chose.1 _ _) (c.in_err-expect.ensures.took _))

pub returns-in_err-expect-clause-on : goal.returns-in_err-expect-clause-on
returns-in_err-expect-clause-on c = let h0 = c.if-accept.ensures.on in let h1 = c.in_err-expect.ensures.on in omega arith

pub returns-in_err-length-clause-took : goal.returns-in_err-length-clause-took
unfolding sort
returns-in_err-length-clause-took c = let p = err_from_is_err_and c.from_residual-in_err-length.result c.from_residual-in_err-length.ensures.1 in rw (p.1, p.2) (λ k. carried c.args.line.now _ (c.if-accept.ensures.chose.1 _ _ ∙ c.in_ok-expect.ensures.took.1 _) (c.in_err-length.ensures.took _))

pub returns-in_err-length-clause-on : goal.returns-in_err-length-clause-on
returns-in_err-length-clause-on c = let h0 = c.if-accept.ensures.on in let h1 = c.in_ok-expect.ensures.on in let h2 = c.in_err-length.ensures.on in omega arith

pub returns-clause-took : goal.returns-clause-took
unfolding sort
returns-clause-took c = (c.in_ok-length.ensures.took.0, λ k. c.if-accept.ensures.chose.1 _ _ ∙ c.in_ok-expect.ensures.took.1 _ ∙ c.in_ok-length.ensures.took.1 _)

pub returns-clause-on : goal.returns-clause-on
returns-clause-on c = let h0 = c.if-accept.ensures.on in let h1 = c.in_ok-expect.ensures.on in let h2 = c.in_ok-length.ensures.on in omega arith
