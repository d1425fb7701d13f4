use Rattle.std.proofs.Common.{◌∙◌, arith, sym, ap}
use Rattle.std.proofs.lemmas.Result.{err_from_is_err_and}
use Rattle.rw_forms.specs.Phrases.{closed_terms}
use Rattle.rw_forms.proofs.Parts.{carried}
use Rattle.std.proofs.Common.{drop}
use Rattle.rw_forms.specs.Reading.{read_form}
use Rattle.rw_forms.proofs.value.closed_terms.Goals as goal

pub returns-then-accept-clause-took : goal.returns-then-accept-clause-took
unfolding closed_terms
returns-then-accept-clause-took c = (c.if-accept.ensures.chose.0, λ k. c.if-accept.ensures.chose.1 _ _ ∙ ap (λ l. read_form (k l) (drop c.accept.new.at c.args.line.now)) (sym c.new.ensures))

pub returns-then-accept-clause-on : goal.returns-then-accept-clause-on
returns-then-accept-clause-on c = let h0 = c.if-accept.ensures.on in omega arith

pub returns-in_err-terms-clause-took : goal.returns-in_err-terms-clause-took
unfolding closed_terms
returns-in_err-terms-clause-took c = let p = err_from_is_err_and c.from_residual.result c.from_residual.ensures.1 in rw (p.1, p.2) (λ k. carried c.args.line.now _ (c.if-accept.ensures.chose.1 _ _) (c.in_err-terms.ensures.took _))

pub returns-in_err-terms-clause-on : goal.returns-in_err-terms-clause-on
returns-in_err-terms-clause-on c = let h0 = c.if-accept.ensures.on in let h1 = c.in_err-terms.ensures.on in omega arith

pub returns-in_err-expect-clause-took : goal.returns-in_err-expect-clause-took
unfolding closed_terms
returns-in_err-expect-clause-took c = let p = err_from_is_err_and c.from_residual-in_err-expect.result c.from_residual-in_err-expect.ensures.1 in rw (p.1, p.2) (λ k. carried c.args.line.now _ (c.if-accept.ensures.chose.1 _ _ ∙ c.in_ok-terms.ensures.took.1 _) (c.in_err-expect.ensures.took _))

pub returns-in_err-expect-clause-on : goal.returns-in_err-expect-clause-on
returns-in_err-expect-clause-on c = let h0 = c.if-accept.ensures.on in let h1 = c.in_ok-terms.ensures.on in let h2 = c.in_err-expect.ensures.on in omega arith

pub returns-clause-took : goal.returns-clause-took
unfolding closed_terms
returns-clause-took c = (c.in_ok-expect.ensures.took.0, λ k. c.if-accept.ensures.chose.1 _ _ ∙ c.in_ok-terms.ensures.took.1 _ ∙ c.in_ok-expect.ensures.took.1 _)

pub returns-clause-on : goal.returns-clause-on
returns-clause-on c = let h0 = c.if-accept.ensures.on in let h1 = c.in_ok-terms.ensures.on in let h2 = c.in_ok-expect.ensures.on in omega arith
