use Rattle.std.proofs.Common.{◌∙◌, arith, sym, drop}
use Rattle.std.proofs.lemmas.Result.{err_from_is_err_and}
use Rattle.rw_forms.proofs.Parts.{carried, passed_on, told_as}
use Rattle.rw_reader.proofs.Choosing.{great_sum, small_sum}
use Rattle.rw_reader.proofs.arithmetic.sum_or_quotient.Goals as goal

pub returns-then-number-gt4294967295-clause-took : goal.returns-then-number-gt4294967295-clause-took
returns-then-number-gt4294967295-clause-took c = passed_on _ _ c.args.line.now _ _ _ c.sum.result (λ k. great_sum c.args.number k (drop c.args.at.now c.args.line.now) c.if-number-gt4294967295.true) c.sum.ensures.took

pub returns-then-number-gt4294967295-clause-on : goal.returns-then-number-gt4294967295-clause-on
returns-then-number-gt4294967295-clause-on c = let h0 = c.sum.ensures.on in omega arith

pub returns-in_err-by-clause-took : goal.returns-in_err-by-clause-took
returns-in_err-by-clause-took c = let p = err_from_is_err_and c.from_residual.result c.from_residual.ensures.1 in rw (p.1, p.2) (λ k. carried c.args.line.now _ (small_sum c.args.number k (drop c.args.at.now c.args.line.now) c.if-number-gt4294967295.false ∙ c.if-accept.ensures.chose.1 _ _) (c.in_err-by.ensures.took _))

pub returns-then-accept-clause-took : goal.returns-then-accept-clause-took
returns-then-accept-clause-took c = (c.in_ok-by.ensures.took.0, λ k. told_as _ _ _ k _ _ (sym c.quotient.ensures) (small_sum c.args.number k (drop c.args.at.now c.args.line.now) c.if-number-gt4294967295.false ∙ c.if-accept.ensures.chose.1 _ _ ∙ c.in_ok-by.ensures.took.1 _))

pub returns-clause-took : goal.returns-clause-took
returns-clause-took c = passed_on _ _ c.args.line.now _ _ _ c.sum-2.result (λ k. small_sum c.args.number k (drop c.args.at.now c.args.line.now) c.if-number-gt4294967295.false ∙ c.if-accept.ensures.chose.1 _ _) c.sum-2.ensures.took
