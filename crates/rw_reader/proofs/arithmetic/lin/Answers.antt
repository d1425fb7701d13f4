use Rattle.std.proofs.Common.{arith}
use Rattle.std.proofs.lemmas.Result.{err_from_is_err_and}
use Rattle.rw_forms.specs.Certificates.{lin}
use Rattle.rw_forms.proofs.Parts.{passed_on}
use Rattle.rw_reader.proofs.arithmetic.lin.Goals as goal

pub returns-in_err-expect-clause-took : goal.returns-in_err-expect-clause-took
unfolding lin
returns-in_err-expect-clause-took c = let p = err_from_is_err_and c.from_residual.result c.from_residual.ensures.1 in rw (p.1, p.2) (λ k. c.in_err-expect.ensures.took _)

pub returns-in_err-expect-clause-on : goal.returns-in_err-expect-clause-on
returns-in_err-expect-clause-on c = let h0 = c.in_err-expect.ensures.on in omega arith

pub returns-clause-took : goal.returns-clause-took
unfolding lin
returns-clause-took c = passed_on _ _ c.args.line.now _ _ _ c.closed_lines.result (λ k. c.in_ok-expect.ensures.took.1 _) c.closed_lines.ensures.took

pub returns-clause-on : goal.returns-clause-on
returns-clause-on c = let h0 = c.in_ok-expect.ensures.on in let h1 = c.closed_lines.ensures.on in omega arith
