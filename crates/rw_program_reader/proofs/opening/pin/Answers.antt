use Rattle.std.proofs.Common.{◌∙◌, arith}
use Rattle.std.proofs.lemmas.Result.{err_from_is_err_and}
use Rattle.rw_forms.proofs.Parts.{carried, told_as}
use Rattle.rw_program_reader.specs.Programs.{pin}
use Rattle.rw_program_reader.proofs.Made.{made_pin}
use Rattle.rw_program_reader.proofs.opening.pin.Goals as goal

pub returns-in_err-name-clause-took : goal.returns-in_err-name-clause-took
unfolding pin
returns-in_err-name-clause-took c = let p = err_from_is_err_and c.from_residual.result c.from_residual.ensures.1 in rw (p.1, p.2) (λ k. c.in_err-name.ensures.took _)

pub returns-in_err-name-clause-on : goal.returns-in_err-name-clause-on
returns-in_err-name-clause-on c = let h0 = c.in_err-name.ensures.on in omega arith

pub returns-in_err-expect-clause-took : goal.returns-in_err-expect-clause-took
unfolding pin
returns-in_err-expect-clause-took c = let p = err_from_is_err_and c.from_residual-in_err-expect.result c.from_residual-in_err-expect.ensures.1 in rw (p.1, p.2) (λ k. carried c.args.line.now _ (c.in_ok-name.ensures.took.1 _) (c.in_err-expect.ensures.took _))

pub returns-in_err-expect-clause-on : goal.returns-in_err-expect-clause-on
returns-in_err-expect-clause-on c = let h0 = c.in_ok-name.ensures.on in let h1 = c.in_err-expect.ensures.on in omega arith

pub returns-in_err-term-clause-took : goal.returns-in_err-term-clause-took
unfolding pin
returns-in_err-term-clause-took c = let p = err_from_is_err_and c.from_residual-in_err-term.result c.from_residual-in_err-term.ensures.1 in rw (p.1, p.2) (λ k. carried c.args.line.now _ (c.in_ok-name.ensures.took.1 _ ∙ c.in_ok-expect.ensures.took.1 _) (c.in_err-term.ensures.took _))

pub returns-in_err-term-clause-on : goal.returns-in_err-term-clause-on
returns-in_err-term-clause-on c = let h0 = c.in_ok-name.ensures.on in let h1 = c.in_ok-expect.ensures.on in let h2 = c.in_err-term.ensures.on in omega arith

pub returns-clause-took : goal.returns-clause-took
unfolding pin
returns-clause-took c = (c.in_ok-term.ensures.took.0, λ k. told_as _ _ _ k _ _ (made_pin _ _ _ _ c.into_inner-term.ensures c.in_ok-new.ensures) (c.in_ok-name.ensures.took.1 _ ∙ c.in_ok-expect.ensures.took.1 _ ∙ c.in_ok-term.ensures.took.1 _))

pub returns-clause-on : goal.returns-clause-on
returns-clause-on c = let h0 = c.in_ok-name.ensures.on in let h1 = c.in_ok-expect.ensures.on in let h2 = c.in_ok-term.ensures.on in omega arith
