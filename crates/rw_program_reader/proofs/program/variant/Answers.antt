use Rattle.std.proofs.Common.{◌∙◌}
use Rattle.std.proofs.lemmas.Result.{err_from_is_err_and}
use Rattle.rw_forms.proofs.Parts.{carried}
use Rattle.rw_program_reader.specs.Programs.{variant, braced}
use Rattle.rw_program_reader.proofs.Depth.{stops_shut, opens}
use Rattle.std.proofs.Common.{drop}
use Rattle.rw_program_reader.proofs.program.variant.Goals as goal

pub returns-then-most-eq0 : goal.returns-then-most-eq0
unfolding variant
returns-then-most-eq0 c = λ k. stops_shut c.args.line.now c.args.at.now c.args.most (braced k) c.fault.result c.if-most-eq0.true c.fault.ensures c.requires.place.within

pub returns-in_err-expect : goal.returns-in_err-expect
unfolding variant
returns-in_err-expect c = let p = err_from_is_err_and c.from_residual.result c.from_residual.ensures.1 in rw (p.1, p.2) (λ k. carried c.args.line.now _ (opens c.args.most (braced k) (drop c.args.at.now c.args.line.now) c.if-most-eq0.false) (c.in_err-expect.ensures.took _))

pub returns-in_err-term : goal.returns-in_err-term
unfolding variant
returns-in_err-term c = let p = err_from_is_err_and c.from_residual-in_err-term.result c.from_residual-in_err-term.ensures.1 in rw (p.1, p.2) (λ k. carried c.args.line.now _ (opens c.args.most (braced k) (drop c.args.at.now c.args.line.now) c.if-most-eq0.false ∙ c.in_ok-expect.ensures.took.1 _) (c.in_err-term.ensures.took _))

pub returns-in_err-expect-2 : goal.returns-in_err-expect-2
unfolding variant
returns-in_err-expect-2 c = let p = err_from_is_err_and c.from_residual-in_err-expect-2.result c.from_residual-in_err-expect-2.ensures.1 in rw (p.1, p.2) (λ k. carried c.args.line.now _ (opens c.args.most (braced k) (drop c.args.at.now c.args.line.now) c.if-most-eq0.false ∙ c.in_ok-expect.ensures.took.1 _ ∙ c.in_ok-term.ensures.took.1 _) (c.in_err-expect-2.ensures.took _))

pub returns : goal.returns
unfolding variant
returns c = (c.in_ok-expect-2.ensures.took.0, λ k. opens c.args.most (braced k) (drop c.args.at.now c.args.line.now) c.if-most-eq0.false ∙ c.in_ok-expect.ensures.took.1 _ ∙ c.in_ok-term.ensures.took.1 _ ∙ c.in_ok-expect-2.ensures.took.1 _)
