use Rattle.std.proofs.Common.{◌∙◌}
use Rattle.std.proofs.lemmas.Result.{err_from_is_err_and}
use Rattle.rw_forms.proofs.Parts.{carried}
use Rattle.rw_program_reader.specs.Programs.{passed, bracketed}
use Rattle.rw_program_reader.proofs.Depth.{stops_shut, opens}
use Rattle.std.proofs.Common.{drop}
use Rattle.rw_program_reader.proofs.plain.passed.Goals as goal

pub returns-then-most-eq0 : goal.returns-then-most-eq0
unfolding passed
returns-then-most-eq0 c = λ k. stops_shut c.args.line.now c.args.at.now c.args.most (bracketed k) c.fault.result c.if-most-eq0.true c.fault.ensures c.requires.place.within

pub returns-in_err-expect : goal.returns-in_err-expect
unfolding passed
returns-in_err-expect c = let p = err_from_is_err_and c.from_residual.result c.from_residual.ensures.1 in rw (p.1, p.2) (λ k. carried c.args.line.now _ (opens c.args.most (bracketed k) (drop c.args.at.now c.args.line.now) c.if-most-eq0.false) (c.in_err-expect.ensures.took _))

pub returns-in_err-terms : goal.returns-in_err-terms
unfolding passed
returns-in_err-terms c = let p = err_from_is_err_and c.from_residual-in_err-terms.result c.from_residual-in_err-terms.ensures.1 in rw (p.1, p.2) (λ k. carried c.args.line.now _ (opens c.args.most (bracketed k) (drop c.args.at.now c.args.line.now) c.if-most-eq0.false ∙ c.in_ok-expect.ensures.took.1 _) (c.in_err-terms.ensures _))

pub returns-in_err-names : goal.returns-in_err-names
unfolding passed
returns-in_err-names c = let p = err_from_is_err_and c.from_residual-in_err-names.result c.from_residual-in_err-names.ensures.1 in rw (p.1, p.2) (λ k. carried c.args.line.now _ (opens c.args.most (bracketed k) (drop c.args.at.now c.args.line.now) c.if-most-eq0.false ∙ c.in_ok-expect.ensures.took.1 _ ∙ c.in_ok-terms.ensures.1 _) (c.in_err-names.ensures _))

pub returns : goal.returns
unfolding passed
returns c = (c.in_ok-names.ensures.0, λ k. opens c.args.most (bracketed k) (drop c.args.at.now c.args.line.now) c.if-most-eq0.false ∙ c.in_ok-expect.ensures.took.1 _ ∙ c.in_ok-terms.ensures.1 _ ∙ c.in_ok-names.ensures.1 _)
