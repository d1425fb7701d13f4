use Rattle.std.proofs.Common.{◌∙◌, sym}
use Rattle.std.proofs.lemmas.Result.{err_from_is_err_and}
use Rattle.rw_forms.proofs.Parts.{carried, told_as}
use Rattle.rw_program_reader.specs.Programs.{arguments}
use Rattle.rw_program_reader.proofs.plain.arguments.Goals as goal

pub returns-then-accept : goal.returns-then-accept
unfolding arguments
returns-then-accept c = (c.if-accept.ensures.chose.0, λ k. told_as _ _ _ k _ _ (sym c.new.ensures) (c.if-accept.ensures.chose.1 _ _))

pub returns-in_err-terms : goal.returns-in_err-terms
unfolding arguments
returns-in_err-terms c = let p = err_from_is_err_and c.from_residual.result c.from_residual.ensures.1 in rw (p.1, p.2) (λ k. carried c.args.line.now _ (c.if-accept.ensures.chose.1 _ _) (c.in_err-terms.ensures.took _))

pub returns-in_err-expect : goal.returns-in_err-expect
unfolding arguments
returns-in_err-expect c = let p = err_from_is_err_and c.from_residual-in_err-expect.result c.from_residual-in_err-expect.ensures.1 in rw (p.1, p.2) (λ k. carried c.args.line.now _ (c.if-accept.ensures.chose.1 _ _ ∙ c.in_ok-terms.ensures.took.1 _) (c.in_err-expect.ensures.took _))

pub returns : goal.returns
unfolding arguments
returns c = (c.in_ok-expect.ensures.took.0, λ k. c.if-accept.ensures.chose.1 _ _ ∙ c.in_ok-terms.ensures.took.1 _ ∙ c.in_ok-expect.ensures.took.1 _)
