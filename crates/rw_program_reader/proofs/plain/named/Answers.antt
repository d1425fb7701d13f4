use Rattle.std.proofs.Common.{◌∙◌, sym}
use Rattle.std.proofs.lemmas.Result.{err_from_is_err_and}
use Rattle.rw_forms.proofs.Parts.{carried, passed_on, told_as}
use Rattle.rw_program_reader.specs.Programs.{named}
use Rattle.rw_program_reader.proofs.plain.named.Goals as goal

pub returns-in_err-terms : goal.returns-in_err-terms
unfolding named
returns-in_err-terms c = let p = err_from_is_err_and c.from_residual.result c.from_residual.ensures.1 in rw (p.1, p.2) (λ k. carried c.args.line.now _ (c.if-accept.ensures.chose.1 _ _) (c.in_err-terms.ensures.took _))

pub returns-then-accept : goal.returns-then-accept
unfolding named
returns-then-accept c = (c.in_ok-terms.ensures.took.0, λ k. told_as _ _ _ k _ _ (sym c.in_ok-new.ensures) (c.if-accept.ensures.chose.1 _ _ ∙ c.in_ok-terms.ensures.took.1 _))

pub returns-in_err-expect : goal.returns-in_err-expect
unfolding named
returns-in_err-expect c = let p = err_from_is_err_and c.from_residual-in_err-expect.result c.from_residual-in_err-expect.ensures.1 in rw (p.1, p.2) (λ k. carried c.args.line.now _ (c.if-accept.ensures.chose.1 _ _) (c.in_err-expect.ensures.took _))

pub returns : goal.returns
unfolding named
returns c = passed_on _ _ c.args.line.now _ _ _ c.specification.result (λ k. c.if-accept.ensures.chose.1 _ _ ∙ c.in_ok-expect.ensures.took.1 _) c.specification.ensures
