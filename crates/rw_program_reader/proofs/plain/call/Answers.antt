use Rattle.std.proofs.Common.{◌∙◌, sym}
use Rattle.std.proofs.lemmas.Result.{err_from_is_err_and}
use Rattle.rw_forms.proofs.Parts.{carried, told_as}
use Rattle.rw_program_reader.specs.Programs.{call}
use Rattle.rw_program_reader.proofs.plain.call.Goals as goal

pub returns-in_err-name : goal.returns-in_err-name
unfolding call
returns-in_err-name c = let p = err_from_is_err_and c.from_residual.result c.from_residual.ensures.1 in rw (p.1, p.2) (λ k. c.in_err-name.ensures.took _)

pub returns-in_err-terms : goal.returns-in_err-terms
unfolding call
returns-in_err-terms c = let p = err_from_is_err_and c.from_residual-in_err-terms.result c.from_residual-in_err-terms.ensures.1 in rw (p.1, p.2) (λ k. carried c.args.line.now _ (c.in_ok-name.ensures.took.1 _) (c.in_err-terms.ensures _))

pub returns : goal.returns
unfolding call
returns c = (c.in_ok-terms.ensures.0, λ k. told_as _ _ _ k _ _ (sym c.in_ok-new.ensures) (c.in_ok-name.ensures.took.1 _ ∙ c.in_ok-terms.ensures.1 _))
