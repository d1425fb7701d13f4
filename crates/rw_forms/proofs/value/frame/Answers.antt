use Rattle.std.proofs.Common.{◌∙◌, ap, sym, drop}
use Rattle.std.proofs.lemmas.Result.{err_from_is_err_and}
use Rattle.rw_forms.specs.Phrases.{frame}
use Rattle.rw_forms.specs.Reading.{read_form}
use Rattle.rw_forms.proofs.Parts.{carried}
use Rattle.rw_forms.proofs.value.frame.Goals as goal

pub returns-then-accept : goal.returns-then-accept
unfolding frame
returns-then-accept c = (c.if-accept.ensures.chose.0, λ k. c.if-accept.ensures.chose.1 _ _ ∙ ap (λ l. read_form (k l) (drop c.accept.new.at c.args.line.now)) (sym c.new.ensures))

pub returns-in_err-names : goal.returns-in_err-names
unfolding frame
returns-in_err-names c = let p = err_from_is_err_and c.from_residual.result c.from_residual.ensures.1 in rw (p.1, p.2) (λ k. carried c.args.line.now _ (c.if-accept.ensures.chose.1 _ _) (c.in_err-names.ensures _))

pub returns-in_err-expect : goal.returns-in_err-expect
unfolding frame
returns-in_err-expect c = let p = err_from_is_err_and c.from_residual-in_err-expect.result c.from_residual-in_err-expect.ensures.1 in rw (p.1, p.2) (λ k. carried c.args.line.now _ (c.if-accept.ensures.chose.1 _ _ ∙ c.in_ok-names.ensures.1 _) (c.in_err-expect.ensures.took _))

pub returns : goal.returns
unfolding frame
returns c = (c.in_ok-expect.ensures.took.0, λ k. c.if-accept.ensures.chose.1 _ _ ∙ c.in_ok-names.ensures.1 _ ∙ c.in_ok-expect.ensures.took.1 _)
