use Rattle.std.proofs.Common.{◌∙◌, sym, ap}
use Rattle.std.proofs.lemmas.Result.{err_from_is_err_and}
use Rattle.rw_forms.specs.Phrases.{left_side}
use Rattle.rw_forms.proofs.Parts.{carried}
use Rattle.std.proofs.Common.{drop}
use Rattle.rw_forms.specs.Reading.{read_form}
use Rattle.rw_forms.proofs.sides.left_side.Goals as goal

pub returns-then-accept : goal.returns-then-accept
unfolding left_side
returns-then-accept c = (c.if-accept.ensures.chose.0, λ k. c.if-accept.ensures.chose.1 _ _ ∙ ap (λ l. read_form (k l) (drop c.accept.new.at c.args.line.now)) (sym c.new.ensures))

pub returns-in_err-formulas : goal.returns-in_err-formulas
unfolding left_side
returns-in_err-formulas c = let p = err_from_is_err_and c.from_residual.result c.from_residual.ensures.1 in rw (p.1, p.2) (λ k. carried c.args.line.now _ (c.if-accept.ensures.chose.1 _ _) (c.in_err-formulas.ensures _))

pub returns-in_err-expect : goal.returns-in_err-expect
unfolding left_side
returns-in_err-expect c = let p = err_from_is_err_and c.from_residual-in_err-expect.result c.from_residual-in_err-expect.ensures.1 in rw (p.1, p.2) (λ k. carried c.args.line.now _ (c.if-accept.ensures.chose.1 _ _ ∙ c.in_ok-formulas.ensures.1 _) (c.in_err-expect.ensures.took _))

pub returns : goal.returns
unfolding left_side
returns c = (c.in_ok-expect.ensures.took.0, λ k. c.if-accept.ensures.chose.1 _ _ ∙ c.in_ok-formulas.ensures.1 _ ∙ c.in_ok-expect.ensures.took.1 _)
