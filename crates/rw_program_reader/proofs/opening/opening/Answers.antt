use Rattle.std.proofs.Common.{◌∙◌}
use Rattle.std.proofs.lemmas.Result.{err_from_is_err_and}
use Rattle.rw_forms.proofs.Parts.{carried}
use Rattle.rw_program_reader.specs.Programs.{opening}
use Rattle.rw_program_reader.proofs.opening.opening.Goals as goal

pub returns-in_err-name : goal.returns-in_err-name
unfolding opening
returns-in_err-name c = let p = err_from_is_err_and c.from_residual.result c.from_residual.ensures.1 in rw (p.1, p.2) (λ k. carried c.args.line.now _ (c.if-accept.ensures.chose.1 _ _) (c.in_err-name.ensures.took _))

pub returns-in_err-expect : goal.returns-in_err-expect
unfolding opening
returns-in_err-expect c = let p = err_from_is_err_and c.from_residual-in_err-expect.result c.from_residual-in_err-expect.ensures.1 in rw (p.1, p.2) (λ k. carried c.args.line.now _ (c.if-accept.ensures.chose.1 _ _ ∙ c.in_ok-name.ensures.took.1 _) (c.in_err-expect.ensures.took _))

pub returns-in_err-sort : goal.returns-in_err-sort
unfolding opening
returns-in_err-sort c = let p = err_from_is_err_and c.from_residual-in_err-sort.result c.from_residual-in_err-sort.ensures.1 in rw (p.1, p.2) (λ k. carried c.args.line.now _ (c.if-accept.ensures.chose.1 _ _ ∙ c.in_ok-name.ensures.took.1 _ ∙ c.in_ok-expect.ensures.took.1 _) (c.in_err-sort.ensures.took _))

pub returns-then-accept : goal.returns-then-accept
unfolding opening
returns-then-accept c = (c.in_ok-sort.ensures.took.0, λ k. c.if-accept.ensures.chose.1 _ _ ∙ c.in_ok-name.ensures.took.1 _ ∙ c.in_ok-expect.ensures.took.1 _ ∙ c.in_ok-sort.ensures.took.1 _)

pub returns-in_err-pins : goal.returns-in_err-pins
unfolding opening
returns-in_err-pins c = let p = err_from_is_err_and c.from_residual-in_err-pins.result c.from_residual-in_err-pins.ensures.1 in rw (p.1, p.2) (λ k. carried c.args.line.now _ (c.if-accept.ensures.chose.1 _ _ ∙ c.if-accept-2.ensures.chose.1 _ _) (c.in_err-pins.ensures _))

pub returns-then-accept-2 : goal.returns-then-accept-2
unfolding opening
returns-then-accept-2 c = (c.in_ok-pins.ensures.0, λ k. c.if-accept.ensures.chose.1 _ _ ∙ c.if-accept-2.ensures.chose.1 _ _ ∙ c.in_ok-pins.ensures.1 _)

pub returns-in_err-expect-2 : goal.returns-in_err-expect-2
unfolding opening
returns-in_err-expect-2 c = let p = err_from_is_err_and c.from_residual-in_err-expect-2.result c.from_residual-in_err-expect-2.ensures.1 in rw (p.1, p.2) (λ k. carried c.args.line.now _ (c.if-accept.ensures.chose.1 _ _ ∙ c.if-accept-2.ensures.chose.1 _ _) (c.in_err-expect-2.ensures.took _))

pub returns-in_err-home : goal.returns-in_err-home
unfolding opening
returns-in_err-home c = let p = err_from_is_err_and c.from_residual-in_err-home.result c.from_residual-in_err-home.ensures.1 in rw (p.1, p.2) (λ k. carried c.args.line.now _ (c.if-accept.ensures.chose.1 _ _ ∙ c.if-accept-2.ensures.chose.1 _ _ ∙ c.in_ok-expect-2.ensures.took.1 _) (c.in_err-home.ensures.took _))

pub returns : goal.returns
unfolding opening
returns c = (c.in_ok-home.ensures.took.0, λ k. c.if-accept.ensures.chose.1 _ _ ∙ c.if-accept-2.ensures.chose.1 _ _ ∙ c.in_ok-expect-2.ensures.took.1 _ ∙ c.in_ok-home.ensures.took.1 _)
