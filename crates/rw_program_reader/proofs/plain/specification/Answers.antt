use Rattle.std.proofs.Common.{◌∙◌}
use Rattle.std.proofs.lemmas.Result.{err_from_is_err_and}
use Rattle.rw_forms.proofs.Parts.{carried, told_as}
use Rattle.rw_program_reader.specs.Programs.{specification, conditions}
use Rattle.rw_program_reader.proofs.Depth.{stops_shut, opens}
use Rattle.rw_program_reader.proofs.Made.{made_spec}
use Rattle.std.proofs.Common.{drop}
use Rattle.rw_program_reader.proofs.plain.specification.Goals as goal

pub returns-then-most-eq0 : goal.returns-then-most-eq0
unfolding specification
returns-then-most-eq0 c = λ k. stops_shut c.args.line.now c.args.at.now c.args.most (conditions c.args.frame k) c.fault.result c.if-most-eq0.true c.fault.ensures c.requires.place.within

pub returns-in_err-expect : goal.returns-in_err-expect
unfolding specification
returns-in_err-expect c = let p = err_from_is_err_and c.from_residual.result c.from_residual.ensures.1 in rw (p.1, p.2) (λ k. carried c.args.line.now _ (opens c.args.most (conditions c.args.frame k) (drop c.args.at.now c.args.line.now) c.if-most-eq0.false) (c.in_err-expect.ensures.took _))

pub returns-in_err-pre : goal.returns-in_err-pre
unfolding specification
returns-in_err-pre c = let p = err_from_is_err_and c.from_residual-in_err-pre.result c.from_residual-in_err-pre.ensures.1 in rw (p.1, p.2) (λ k. carried c.args.line.now _ (opens c.args.most (conditions c.args.frame k) (drop c.args.at.now c.args.line.now) c.if-most-eq0.false ∙ c.in_ok-expect.ensures.took.1 _) (c.in_err-pre.ensures.took _))

pub returns-in_err-expect-2 : goal.returns-in_err-expect-2
unfolding specification
returns-in_err-expect-2 c = let p = err_from_is_err_and c.from_residual-in_err-expect-2.result c.from_residual-in_err-expect-2.ensures.1 in rw (p.1, p.2) (λ k. carried c.args.line.now _ (opens c.args.most (conditions c.args.frame k) (drop c.args.at.now c.args.line.now) c.if-most-eq0.false ∙ c.in_ok-expect.ensures.took.1 _ ∙ c.in_ok-pre.ensures.took.1 _) (c.in_err-expect-2.ensures.took _))

pub returns-in_err-post : goal.returns-in_err-post
unfolding specification
returns-in_err-post c = let p = err_from_is_err_and c.from_residual-in_err-post.result c.from_residual-in_err-post.ensures.1 in rw (p.1, p.2) (λ k. carried c.args.line.now _ (opens c.args.most (conditions c.args.frame k) (drop c.args.at.now c.args.line.now) c.if-most-eq0.false ∙ c.in_ok-expect.ensures.took.1 _ ∙ c.in_ok-pre.ensures.took.1 _ ∙ c.in_ok-expect-2.ensures.took.1 _) (c.in_err-post.ensures.took _))

pub returns-in_err-expect-3 : goal.returns-in_err-expect-3
unfolding specification
returns-in_err-expect-3 c = let p = err_from_is_err_and c.from_residual-in_err-expect-3.result c.from_residual-in_err-expect-3.ensures.1 in rw (p.1, p.2) (λ k. carried c.args.line.now _ (opens c.args.most (conditions c.args.frame k) (drop c.args.at.now c.args.line.now) c.if-most-eq0.false ∙ c.in_ok-expect.ensures.took.1 _ ∙ c.in_ok-pre.ensures.took.1 _ ∙ c.in_ok-expect-2.ensures.took.1 _ ∙ c.in_ok-post.ensures.took.1 _) (c.in_err-expect-3.ensures.took _))

pub returns : goal.returns
unfolding specification
returns c = (c.in_ok-expect-3.ensures.took.0, λ k. told_as _ _ _ k _ _ (made_spec _ _ _ _ _ _ c.into_inner-pre.ensures c.into_inner-post.ensures c.in_ok-new.ensures) (opens c.args.most (conditions c.args.frame k) (drop c.args.at.now c.args.line.now) c.if-most-eq0.false ∙ c.in_ok-expect.ensures.took.1 _ ∙ c.in_ok-pre.ensures.took.1 _ ∙ c.in_ok-expect-2.ensures.took.1 _ ∙ c.in_ok-post.ensures.took.1 _ ∙ c.in_ok-expect-3.ensures.took.1 _))
