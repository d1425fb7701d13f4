use Rattle.std.proofs.Common.{◌∙◌, ap, drop}
use Rattle.std.proofs.lemmas.Result.{err_from_is_err_and}
use Rattle.rw_forms.specs.Phrases.{spec}
use Rattle.rw_forms.specs.Reading.{read_form}
use Rattle.rw_forms.proofs.Parts.{made_spec}
use Rattle.rw_forms.proofs.Parts.{carried}
use Rattle.rw_forms.proofs.value.spec.Goals as goal

pub returns-in_err-frame : goal.returns-in_err-frame
unfolding spec
returns-in_err-frame c = let p = err_from_is_err_and c.from_residual.result c.from_residual.ensures.1 in rw (p.1, p.2) (λ k. c.in_err-frame.ensures _)

pub returns-in_err-expect : goal.returns-in_err-expect
unfolding spec
returns-in_err-expect c = let p = err_from_is_err_and c.from_residual-in_err-expect.result c.from_residual-in_err-expect.ensures.1 in rw (p.1, p.2) (λ k. carried c.args.line.now _ (c.in_ok-frame.ensures.1 _) (c.in_err-expect.ensures.took _))

pub returns-in_err-pre : goal.returns-in_err-pre
unfolding spec
returns-in_err-pre c = let p = err_from_is_err_and c.from_residual-in_err-pre.result c.from_residual-in_err-pre.ensures.1 in rw (p.1, p.2) (λ k. carried c.args.line.now _ (c.in_ok-frame.ensures.1 _ ∙ c.in_ok-expect.ensures.took.1 _) (c.in_err-pre.ensures.took _))

pub returns-in_err-expect-2 : goal.returns-in_err-expect-2
unfolding spec
returns-in_err-expect-2 c = let p = err_from_is_err_and c.from_residual-in_err-expect-2.result c.from_residual-in_err-expect-2.ensures.1 in rw (p.1, p.2) (λ k. carried c.args.line.now _ (c.in_ok-frame.ensures.1 _ ∙ c.in_ok-expect.ensures.took.1 _ ∙ c.in_ok-pre.ensures.took.1 _) (c.in_err-expect-2.ensures.took _))

pub returns-in_err-post : goal.returns-in_err-post
unfolding spec
returns-in_err-post c = let p = err_from_is_err_and c.from_residual-in_err-post.result c.from_residual-in_err-post.ensures.1 in rw (p.1, p.2) (λ k. carried c.args.line.now _ (c.in_ok-frame.ensures.1 _ ∙ c.in_ok-expect.ensures.took.1 _ ∙ c.in_ok-pre.ensures.took.1 _ ∙ c.in_ok-expect-2.ensures.took.1 _) (c.in_err-post.ensures.took _))

pub returns-in_err-expect-3 : goal.returns-in_err-expect-3
unfolding spec
returns-in_err-expect-3 c = let p = err_from_is_err_and c.from_residual-in_err-expect-3.result c.from_residual-in_err-expect-3.ensures.1 in rw (p.1, p.2) (λ k. carried c.args.line.now _ (c.in_ok-frame.ensures.1 _ ∙ c.in_ok-expect.ensures.took.1 _ ∙ c.in_ok-pre.ensures.took.1 _ ∙ c.in_ok-expect-2.ensures.took.1 _ ∙ c.in_ok-post.ensures.took.1 _) (c.in_err-expect-3.ensures.took _))

pub returns : goal.returns
unfolding spec
returns c = (c.in_ok-expect-3.ensures.took.0, λ k. c.in_ok-frame.ensures.1 _ ∙ c.in_ok-expect.ensures.took.1 _ ∙ c.in_ok-pre.ensures.took.1 _ ∙ c.in_ok-expect-2.ensures.took.1 _ ∙ c.in_ok-post.ensures.took.1 _ ∙ c.in_ok-expect-3.ensures.took.1 _ ∙ ap (λ s. read_form (k s) (drop c.expect-3.new.at c.args.line.now)) (made_spec _ _ _ _ _ _ c.into_inner-pre.ensures c.into_inner-post.ensures c.in_ok-new.ensures))
