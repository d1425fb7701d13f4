use Rattle.std.proofs.Common.{sym, ◌∙◌}
use Rattle.std.proofs.lemmas.Result.{err_from_is_err_and}
use Rattle.rw_programs.specs.declared.prog.Prog.TheVariants as prog
use Rattle.rw_subst.specs.Conj.{disj}
use Rattle.rw_loops.specs.Code.{code_misfit}
use Rattle.rw_loops.specs.Laws.{arms_from, if_premises, if_law}
use Rattle.rw_loops.proofs.Judging.{makes, refused_first, refused_past, refused_large}
use Rattle.rw_loops.proofs.alternation.alternation.Goals as goal

pub returns-in_err-refuse-clause-err : goal.returns-in_err-refuse-clause-err
unfolding if_law
returns-in_err-refuse-clause-err c =
    let p = err_from_is_err_and c.from_residual-in_err-refuse.result c.from_residual-in_err-refuse.ensures.1 in
    rw (p.1, p.2)
    (refused_first (code_misfit c.args.context.now.scope c.args.heads.now (disj c.args.guards.now)) (prog.If (arms_from 1 c.args.guards.now))
    (if_premises c.args.context.now c.args.spec.now c.args.guards.now) c.in_ok-if_misfit.field-0 _ c.in_ok-if_misfit.ensures c.in_err-refuse.ensures.err)

pub returns-in_err-premises-clause-err : goal.returns-in_err-premises-clause-err
unfolding if_law
returns-in_err-premises-clause-err c =
    let p = err_from_is_err_and c.from_residual-in_err-premises.result c.from_residual-in_err-premises.ensures.1 in
    rw (p.1, p.2)
    (refused_past (code_misfit c.args.context.now.scope c.args.heads.now (disj c.args.guards.now)) (prog.If (arms_from 1 c.args.guards.now))
    (if_premises c.args.context.now c.args.spec.now c.args.guards.now) _ (sym c.in_ok-if_misfit.ensures ∙ c.in_ok-refuse.ensures.ok) c.in_err-premises.ensures.err)

pub returns-in_err-refuse_large-clause-err : goal.returns-in_err-refuse_large-clause-err
unfolding if_law
returns-in_err-refuse_large-clause-err c =
    let p = err_from_is_err_and c.from_residual-in_err-refuse_large.result c.from_residual-in_err-refuse_large.ensures.1 in
    rw (p.1, p.2)
    (refused_large (code_misfit c.args.context.now.scope c.args.heads.now (disj c.args.guards.now)) (prog.If (arms_from 1 c.args.guards.now))
    (if_premises c.args.context.now c.args.spec.now c.args.guards.now) _ (sym c.in_ok-if_misfit.ensures ∙ c.in_ok-refuse.ensures.ok)
    c.in_ok-premises.premises c.in_ok-premises.ensures.ok c.in_err-refuse_large.ensures.err)

pub returns-clause-ok : goal.returns-clause-ok
unfolding if_law
returns-clause-ok c =
    makes (code_misfit c.args.context.now.scope c.args.heads.now (disj c.args.guards.now)) (prog.If (arms_from 1 c.args.guards.now))
    (if_premises c.args.context.now c.args.spec.now c.args.guards.now) (sym c.in_ok-if_misfit.ensures ∙ c.in_ok-refuse.ensures.ok)
    c.in_ok-premises.premises c.in_ok-premises.ensures.ok c.in_ok-refuse_large.ensures.ok
