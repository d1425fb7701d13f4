use Rattle.std.proofs.Common.{sym, ◌∙◌}
use Rattle.std.proofs.lemmas.Result.{err_from_is_err_and}
use Rattle.rw_programs.specs.declared.prog.Prog.TheVariants as prog
use Rattle.rw_loops.specs.Laws.{block_misfit, block_premises, block_law}
use Rattle.rw_loops.proofs.Judging.{makes, refused_first, refused_large}
use Rattle.rw_loops.proofs.block.block.Goals as goal

pub returns-in_err-refuse-clause-err : goal.returns-in_err-refuse-clause-err
unfolding block_law
returns-in_err-refuse-clause-err c =
    let p = err_from_is_err_and c.from_residual.result c.from_residual.ensures.1 in
    rw (p.1, p.2) (refused_first (block_misfit c.args.context.now.scope c.args.name.now c.args.sort) (prog.Block c.args.name.now c.args.sort (prog.Kid 1))
    (block_premises c.args.context.now c.args.spec.now c.args.name.now c.args.sort) c.block_misfit.result _ c.block_misfit.ensures c.in_err-refuse.ensures.err)

pub returns-in_err-refuse_large-clause-err : goal.returns-in_err-refuse_large-clause-err
unfolding block_law
returns-in_err-refuse_large-clause-err c =
    let p = err_from_is_err_and c.from_residual-in_err-refuse_large.result c.from_residual-in_err-refuse_large.ensures.1 in
    rw (p.1, p.2) (refused_large (block_misfit c.args.context.now.scope c.args.name.now c.args.sort) (prog.Block c.args.name.now c.args.sort (prog.Kid 1))
    (block_premises c.args.context.now c.args.spec.now c.args.name.now c.args.sort) _ (sym c.block_misfit.ensures ∙ c.in_ok-refuse.ensures.ok)
    c.in_ok-premises.premises c.in_ok-premises.ensures c.in_err-refuse_large.ensures.err)

pub returns-clause-ok : goal.returns-clause-ok
unfolding block_law
returns-clause-ok c =
    makes (block_misfit c.args.context.now.scope c.args.name.now c.args.sort) (prog.Block c.args.name.now c.args.sort (prog.Kid 1))
    (block_premises c.args.context.now c.args.spec.now c.args.name.now c.args.sort) (sym c.block_misfit.ensures ∙ c.in_ok-refuse.ensures.ok)
    c.in_ok-premises.premises c.in_ok-premises.ensures c.in_ok-refuse_large.ensures.ok
