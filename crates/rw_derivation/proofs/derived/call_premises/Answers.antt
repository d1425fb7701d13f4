use Rattle.std.proofs.lemmas.Result.{err_from_is_err_and}
use Rattle.rw_derivation.proofs.Fitting.{call_fits, call_refused}
use Rattle.rw_derivation.proofs.derived.call_premises.Goals as goal

pub returns-clause-ok : goal.returns-clause-ok
returns-clause-ok c =
    call_fits c.args.context.now c.args.spec.now c.args.step.now _ _ c.in_ok-applied.applied _ c.head_in-head.ensures c.in_ok-applied.ensures.ok c.taken-premises.ensures.children c.taken-premises.ensures.obligations

pub returns-in_err-applied-clause-err : goal.returns-in_err-applied-clause-err
returns-in_err-applied-clause-err c =
    let p = err_from_is_err_and c.from_residual.result c.from_residual.ensures.1 in
    rw (p.1, p.2) (call_refused c.args.context.now c.args.spec.now c.args.step.now _ _ _ c.head_in-head.ensures c.in_err-applied.ensures.err)
