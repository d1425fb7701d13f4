use Rattle.std.proofs.Common.{◌≡◌, nat_lt, Bool, Option, None, Some, sym, ap, ◌∙◌}
use Rattle.std.proofs.lemmas.Result.{err_from_is_err_and}
use Rattle.rw_faults.specs.Initial.{is_twice}
use Rattle.rw_programs.specs.declared.prog.Spec.{Spec}
use Rattle.rw_programs.specs.declared.applied.Applied.{Applied}
use Rattle.rw_programs.specs.declared.applied.Context.{Context}
use Rattle.rw_programs.specs.declared.applied.Misfit.{Misfit}
use Rattle.rw_heads.specs.declared.head.ProcHead.{ProcHead}
use Rattle.rw_heads.specs.declared.step.CallStep.{CallStep}
use Rattle.rw_procs.specs.Causes.{call_cause}
use Rattle.rw_procs.specs.Laws.{callee_of, called, call_small, call_made, call_law}
use Rattle.rw_procs.proofs.Fitting.{call_long}
use Rattle.rw_procs.proofs.Judging.{refused_first, refused_limit, refused_order, refused_twice, makes}
use Rattle.rw_procs.proofs.apply.call.Goals as goal

-- the first cause
abbrev first : Context → Spec → CallStep → ProcHead → Option Misfit
first context w step h = call_cause context.scope w.frame (Some (callee_of h)) step.args step.results

pub returns-in_err-refuse-clause-err : goal.returns-in_err-refuse-clause-err
unfolding call_law
returns-in_err-refuse-clause-err c =
    let p = err_from_is_err_and c.from_residual.result c.from_residual.ensures.1 in
    rw (p.1, p.2)
    (refused_first (first c.args.context.now c.args.spec.now c.args.step.now c.args.head.now) c.call_cause.result (call_small c.args.context.now c.args.spec.now c.args.step.now c.args.head.now) (nat_lt c.args.place c.args.context.now.order)
    (is_twice c.args.step.now.results) (call_made c.args.context.now c.args.spec.now c.args.step.now c.args.head.now) _ c.call_cause.ensures c.in_err-refuse.ensures.err)

pub obligations-requires-clause-values : goal.obligations-requires-clause-values
obligations-requires-clause-values c =
    (call_long c.args.context.now.scope c.args.spec.now.frame (callee_of c.args.head.now) c.args.step.now.args c.args.step.now.results (sym c.call_cause.ensures ∙ c.in_ok-refuse.ensures.ok)).0

pub obligations-requires-clause-results : goal.obligations-requires-clause-results
obligations-requires-clause-results c =
    (call_long c.args.context.now.scope c.args.spec.now.frame (callee_of c.args.head.now) c.args.step.now.args c.args.step.now.results (sym c.call_cause.ensures ∙ c.in_ok-refuse.ensures.ok)).1

pub returns-in_err-obligations-clause-err : goal.returns-in_err-obligations-clause-err
unfolding call_law
returns-in_err-obligations-clause-err c =
    let p = err_from_is_err_and c.from_residual-in_err-obligations.result c.from_residual-in_err-obligations.ensures.1 in
    rw (p.1, p.2)
    (refused_limit (first c.args.context.now c.args.spec.now c.args.step.now c.args.head.now) (call_small c.args.context.now c.args.spec.now c.args.step.now c.args.head.now) (nat_lt c.args.place c.args.context.now.order)
    (is_twice c.args.step.now.results) (call_made c.args.context.now c.args.spec.now c.args.step.now c.args.head.now) _ (sym c.call_cause.ensures ∙ c.in_ok-refuse.ensures.ok) c.in_err-obligations.ensures.err)

pub returns-in_err-refuse_later-clause-err : goal.returns-in_err-refuse_later-clause-err
unfolding call_law
returns-in_err-refuse_later-clause-err c =
    let p = err_from_is_err_and c.from_residual-in_err-refuse_later.result c.from_residual-in_err-refuse_later.ensures.1 in
    rw (p.1, p.2)
    (refused_order (first c.args.context.now c.args.spec.now c.args.step.now c.args.head.now) (call_small c.args.context.now c.args.spec.now c.args.step.now c.args.head.now) (nat_lt c.args.place c.args.context.now.order)
    (is_twice c.args.step.now.results) (call_made c.args.context.now c.args.spec.now c.args.step.now c.args.head.now) _ (sym c.call_cause.ensures ∙ c.in_ok-refuse.ensures.ok) c.in_ok-obligations.ensures.small c.in_err-refuse_later.ensures.err)

pub returns-in_err-refuse_alias-clause-err : goal.returns-in_err-refuse_alias-clause-err
unfolding call_law
returns-in_err-refuse_alias-clause-err c =
    let p = err_from_is_err_and c.from_residual-in_err-refuse_alias.result c.from_residual-in_err-refuse_alias.ensures.1 in
    rw (p.1, p.2)
    (refused_twice (first c.args.context.now c.args.spec.now c.args.step.now c.args.head.now) (call_small c.args.context.now c.args.spec.now c.args.step.now c.args.head.now) (nat_lt c.args.place c.args.context.now.order)
    (is_twice c.args.step.now.results) (call_made c.args.context.now c.args.spec.now c.args.step.now c.args.head.now) _ (sym c.call_cause.ensures ∙ c.in_ok-refuse.ensures.ok) c.in_ok-obligations.ensures.small c.in_ok-refuse_later.ensures.ok
    c.in_err-refuse_alias.ensures.err)

pub returns-clause-ok : goal.returns-clause-ok
unfolding call_law
returns-clause-ok c =
    makes (first c.args.context.now c.args.spec.now c.args.step.now c.args.head.now) (call_small c.args.context.now c.args.spec.now c.args.step.now c.args.head.now) (nat_lt c.args.place c.args.context.now.order)
    (is_twice c.args.step.now.results) (call_made c.args.context.now c.args.spec.now c.args.step.now c.args.head.now) _ (sym c.call_cause.ensures ∙ c.in_ok-refuse.ensures.ok) c.in_ok-obligations.ensures.small c.in_ok-refuse_later.ensures.ok
    c.in_ok-refuse_alias.ensures.ok (c.in_ok-called.ensures ∙ ap (called c.args.step.now) c.in_ok-obligations.ensures.made)
