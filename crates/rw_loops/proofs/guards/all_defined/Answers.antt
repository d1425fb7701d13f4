use Rattle.std.proofs.Common.{◌≡◌, IfOk, IfErr, ap, ◌∙◌, subst}
use Rattle.rw_subst.specs.Definedness.{guard_definedness}
use Rattle.rw_laws.specs.Laws.{IsLargeRefusal}
use Rattle.rw_loops.proofs.GuardLemmas.{definedness_of_disj}
use Rattle.rw_loops.proofs.guards.all_defined.Goals as goal

pub returns-clause-made : goal.returns-clause-made
returns-clause-made c =
    subst (λ d. IfOk c.is_defined.result (λ f. f ≡ d)) (ap (guard_definedness c.args.scope.now) c.in_ok-any.ensures ∙ definedness_of_disj c.args.scope.now c.args.guards.now) c.is_defined.ensures.made

pub returns-clause-err : goal.returns-clause-err
returns-clause-err c =
    subst (λ d. IfErr c.is_defined.result (IsLargeRefusal d)) (ap (guard_definedness c.args.scope.now) c.in_ok-any.ensures ∙ definedness_of_disj c.args.scope.now c.args.guards.now) c.is_defined.ensures.err
