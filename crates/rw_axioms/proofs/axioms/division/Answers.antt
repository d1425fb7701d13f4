use Rattle.std.proofs.Common.{◌∙◌, ap, subst, IfOk}
use Rattle.rw_goals.specs.Premises.{Gives, effect}
use Rattle.rw_axioms.specs.Axioms.{axiom_parts, division_axiom}
use Rattle.rw_axioms.proofs.axioms.division.Goals as goal

pub returns : goal.returns
returns c =
    subst (λ f. IfOk c.add_axiom.result (λ o. Gives o c.add_axiom.new.goal (effect (axiom_parts f) c.args.goal.now)))
    (c.in_ok-found.ensures ∙ ap (λ names. division_axiom names c.args.t.now c.args.u.now) c.as_slice.ensures)
    c.add_axiom.ensures
