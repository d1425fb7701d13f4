use Rattle.std.proofs.Common.{◌∙◌, ap, subst, IfOk}
use Rattle.rw_goals.specs.Premises.{Gives, effect}
use Rattle.rw_axioms.specs.Axioms.{axiom_parts, put_same_axiom}
use Rattle.rw_axioms.proofs.axioms.put_same.Goals as goal

pub returns : goal.returns
returns c =
    subst (λ f. IfOk c.add_axiom.result (λ o. Gives o c.add_axiom.new.goal (effect (axiom_parts f) c.args.goal.now)))
    (c.in_ok-found.ensures ∙ ap (λ names. put_same_axiom names c.args.a.now c.args.i.now c.args.e.now) c.as_slice.ensures)
    c.add_axiom.ensures
