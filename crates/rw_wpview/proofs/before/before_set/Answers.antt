use Rattle.std.proofs.Common.{ap, ◌∙◌}
use Rattle.rw_subst.specs.Replaced.{replaced_formula}
use Rattle.rw_subst.specs.Definedness.{definedness_of}
use Rattle.rw_derived.specs.Derived.{set_to}
use Rattle.rw_wpview.specs.Kept.{kept}
use Rattle.rw_wpview.proofs.before.before_set.Goals as goal

pub returns : goal.returns
returns c = λ f e.
    c.both.ensures (definedness_of c.args.scope.now c.args.terms.now) (replaced_formula (set_to c.args.names.now c.args.terms.now) f) c.in_ok-defined.ensures
    (c.in_ok-set.ensures f e ∙ ap (λ cs. kept (replaced_formula cs f)) (c.as_slice.ensures ∙ c.in_ok-changes.ensures))
