use Rattle.std.proofs.Common.{map, subst, ap, ◌∙◌, ◌≡◌, IfOk}
use Rattle.rw_subst.specs.Replaced.{replaced_formula, from_initial}
use Rattle.rw_wpview.specs.Before.{before}
use Rattle.rw_wpview.specs.Kept.{kept}
use Rattle.rw_wpview.proofs.conditions.at_start.Goals as goal

pub returns : goal.returns
returns c =
    let whole = before c.args.scope.now c.args.noted.now c.args.spec.now.post in
    subst (λ cs. IfOk c.changed.result (λ o. o ≡ kept (replaced_formula cs whole))) (c.as_slice-2.ensures ∙ (c.in_ok-changes.ensures ∙ ap (map from_initial) c.as_slice.ensures)) (c.changed.ensures whole (c.in_ok-before.ensures c.args.spec.now.post c.requires))
