use Rattle.std.proofs.Common.{◌++◌, [], ◌∷◌, map, take, ap, sym, ◌∙◌, subst}
use Rattle.std.proofs.lemmas.List.{take_more, map-append}
use Rattle.rw_wpview.specs.Kept.{Answers}
use Rattle.rw_wpview.specs.Arms.{turn_of}
use Rattle.rw_wpview.proofs.owed.turns.Goals as goal

pub loop-arm-preserved : goal.loop-arm-preserved
loop-arm-preserved c =
    let of = turn_of c.args.inner.now c.args.number c.args.variant.now c.args.invariant.now in let arms = c.args.arms.now in let i = c.loop-arm.arm-index in let arm = c.arm-item.result in
    subst (λ w. Answers w c.joined-owed.result)
    (sym (ap (map of) (take_more arms i arm c.loop-arm-test.true ∙ ap (λ y. take i arms ++ y ∷ []) (sym c.arm-item.is)) ∙ map-append of (take i arms) (arm ∷ [])))
    (c.joined-owed.ensures _ _ c.loop-arm.invariant (c.condition.ensures _ _ c.in_ok-start.ensures (c.in_ok-end.ensures _ c.requires)))
