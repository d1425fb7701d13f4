use Rattle.std.proofs.Common.{ap, sym, ◌∙◌}
use Rattle.rw_wpview.specs.Conditions.{conditions}
use Rattle.rw_wpview.specs.Kept.{are_within}
use Rattle.rw_wpview.specs.Misfits.{last_misfit}
use Rattle.rw_wpview.proofs.Judging.{first_is, none_first}
use Rattle.rw_wpview.proofs.conditions.conditions.Goals as goal

pub returns-in-Some : goal.returns-in-Some
returns-in-Some c = first_is (conditions c.args.scope.now c.args.spec.now c.args.noted.now) _ _ _ (sym c.in_ok-misfit.ensures ∙ c.in-Some.is)

pub returns-in_ok-twice-in-None : goal.returns-in_ok-twice-in-None
returns-in_ok-twice-in-None c =
    let wanted = conditions c.args.scope.now c.args.spec.now c.args.noted.now in
    none_first wanted _ _ _ _ (sym c.in_ok-misfit.ensures ∙ c.in-None.is) (ap (last_misfit (are_within wanted)) c.in_ok-twice-in-None.ensures) (c.judged.ensures wanted c.owed.ensures)
