use Rattle.std.proofs.Common.{◌-◌, length, sym, ap, ◌∙◌, arith}
use Rattle.rw_finder.specs.Point.{value_at}
use Rattle.rw_finder.proofs.Values.{values_none}
use Rattle.rw_finder.proofs.point.values.Goals as goal

pub returns-in-None : goal.returns-in-None
returns-in-None c =
    values_none c.args.atoms.now c.args.rows.now c.loop-behind.behind c.loop-behind.values c.loop-behind.invariant
    (ap (value_at c.args.atoms.now c.args.rows.now ((length c.args.atoms.now - c.loop-behind.behind) - 1)) (sym c.as_slice.ensures) ∙ sym c.value_at.ensures ∙ c.in-None.is)
    (length c.args.atoms.now) (omega arith)
