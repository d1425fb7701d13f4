use Rattle.std.proofs.Common.{sym, ◌∙◌}
use Rattle.rw_subst.specs.declared.slot.Slot.TheVariants as slot
use Rattle.rw_subst.specs.Replaced.{closed_leaves}
use Rattle.rw_wpview.proofs.Large.{rebuilt_large}
use Rattle.rw_wpview.proofs.kept.closed.Goals as goal

pub returns-in-None : goal.returns-in-None
returns-in-None c = λ f e. rebuilt_large (closed_leaves (slot.Var c.args.name.now)) f (sym c.in-None.is ∙ e)
