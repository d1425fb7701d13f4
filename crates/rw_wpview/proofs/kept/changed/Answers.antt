use Rattle.std.proofs.Common.{sym, ◌∙◌}
use Rattle.rw_subst.specs.Replaced.{changed_leaves}
use Rattle.rw_wpview.proofs.Large.{rebuilt_large}
use Rattle.rw_wpview.proofs.kept.changed.Goals as goal

pub returns-in-None : goal.returns-in-None
returns-in-None c = λ f e. rebuilt_large (changed_leaves c.args.changes.now) f (sym c.in-None.is ∙ e)
