use Rattle.std.proofs.Common.{ap, ◌∙◌}
use Rattle.rw_terms.specs.declared.term.Formula.TheVariants as formula
use Rattle.rw_subst.specs.Conj.{disj}
use Rattle.rw_wpview.specs.Kept.{kept}
use Rattle.rw_wpview.proofs.owed.at_end.Goals as goal

pub returns : goal.returns
returns c = c.both.ensures c.args.invariant.now (formula.Not (disj c.args.guards.now)) c.in_ok-kept_copy.ensures (c.kept.ensures ∙ ap kept (c.in_ok-none.ensures ∙ ap formula.Not c.in_ok-any_guard.ensures))
