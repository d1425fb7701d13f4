use Rattle.std.proofs.Common.{ap, ◌∙◌}
use Rattle.rw_subst.specs.Conj.{disj}
use Rattle.rw_loops.specs.Guards.{guards_definedness}
use Rattle.rw_wpview.specs.Kept.{kept}
use Rattle.rw_wpview.specs.Arms.{guards}
use Rattle.rw_wpview.proofs.before.some_guard.Goals as goal

pub returns : goal.returns
returns c =
    c.both.ensures (guards_definedness c.args.scope.now (guards c.args.arms.now)) (disj (guards c.args.arms.now))
    (c.in_ok-defined.ensures ∙ ap (λ gs. kept (guards_definedness c.args.scope.now gs)) (c.as_slice.ensures ∙ c.in_ok-guards.ensures))
    (c.kept-any.ensures ∙ ap kept (c.in_ok-any_guard.ensures ∙ ap disj (c.as_slice-2.ensures ∙ c.in_ok-guards.ensures)))
