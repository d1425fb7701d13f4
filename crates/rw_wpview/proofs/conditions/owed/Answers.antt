use Rattle.rw_wpview.proofs.conditions.owed.Goals as goal

pub returns : goal.returns
returns c = c.joined.ensures _ _ (c.condition.ensures _ _ c.in_ok-pre.ensures c.in_ok-start.ensures) (c.of_loops.ensures c.args.spec.now.post c.in_ok-post.ensures)
