use Rattle.std.proofs.Common.{length, sym, ◌∙◌}
use Rattle.rw_citations.proofs.Replaces.{changes_end, min_reached}
use Rattle.rw_citations.proofs.instance.changes_for.Goals as goal

pub returns : goal.returns
returns c =
    sym (changes_end c.loop-i.changes c.args.params.now c.args.terms.now c.loop-i.i (min_reached (length c.args.params.now) (length c.args.terms.now) c.min-i-end.result c.loop-i.i c.min-i-end.ensures c.loop-i-test.false))
    ∙ c.loop-i.invariant
