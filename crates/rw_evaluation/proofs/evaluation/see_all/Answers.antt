use Rattle.std.proofs.Common.{◌∙◌}
use Rattle.rw_evaluation.specs.Stored.{map_of}
use Rattle.rw_evaluation.proofs.Backwards.{seen_before}
use Rattle.rw_evaluation.proofs.evaluation.see_all.Goals as goal

pub loop-back-preserved : goal.loop-back-preserved
loop-back-preserved c =
    c.in_ok-values.ensures
    ∙ seen_before (map_of c.args.store.now) c.args.terms.now c.loop-back.back c.index-terms-at.result c.loop-back-test.true c.index-terms-at.is _ c.in_ok-first.ensures _ c.loop-back.invariant
