use Rattle.std.proofs.Common.{ap, sym, ◌∙◌, drop, length, ◌-◌}
use Rattle.rw_programs.specs.State.{put, only, names_of}
use Rattle.rw_evaluation.specs.Stored.{map_of}
use Rattle.rw_evaluation.proofs.Backwards.{back_cons}
use Rattle.rw_evaluation.proofs.Storing.{only_more}
use Rattle.rw_frames.proofs.frame.only.Goals as goal

pub loop-back-preserved : goal.loop-back-preserved
loop-back-preserved c =
    let p = c.index-params-at.result in
    let rest = drop (length c.args.params.now - c.loop-back.back) c.args.params.now in
    c.in_ok-set.ensures.ok
    ∙ ap (λ v. put p.name v (map_of c.loop-back.kept)) c.in_ok-value.ensures
    ∙ ap (put p.name (map_of c.args.store.now p.name)) c.loop-back.invariant
    ∙ only_more p.name (names_of rest) (map_of c.args.store.now)
    ∙ sym (ap (λ ps. only (names_of ps) (map_of c.args.store.now)) (back_cons c.args.params.now c.loop-back.back p c.loop-back-test.true c.index-params-at.is))
