use Rattle.std.proofs.Common.{ap, sym, ◌∙◌, Some}
use Rattle.rw_programs.specs.State.{put, put_all, names_of}
use Rattle.rw_frames.specs.Bodies.{zero_of, zeros}
use Rattle.rw_evaluation.specs.Stored.{map_of}
use Rattle.rw_evaluation.proofs.Backwards.{back_cons}
use Rattle.rw_frames.proofs.frame.set_zeros.Goals as goal

pub loop-back-preserved : goal.loop-back-preserved
loop-back-preserved c =
    let p = c.index-params-at.result in
    c.in_ok-set.ensures.ok
    ∙ ap (λ v. put p.name (Some v) (map_of c.loop-back.store)) c.in_ok-zero.ensures
    ∙ ap (put p.name (Some (zero_of p.sort))) c.loop-back.invariant
    ∙ sym (ap (λ ps. put_all (names_of ps) (zeros ps) (map_of c.args.store.now)) (back_cons c.args.params.now c.loop-back.back p c.loop-back-test.true c.index-params-at.is))
