use Rattle.rw_modules.proofs.Joined.{augmented_to}
use Rattle.rw_modules.proofs.halves.augmented.Goals as goal

pub returns : goal.returns
returns c =
    augmented_to c.args.module.now c.args.spec.now c.in_ok-made.made c.in_ok-frame.frame c.in_ok-boxed.field-0 c.in_ok-pre.pre c.in_ok-kept_post.field-0 c.in_ok-post.post
    c.in_ok-frame.ensures c.in_ok-boxed.ensures c.in_ok-pre.ensures c.in_ok-kept_post.ensures c.in_ok-post.ensures c.in_ok-made.ensures
