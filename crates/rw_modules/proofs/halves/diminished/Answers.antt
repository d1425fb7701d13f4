use Rattle.rw_modules.proofs.Joined.{diminished_to}
use Rattle.rw_modules.proofs.halves.diminished.Goals as goal

pub returns : goal.returns
returns c = diminished_to c.args.module.now c.args.spec.now c.in_ok-made.made c.in_ok-frame.frame c.in_ok-pre.pre c.in_ok-post.post c.in_ok-frame.ensures c.in_ok-pre.ensures c.in_ok-post.ensures c.in_ok-made.ensures
