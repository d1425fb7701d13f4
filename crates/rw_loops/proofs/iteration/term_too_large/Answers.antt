use Rattle.std.proofs.Common.{inr, refl}
use Rattle.rw_loops.proofs.Sizes.{refused}
use Rattle.rw_loops.proofs.iteration.term_too_large.Goals as goal

pub returns-in-TooLarge : goal.returns-in-TooLarge
returns-in-TooLarge c = λ t u h. inr (refused t u c.args.error _ c.in-TooLarge.is h, refl)
