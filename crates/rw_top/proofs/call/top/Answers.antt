use Rattle.std.proofs.Common.{ap, Err}
use Rattle.rw_top.proofs.Complete.{never_short}
use Rattle.rw_project.proofs.Shown.{headline}
use Rattle.rw_top.proofs.call.top.Goals as goal

pub returns-in-Err-LineLimit-clause-complete : goal.returns-in-Err-LineLimit-clause-complete
returns-in-Err-LineLimit-clause-complete g c = λ asks reads writes fits.
    let moves = c.in-Err-LineLimit.ensures.limit (ap Err c.in-Err-LineLimit.field-0-is) in
    absurd (never_short _ _ _ _ moves.0 moves.1 moves.2 fits)

pub returns-then-not-asks_batch-clause-headline : goal.returns-then-not-asks_batch-clause-headline
returns-then-not-asks_batch-clause-headline g c = headline

pub returns-in-Ok-true-clause-headline : goal.returns-in-Ok-true-clause-headline
returns-in-Ok-true-clause-headline g c = headline

pub returns-in-Ok-false-clause-headline : goal.returns-in-Ok-false-clause-headline
returns-in-Ok-false-clause-headline g c = headline

pub returns-in-Err-ReadFault-clause-headline : goal.returns-in-Err-ReadFault-clause-headline
returns-in-Err-ReadFault-clause-headline g c = headline

pub returns-in-Err-WriteFault-clause-headline : goal.returns-in-Err-WriteFault-clause-headline
returns-in-Err-WriteFault-clause-headline g c = headline

pub returns-in-Err-Memory-clause-headline : goal.returns-in-Err-Memory-clause-headline
returns-in-Err-Memory-clause-headline g c = headline

pub returns-in-Err-LineLimit-clause-headline : goal.returns-in-Err-LineLimit-clause-headline
returns-in-Err-LineLimit-clause-headline g c = headline
