use Rattle.rw_meaning.proofs.Past.{past_ends, past_sure}
use Rattle.rw_meaning.proofs.laws.places_past_all.Goals as goal

pub returns-clause-ends : goal.returns-clause-ends
returns-clause-ends c = λ E p q k j d s t l m. past_ends E p k q j l m d s t

pub returns-clause-sure : goal.returns-clause-sure
returns-clause-sure c = λ E p q k j d s l m. past_sure E p k q j l m d s
