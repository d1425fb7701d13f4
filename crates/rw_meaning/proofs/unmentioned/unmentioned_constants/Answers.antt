use Rattle.rw_meaning.proofs.Ignoring.{constants_end, constants_sure}
use Rattle.rw_meaning.proofs.unmentioned.unmentioned_constants.Goals as goal

pub returns-clause-ends : goal.returns-clause-ends
returns-clause-ends c = λ E p k pins d none s t new. constants_end E p k pins d none s new t

pub returns-clause-sure : goal.returns-clause-sure
returns-clause-sure c = λ E p k pins d none s new. constants_sure E p k pins d none s new
