use Rattle.rw_meaning.proofs.Grow.{levels_grow}
use Rattle.rw_meaning.proofs.laws.growth.Goals as goal

pub returns-clause-sure : goal.returns-clause-sure
returns-clause-sure c = λ E p k j d s le h. (levels_grow E p d k j le).sure s h

pub returns-clause-ends : goal.returns-clause-ends
returns-clause-ends c = λ E p k j d s t le e. (levels_grow E p d k j le).ends s t e

pub returns-clause-same : goal.returns-clause-same
returns-clause-same c = λ E p k j d s t le h e. (levels_grow E p d k j le).same s t h e
