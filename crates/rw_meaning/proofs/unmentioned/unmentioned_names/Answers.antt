use Rattle.rw_meaning.proofs.Ignoring.{names_keep, names_end, names_sure}
use Rattle.rw_meaning.proofs.unmentioned.unmentioned_names.Goals as goal

pub returns-clause-keeps : goal.returns-clause-keeps
returns-clause-keeps c = names_keep

pub returns-clause-ends : goal.returns-clause-ends
returns-clause-ends c = names_end

pub returns-clause-sure : goal.returns-clause-sure
returns-clause-sure c = names_sure
