use Rattle.rw_meaning.proofs.CallRows.{module_ends_row, module_sure_row}
use Rattle.rw_meaning.proofs.laws.module_blocks.Goals as goal

pub returns-clause-ends : goal.returns-clause-ends
returns-clause-ends c = module_ends_row

pub returns-clause-sure : goal.returns-clause-sure
returns-clause-sure c = module_sure_row
