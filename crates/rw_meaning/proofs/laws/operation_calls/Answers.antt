use Rattle.rw_meaning.proofs.CallRows.{op_ends_row, op_sure_row}
use Rattle.rw_meaning.proofs.laws.operation_calls.Goals as goal

pub returns-clause-ends : goal.returns-clause-ends
returns-clause-ends c = op_ends_row

pub returns-clause-sure : goal.returns-clause-sure
returns-clause-sure c = op_sure_row
