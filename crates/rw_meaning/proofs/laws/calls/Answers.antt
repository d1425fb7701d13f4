use Rattle.rw_meaning.proofs.CallRows.{call_ends_row, call_sure_row}
use Rattle.rw_meaning.proofs.laws.calls.Goals as goal

pub returns-clause-ends : goal.returns-clause-ends
returns-clause-ends c = call_ends_row

pub returns-clause-sure : goal.returns-clause-sure
returns-clause-sure c = call_sure_row
