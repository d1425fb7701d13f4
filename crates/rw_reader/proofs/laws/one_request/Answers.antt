use Rattle.rw_reader.proofs.Lines.{one_request}
use Rattle.rw_reader.proofs.laws.one_request.Goals as goal

pub returns : goal.returns
returns c = one_request
