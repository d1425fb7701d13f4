use Rattle.rw_http.proofs.OneAnswer.{gives_unique}
use Rattle.rw_http.proofs.laws.one_answer.Goals as goal

pub returns : goal.returns
returns c = gives_unique
