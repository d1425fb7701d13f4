use Rattle.rw_http.proofs.RequestLemmas.{gives_kept}
use Rattle.rw_http.proofs.laws.more_bytes_keep_it.Goals as goal

pub returns : goal.returns
returns c = gives_kept
