use Rattle.rw_accepting.proofs.Same.{refusal_same}
use Rattle.rw_accepting.proofs.laws.told_from_parts.Goals as goal

pub returns : goal.returns
returns c = λ most l parts e good m. refusal_same most l parts good m e
