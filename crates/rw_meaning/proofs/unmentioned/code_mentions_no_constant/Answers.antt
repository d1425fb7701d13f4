use Rattle.rw_meaning.proofs.CodeNames.{code_off}
use Rattle.rw_meaning.proofs.unmentioned.code_mentions_no_constant.Goals as goal

pub returns : goal.returns
returns c = λ brings opened scope d code ok x con out. code_off brings x opened scope d code ok out con
