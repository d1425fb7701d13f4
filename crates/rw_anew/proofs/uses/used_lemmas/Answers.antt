use Rattle.rw_anew.proofs.RoundLemmas.{used_told}
use Rattle.rw_anew.proofs.uses.used_lemmas.Goals as goal

pub returns : goal.returns
returns c = λ most l good made is.
    used_told most l c.args.parts.now good made c.as_slice-entries.result.now c.as_slice-proofs.result.now c.in_ok-marks.marks c.as_slice.result.now c.args.lemmas.now c.in_ok-used.used
    c.as_slice-entries.ensures c.as_slice-proofs.ensures c.as_slice.ensures c.in_ok-marks.ensures c.in_ok-used.ensures is
