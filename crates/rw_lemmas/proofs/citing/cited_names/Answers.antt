use Rattle.std.proofs.Common.{◌+◌, ◌∙◌, ap, drop}
use Rattle.rw_lemmas.specs.Citing.{names_in_all, with_names}
use Rattle.rw_lemmas.proofs.Names.{names_step}
use Rattle.rw_lemmas.proofs.citing.cited_names.Goals as goal

pub loop-line-preserved : goal.loop-line-preserved
loop-line-preserved c =
    ap (λ s. with_names s (names_in_all c.has_unfolding-unfolds.result (drop (c.loop-line.line-index + 1) c.as_slice-lines.result.now))) c.in_ok-add_names_in.ensures
    ∙ names_step c.has_unfolding-unfolds.result c.as_slice-lines.result.now c.loop-line.line-index c.line-item.result c.loop-line.names c.loop-line-test.true c.line-item.is
    ∙ c.loop-line.invariant
