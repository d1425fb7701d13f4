use Rattle.std.proofs.Common.{◌∙◌, ap}
use Rattle.rw_edit_tests.specs.Entering.{lemma_unknown, lemma_part, lemma_refusal}
use Rattle.rw_edit_tests.proofs.InOrder.{told}
use Rattle.rw_edit_tests.proofs.entering.lemma_refusal.Goals as goal

pub returns : goal.returns
unfolding lemma_refusal
returns c =
    told (c.lemma_unknown.ensures ∙ ap (λ hs. lemma_unknown hs c.args.lemma.now) (c.as_slice-2.ensures ∙ c.in_ok-heads.ensures)) c.in_default.is
    c.lemma_duplicate.ensures c.in_default-lemma_duplicate.is
    (c.in_ok-part.ensures ∙ ap (λ hs. lemma_part hs c.args.lemma.now) (c.as_slice-3.ensures ∙ c.in_ok-heads.ensures)) c.in_default-2.is c.lemma_limit.ensures
