use Rattle.std.proofs.Common.{◌∙◌, ap}
use Rattle.rw_refusals.specs.Entering.{lemma_unknown, lemma_part}
use Rattle.rw_refusals.proofs.EnteringLemmas.{lemma_passed}
use Rattle.rw_refusals.proofs.entering.lemma_refusal.Goals as goal

pub returns : goal.returns
returns c =
    lemma_passed c.args.entries.now c.args.lemma.now c.as_slice-params.result.now c.in_ok-heads.heads _ _ _ _ _ _ _
    c.as_slice-params.ensures c.in_ok-heads.ensures
    (c.lemma_unknown.ensures ∙ ap (λ hs. lemma_unknown hs c.args.lemma.now) c.as_slice.ensures) c.in_default.is c.has_definition.ensures c.duplicate.ensures c.in_default-duplicate.is
    (c.in_ok-part.ensures ∙ ap (λ hs. lemma_part hs c.args.lemma.now) c.as_slice-2.ensures) c.in_default-2.is c.is_light_lemma-light.ensures c.is_shallow_lemma-shallow.ensures c.entry_limit.ensures
