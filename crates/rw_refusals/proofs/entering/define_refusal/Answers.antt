use Rattle.rw_refusals.proofs.EnteringLemmas.{define_passed}
use Rattle.std.proofs.Common.{◌∙◌}
use Rattle.rw_refusals.proofs.entering.define_refusal.Goals as goal

pub returns : goal.returns
returns c =
    define_passed c.args.entries.now c.args.definition.now c.as_slice-params.result.now c.in_ok-scope.scope c.as_slice-heads.result.now _ _ _ _ _ _ _
    c.as_slice-params.ensures c.in_ok-scope.ensures (c.as_slice-heads.ensures ∙ c.in_ok-heads.ensures)
    c.unknown_in.ensures c.in_default.is c.has_lemma.ensures c.duplicate.ensures c.in_default-duplicate.is
    c.in_ok-is_ill_formed.ensures c.if-branch.false c.is_light-light.ensures c.is_shallow-shallow.ensures c.entry_limit.ensures
