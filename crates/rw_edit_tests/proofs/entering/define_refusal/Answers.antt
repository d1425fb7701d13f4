use Rattle.std.proofs.Common.{◌∙◌, ap}
use Rattle.rw_edit_tests.specs.Entering.{define_unknown, define_part, define_refusal}
use Rattle.rw_edit_tests.proofs.InOrder.{told}
use Rattle.rw_edit_tests.proofs.entering.define_refusal.Goals as goal

pub returns : goal.returns
unfolding define_refusal
returns c =
    told (c.define_unknown.ensures ∙ ap (λ hs. define_unknown hs c.args.definition.now) (c.as_slice-2.ensures ∙ c.in_ok-heads.ensures)) c.in_default.is
    c.define_duplicate.ensures c.in_default-define_duplicate.is
    (c.in_ok-part.ensures ∙ ap (λ hs. define_part hs c.args.definition.now) (c.as_slice-3.ensures ∙ c.in_ok-heads.ensures)) c.in_default-2.is c.define_limit.ensures
