use Rattle.std.proofs.Common.{◌≡◌, ◌∙◌, ap, subst}
use Rattle.std.specs.Prelude.{IfOk}
use Rattle.rw_edit_tests.specs.Refusals.{root_refusal}
use Rattle.rw_library.specs.Entries.{heads_of}
use Rattle.rw_accepting.proofs.early.refusal_of_root.Goals as goal

pub returns : goal.returns
returns c =
    subst (λ globals. IfOk c.root_refusal.result (λ refusal. refusal ≡ root_refusal globals (heads_of c.args.parts.now.library.entries) c.args.spec.now)) c.as_slice-2.ensures
    (subst (λ heads. IfOk c.root_refusal.result (λ refusal. refusal ≡ root_refusal c.as_slice-2.result.now heads c.args.spec.now)) (c.as_slice-3.ensures ∙ c.in_ok-heads.ensures ∙ ap heads_of c.as_slice.ensures) c.root_refusal.ensures)
