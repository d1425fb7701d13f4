use Rattle.std.proofs.Common.{ap, sym, subst, ◌≡◌, ◌∙◌, [], ◌∷◌}
use Rattle.std.specs.Prelude.{IfOk}
use Rattle.rw_numbering.specs.Tallies.{joined, tally_of, arm_tallies}
use Rattle.rw_numbering.proofs.Tallied.{seq_tally, if_tally, do_tally, block_tally, con_tally, module_tally}
use Rattle.rw_numbering.proofs.tally.+tally_of.Goals as goal

pub tally_of-returns-in_ok-right-in-Seq : goal.tally_of-returns-in_ok-right-in-Seq
tally_of-returns-in_ok-right-in-Seq t c =
    let left = c.in_ok-left-in-Seq.ensures ∙ ap tally_of c.get.ensures in
    let right = c.in_ok-right-in-Seq.ensures ∙ ap tally_of c.get-in-Seq.ensures in
    subst (λ x. IfOk c.joined_two.result (λ t. t ≡ x))
    (ap (λ x. joined 0 (x ∷ c.in_ok-right-in-Seq.right ∷ [])) left ∙ ap (λ x. joined 0 (tally_of c.in-Seq.first ∷ x ∷ [])) right
    ∙ sym (ap tally_of c.in-Seq.is ∙ seq_tally c.in-Seq.first c.in-Seq.second)) c.joined_two.ensures

pub tally_of-returns-in_ok-arm_tallies-in-If : goal.tally_of-returns-in_ok-arm_tallies-in-If
tally_of-returns-in_ok-arm_tallies-in-If t c =
    subst (λ x. IfOk c.joined-in-If.result (λ t. t ≡ x))
    (ap (joined 0) (c.in_ok-arm_tallies-in-If.ensures ∙ ap arm_tallies c.as_slice.ensures) ∙ sym (ap tally_of c.in-If.is ∙ if_tally c.in-If.arms)) c.joined-in-If.ensures

pub tally_of-returns-in_ok-arm_tallies-in-Do : goal.tally_of-returns-in_ok-arm_tallies-in-Do
tally_of-returns-in_ok-arm_tallies-in-Do t c =
    subst (λ x. IfOk c.joined-in-Do.result (λ t. t ≡ x))
    (ap (joined 1) (c.in_ok-arm_tallies-in-Do.ensures ∙ ap arm_tallies c.as_slice-in-Do.ensures) ∙ sym (ap tally_of c.in-Do.is ∙ do_tally c.in-Do.field-0 c.in-Do.arms)) c.joined-in-Do.ensures

pub tally_of-returns-in_ok-tally_of-in-Block : goal.tally_of-returns-in_ok-tally_of-in-Block
tally_of-returns-in_ok-tally_of-in-Block t c =
    subst (λ x. IfOk c.around.result (λ t. t ≡ x))
    (ap (λ x. joined 0 (x ∷ [])) (c.in_ok-tally_of-in-Block.ensures ∙ ap tally_of c.get-in-Block.ensures)
    ∙ sym (ap tally_of c.in-Block.is ∙ block_tally c.in-Block.field-0 c.in-Block.field-1 c.in-Block.body)) c.around.ensures

pub tally_of-returns-in_ok-tally_of-in-Con : goal.tally_of-returns-in_ok-tally_of-in-Con
tally_of-returns-in_ok-tally_of-in-Con t c =
    subst (λ x. IfOk c.around-in-Con.result (λ t. t ≡ x))
    (ap (λ x. joined 0 (x ∷ [])) (c.in_ok-tally_of-in-Con.ensures ∙ ap tally_of c.get-in-Con.ensures)
    ∙ sym (ap tally_of c.in-Con.is ∙ con_tally c.in-Con.field-0 c.in-Con.body)) c.around-in-Con.ensures

pub tally_of-returns-in_ok-tally_of-in-ModBlock : goal.tally_of-returns-in_ok-tally_of-in-ModBlock
tally_of-returns-in_ok-tally_of-in-ModBlock t c =
    subst (λ x. IfOk c.around-in-ModBlock.result (λ t. t ≡ x))
    (ap (λ x. joined 0 (x ∷ [])) (c.in_ok-tally_of-in-ModBlock.ensures ∙ ap tally_of c.get-in-ModBlock.ensures)
    ∙ sym (ap tally_of c.in-ModBlock.is ∙ module_tally c.in-ModBlock.field-0 c.in-ModBlock.body)) c.around-in-ModBlock.ensures
