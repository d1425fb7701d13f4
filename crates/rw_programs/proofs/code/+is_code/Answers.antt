use Rattle.std.proofs.Common.{ap, sym, ◌∙◌, ◌&&◌}
use Rattle.rw_programs.specs.CodeTest.{is_code, arms_are_code, is_plain}
use Rattle.rw_programs.proofs.Coded.{seq_code, block_code, module_code, do_code}
use Rattle.rw_programs.proofs.code.+is_code.Goals as goal

pub is_code-returns-then-is_code : goal.is_code-returns-then-is_code
is_code-returns-then-is_code t c =
    c.is_code-then-is_code.ensures ∙ (ap is_code c.get-then-is_code.ensures ∙ (ap (λ b. b && is_code c.in-Seq.second) (sym c.if-is_code.true ∙ (c.is_code.ensures ∙ ap is_code c.get.ensures)) ∙ (sym (seq_code _ _) ∙ ap is_code (sym c.in-Seq.is))))

pub is_code-returns-then-is_plain : goal.is_code-returns-then-is_plain
is_code-returns-then-is_plain t c =
    c.are_code-then-is_plain.ensures ∙ (ap arms_are_code c.as_slice-then-is_plain.ensures ∙ (ap (λ b. b && arms_are_code c.in-Do.arms) (sym c.if-is_plain.true ∙ c.is_plain.ensures) ∙ (sym (do_code _ _) ∙ ap is_code (sym c.in-Do.is))))

pub is_code-returns-in-Block : goal.is_code-returns-in-Block
is_code-returns-in-Block t c = c.is_code-in-Block.ensures ∙ (ap is_code c.get-in-Block.ensures ∙ (sym (block_code c.in-Block.field-0 c.in-Block.field-1 _) ∙ ap is_code (sym c.in-Block.is)))

pub is_code-returns-in-ModBlock : goal.is_code-returns-in-ModBlock
is_code-returns-in-ModBlock t c = c.is_code-in-ModBlock.ensures ∙ (ap is_code c.get-in-ModBlock.ensures ∙ (sym (module_code c.in-ModBlock.field-0 _) ∙ ap is_code (sym c.in-ModBlock.is)))
