use Rattle.std.proofs.Common.{◌≡◌, ap, sym, ◌∙◌, subst, IfOk, map}
use Rattle.rw_programs.specs.declared.prog.Prog.TheViews as prog
use Rattle.rw_noted.specs.Code.{code_of, code_of_arm}
use Rattle.rw_noted.proofs.CodeParts.{seq_code, do_code, block_code}
use Rattle.rw_noted.proofs.code.+code_of.Goals as goal

pub code_of-returns-in_ok-boxed_code-in-Seq-2 : goal.code_of-returns-in_ok-boxed_code-in-Seq-2
code_of-returns-in_ok-boxed_code-in-Seq-2 t c =
    let first = c.in_ok-boxed_code-in-Seq.ensures ∙ ap code_of c.get.ensures in
    let second = c.in_ok-boxed_code-in-Seq-2.ensures ∙ ap code_of c.get-in-Seq.ensures in
    (λ i. prog.Seq (first i) (second i)) ∙ (sym (seq_code c.in-Seq.first c.in-Seq.second) ∙ ap code_of (sym c.in-Seq.is))

pub code_of-returns-in_ok-arms-in-Do : goal.code_of-returns-in_ok-arms-in-Do
code_of-returns-in_ok-arms-in-Do t c =
    subst (λ d. IfOk c.loop_of.result (λ p. p ≡ d))
    (ap (prog.Do c.in-Do.variant) (c.in_ok-arms-in-Do.ensures ∙ ap (map code_of_arm) c.as_slice-in-Do.ensures) ∙ (sym (do_code c.in-Do.variant c.in-Do.field-1 c.in-Do.arms) ∙ ap code_of (sym c.in-Do.is)))
    c.loop_of.ensures

pub code_of-returns-in_ok-boxed_code-in-Block : goal.code_of-returns-in_ok-boxed_code-in-Block
code_of-returns-in_ok-boxed_code-in-Block t c =
    let body = c.in_ok-boxed_code-in-Block.ensures ∙ ap code_of c.get-in-Block.ensures in
    (λ i. prog.Block (c.copy.ensures i) c.in-Block.sort (body i)) ∙ (sym (block_code c.in-Block.name c.in-Block.sort c.in-Block.body) ∙ ap code_of (sym c.in-Block.is))
