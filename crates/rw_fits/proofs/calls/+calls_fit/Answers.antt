use Rattle.std.proofs.Common.{◌≡◌, ap, sym, ◌∙◌, ◌&&◌, true, false, Some, None, subst, IfOk}
use Rattle.std.specs.Prelude.{nat_lt}
use Rattle.rw_programs.specs.Tables.{find_module}
use Rattle.rw_programs.specs.Scoped.{with_local, if_some}
use Rattle.rw_machine.specs.CodeFits.{calls_fit}
use Rattle.rw_fits.specs.Fits.{arms_calls_fit}
use Rattle.rw_fits.proofs.CallParts.{seq_calls, do_calls, block_calls, con_calls, module_calls}
use Rattle.rw_fits.proofs.calls.+calls_fit.Goals as goal

pub calls_fit-returns-then-not-branch : goal.calls_fit-returns-then-not-branch
calls_fit-returns-then-not-branch t c =
    let k = c.args.code.now in let p = c.args.place in let s = c.args.scope.now in
    let first : calls_fit k p s c.in-Seq.first ≡ false = sym (ap (calls_fit k p s) c.get.ensures) ∙ (sym c.in_ok-calls_fit-in-Seq.ensures ∙ c.if-not-branch.true) in
    sym (ap (calls_fit k p s) c.in-Seq.is ∙ seq_calls k p s c.in-Seq.first c.in-Seq.second ∙ ap (λ b. b && calls_fit k p s c.in-Seq.second) first)

pub calls_fit-returns-else-not-branch : goal.calls_fit-returns-else-not-branch
calls_fit-returns-else-not-branch t c =
    let k = c.args.code.now in let p = c.args.place in let s = c.args.scope.now in
    let first : calls_fit k p s c.in-Seq.first ≡ true = sym (ap (calls_fit k p s) c.get.ensures) ∙ (sym c.in_ok-calls_fit-in-Seq.ensures ∙ c.if-not-branch.false) in
    subst (λ v. IfOk c.calls_fit-in-Seq.result (λ x. x ≡ v))
    (ap (calls_fit k p s) c.get-in-Seq.ensures ∙ (ap (λ b. b && calls_fit k p s c.in-Seq.second) (sym first) ∙ (sym (seq_calls k p s c.in-Seq.first c.in-Seq.second) ∙ ap (calls_fit k p s) (sym c.in-Seq.is))))
    c.calls_fit-in-Seq.ensures

pub calls_fit-returns-in-Do : goal.calls_fit-returns-in-Do
calls_fit-returns-in-Do t c =
    let k = c.args.code.now in let p = c.args.place in let s = c.args.scope.now in
    subst (λ v. IfOk c.arms_calls_fit-in-Do.result (λ x. x ≡ v))
    (ap (arms_calls_fit k p s) c.as_slice-in-Do.ensures ∙ (sym (do_calls k p s c.in-Do.field-0 c.in-Do.arms) ∙ ap (calls_fit k p s) (sym c.in-Do.is)))
    c.arms_calls_fit-in-Do.ensures

pub calls_fit-returns-in-Some : goal.calls_fit-returns-in-Some
calls_fit-returns-in-Some t c =
    let k = c.args.code.now in let p = c.args.place in let s = c.args.scope.now in
    let there : with_local s c.in-Block.name c.in-Block.sort ≡ Some c.in-Some.inner = sym c.in_ok-inner-in-Block.ensures ∙ c.in-Some.is in
    subst (λ v. IfOk c.calls_fit-in-Some.result (λ x. x ≡ v))
    (ap (calls_fit k p c.in-Some.inner) c.get-in-Some.ensures ∙ (ap (if_some (λ i. calls_fit k p i c.in-Block.body)) (sym there)
    ∙ (sym (block_calls k p s c.in-Block.name c.in-Block.sort c.in-Block.body) ∙ ap (calls_fit k p s) (sym c.in-Block.is))))
    c.calls_fit-in-Some.ensures

pub calls_fit-returns-in-None : goal.calls_fit-returns-in-None
calls_fit-returns-in-None t c =
    let k = c.args.code.now in let p = c.args.place in let s = c.args.scope.now in
    let there : with_local s c.in-Block.name c.in-Block.sort ≡ None = sym c.in_ok-inner-in-Block.ensures ∙ c.in-None.is in
    sym (ap (calls_fit k p s) c.in-Block.is ∙ block_calls k p s c.in-Block.name c.in-Block.sort c.in-Block.body ∙ ap (if_some (λ i. calls_fit k p i c.in-Block.body)) there)

pub calls_fit-returns-in-Con : goal.calls_fit-returns-in-Con
calls_fit-returns-in-Con t c =
    let k = c.args.code.now in let p = c.args.place in let s = c.args.scope.now in
    subst (λ v. IfOk c.calls_fit-in-Con.result (λ x. x ≡ v))
    (ap (calls_fit k p s) c.get-in-Con.ensures ∙ (sym (con_calls k p s c.in-Con.field-0 c.in-Con.body) ∙ ap (calls_fit k p s) (sym c.in-Con.is)))
    c.calls_fit-in-Con.ensures

pub calls_fit-returns-then-not-module_below : goal.calls_fit-returns-then-not-module_below
calls_fit-returns-then-not-module_below t c =
    let k = c.args.code.now in let p = c.args.place in let s = c.args.scope.now in
    let below : if_some (λ d. nat_lt d.place p) (find_module c.in-ModBlock.name k.modules) ≡ false = sym c.module_below.ensures ∙ c.if-not-module_below.true in
    sym (ap (calls_fit k p s) c.in-ModBlock.is ∙ module_calls k p s c.in-ModBlock.name c.in-ModBlock.body ∙ ap (λ b. b && calls_fit k p s c.in-ModBlock.body) below)

pub calls_fit-returns-else-not-module_below : goal.calls_fit-returns-else-not-module_below
calls_fit-returns-else-not-module_below t c =
    let k = c.args.code.now in let p = c.args.place in let s = c.args.scope.now in
    let below : if_some (λ d. nat_lt d.place p) (find_module c.in-ModBlock.name k.modules) ≡ true = sym c.module_below.ensures ∙ c.if-not-module_below.false in
    subst (λ v. IfOk c.calls_fit-in-ModBlock.result (λ x. x ≡ v))
    (ap (calls_fit k p s) c.get-in-ModBlock.ensures ∙ (ap (λ b. b && calls_fit k p s c.in-ModBlock.body) (sym below)
    ∙ (sym (module_calls k p s c.in-ModBlock.name c.in-ModBlock.body) ∙ ap (calls_fit k p s) (sym c.in-ModBlock.is))))
    c.calls_fit-in-ModBlock.ensures
