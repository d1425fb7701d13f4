use Rattle.std.proofs.Common.{◌≡◌, ap, sym, ◌∙◌, ◌&&◌, true, Some, [], subst, IfOk}
use Rattle.rw_terms.specs.declared.term.Sort.TheVariants.{Int}
use Rattle.rw_terms.specs.Rules.{sort_in, is_of}
use Rattle.rw_programs.specs.Scoped.{with_local, with_pins, with_module, if_some, is_scoped, arms_scoped}
use Rattle.rw_programs.proofs.ScopedParts.{seq_scoped, block_scoped, con_scoped, module_scoped, do_scoped}
use Rattle.rw_programs.proofs.scoped.+is_scoped.Goals as goal

pub is_scoped-returns-else-not-branch : goal.is_scoped-returns-else-not-branch
is_scoped-returns-else-not-branch t c =
    let o = c.args.opened.now in let s = c.args.scope.now in
    let first : is_scoped o s c.in-Seq.first ≡ true = sym (ap (is_scoped o s) c.get.ensures) ∙ (sym c.in_ok-is_scoped-in-Seq.ensures ∙ c.if-not-branch.false) in
    subst (λ v. IfOk c.is_scoped-in-Seq.result (λ x. x ≡ v))
    (ap (is_scoped o s) c.get-in-Seq.ensures ∙ (ap (λ b. b && is_scoped o s c.in-Seq.second) (sym first) ∙ (sym (seq_scoped o s c.in-Seq.first c.in-Seq.second) ∙ ap (is_scoped o s) (sym c.in-Seq.is))))
    c.is_scoped-in-Seq.ensures

pub is_scoped-returns-else-not-is_of : goal.is_scoped-returns-else-not-is_of
is_scoped-returns-else-not-is_of t c =
    let o = c.args.opened.now in let s = c.args.scope.now in
    let first : is_of Int (sort_in s [] c.in-Do.variant) ≡ true = sym (ap (is_of Int) c.sort_in.ensures) ∙ (sym c.is_of.ensures ∙ c.if-not-is_of.false) in
    subst (λ v. IfOk c.arms_scoped-in-Do.result (λ x. x ≡ v))
    (ap (arms_scoped o s) c.as_slice-in-Do.ensures ∙ (ap (λ b. b && arms_scoped o s c.in-Do.arms) (sym first) ∙ (sym (do_scoped o s c.in-Do.variant c.in-Do.arms) ∙ ap (is_scoped o s) (sym c.in-Do.is))))
    c.arms_scoped-in-Do.ensures

pub is_scoped-returns-in-Some : goal.is_scoped-returns-in-Some
is_scoped-returns-in-Some t c =
    let o = c.args.opened.now in let s = c.args.scope.now in
    let there : with_local s c.in-Block.name c.in-Block.sort ≡ Some c.in-Some.inner = sym c.in_ok-inner-in-Block.ensures ∙ c.in-Some.is in
    subst (λ v. IfOk c.is_scoped-in-Some.result (λ x. x ≡ v))
    (ap (is_scoped o c.in-Some.inner) c.get-in-Some.ensures ∙ (ap (if_some (λ i. is_scoped o i c.in-Block.body)) (sym there)
    ∙ (sym (block_scoped o s c.in-Block.name c.in-Block.sort c.in-Block.body) ∙ ap (is_scoped o s) (sym c.in-Block.is))))
    c.is_scoped-in-Some.ensures

pub is_scoped-returns-in-Some-2 : goal.is_scoped-returns-in-Some-2
is_scoped-returns-in-Some-2 t c =
    let o = c.args.opened.now in let s = c.args.scope.now in
    let there : with_pins s s c.in-Con.pins ≡ Some c.in-Some-2.inner = ap (with_pins s s) (sym c.as_slice-in-Con.ensures) ∙ (sym c.in_ok-inner-in-Con.ensures ∙ c.in-Some-2.is) in
    subst (λ v. IfOk c.is_scoped-in-Some-2.result (λ x. x ≡ v))
    (ap (is_scoped o c.in-Some-2.inner) c.get-in-Some-2.ensures ∙ (ap (if_some (λ i. is_scoped o i c.in-Con.body)) (sym there)
    ∙ (sym (con_scoped o s c.in-Con.pins c.in-Con.body) ∙ ap (is_scoped o s) (sym c.in-Con.is))))
    c.is_scoped-in-Some-2.ensures

pub is_scoped-returns-in-Some-3 : goal.is_scoped-returns-in-Some-3
is_scoped-returns-in-Some-3 t c =
    let o = c.args.opened.now in let s = c.args.scope.now in
    let there : with_module o c.in-ModBlock.home ≡ Some c.in-Some-3.inner = sym c.in_ok-inner-in-ModBlock.ensures ∙ c.in-Some-3.is in
    subst (λ v. IfOk c.is_scoped-in-Some-3.result (λ x. x ≡ v))
    (ap (λ l. is_scoped l s c.get-in-Some-3.result.now) c.as_slice-in-Some-3.ensures ∙ (ap (is_scoped c.in-Some-3.inner s) c.get-in-Some-3.ensures ∙ (ap (if_some (λ l. is_scoped l s c.in-ModBlock.body)) (sym there)
    ∙ (sym (module_scoped o s c.in-ModBlock.home c.in-ModBlock.body) ∙ ap (is_scoped o s) (sym c.in-ModBlock.is)))))
    c.is_scoped-in-Some-3.ensures
