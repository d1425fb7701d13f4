use Rattle.std.proofs.Common.{◌∙◌, ◌++◌, [], ◌∷◌, arith, refl, sym, ap, subst}
use Rattle.std.proofs.lemmas.Result.{err_from_is_err_and}
use Rattle.rw_forms.specs.Forms.{many, a_formula}
use Rattle.rw_forms.specs.Phrases.{formula, formulas, formula_form, formula_in}
use Rattle.rw_forms.proofs.ListItems.{formula_item}
use Rattle.rw_forms.proofs.Listing.{Listed, first_item, first_fault, next_item, item_fault, last_item}
use Rattle.rw_forms.proofs.value.formulas.Goals as goal

pub returns-in_err-first : goal.returns-in_err-first
unfolding formulas
returns-in_err-first c = let p = err_from_is_err_and c.from_residual.result c.from_residual.ensures.1 in rw (p.1, p.2) ((first_fault (formula_form c.args.most) c.args.separator.now (formula c.args.most) a_formula formula_in c.args.line.now c.args.at.now _ (formula_item c.args.most) c.in_err-first.ensures.took))

pub formulas-init : goal.formulas-init
formulas-init c = record {
  place = c.in_ok-first.ensures.took.0;
  listed = subst (Listed (formula_form c.args.most) c.args.separator.now a_formula formula_in c.args.line.now c.args.at.now c.formula.new.at) (sym (c.in_ok-push.ensures.ok ∙ ap (λ l. l ++ c.into_inner.result ∷ []) c.new-formulas.ensures ∙ ap (λ x. x ∷ []) c.into_inner.ensures)) (first_item (formula_form c.args.most) c.args.separator.now (formula c.args.most) a_formula formula_in c.args.line.now c.args.at.now c.formula.new.at _ (formula_item c.args.most) c.in_ok-first.ensures.took.1);
}

pub accept-requires : goal.accept-requires
accept-requires c = c.formulas.invariant.place

pub returns-in_err-next : goal.returns-in_err-next
unfolding formulas
returns-in_err-next c = let p = err_from_is_err_and c.from_residual-in_err-next.result c.from_residual-in_err-next.ensures.1 in rw (p.1, p.2) ((item_fault (many (formula_form c.args.most) c.args.separator.now) (formula_form c.args.most) c.args.separator.now (formula c.args.most) a_formula formula_in c.args.line.now c.args.at.now c.formulas.at c.accept.new.at c.formulas.formulas _ (formula_item c.args.most) c.formulas.invariant.listed c.formulas-test.ensures.chose.1 c.in_err-next.ensures.took))

pub formulas-smaller : goal.formulas-smaller
formulas-smaller c = let a = c.formulas-test.ensures.further refl in let b = c.in_ok-next.ensures.on in let d = c.in_ok-next.ensures.took.0.within in omega arith

pub formulas-preserved : goal.formulas-preserved
formulas-preserved c = record {
  place = c.in_ok-next.ensures.took.0;
  listed = subst (Listed (formula_form c.args.most) c.args.separator.now a_formula formula_in c.args.line.now c.args.at.now c.formula-in-formulas.new.at) (sym (c.in_ok-push-2.ensures.ok ∙ ap (λ x. c.formulas.formulas ++ x ∷ []) c.into_inner-in-formulas.ensures)) (next_item (many (formula_form c.args.most) c.args.separator.now) (formula_form c.args.most) c.args.separator.now (formula c.args.most) a_formula formula_in c.args.line.now c.args.at.now c.formulas.at c.accept.new.at c.formula-in-formulas.new.at c.formulas.formulas _ (formula_item c.args.most) c.formulas.invariant.listed c.formulas-test.ensures.chose.1 c.in_ok-next.ensures.took.1);
}

pub returns : goal.returns
unfolding formulas
returns c = (c.formulas-test.ensures.chose.0, last_item (many (formula_form c.args.most) c.args.separator.now) (formula_form c.args.most) c.args.separator.now a_formula formula_in c.args.line.now c.args.at.now c.formulas.at c.accept.new.at c.formulas.formulas (λ x. refl) c.formulas.invariant.listed c.formulas-test.ensures.chose.1)
