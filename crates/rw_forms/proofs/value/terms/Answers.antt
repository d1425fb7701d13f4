use Rattle.std.proofs.Common.{◌∙◌, ◌++◌, [], ◌∷◌, arith, refl, sym, ap, subst}
use Rattle.std.specs.Prelude.{codes}
use Rattle.std.proofs.lemmas.Result.{err_from_is_err_and}
use Rattle.rw_forms.specs.Forms.{many, a_term}
use Rattle.rw_forms.specs.Phrases.{term, terms, term_form, term_in}
use Rattle.rw_forms.proofs.ListItems.{term_item}
use Rattle.rw_forms.proofs.Listing.{Listed, first_item, first_fault, next_item, item_fault, last_item}
use Rattle.rw_forms.proofs.value.terms.Goals as goal

pub returns-in_err-first-clause-took : goal.returns-in_err-first-clause-took
unfolding terms
returns-in_err-first-clause-took c = let p = err_from_is_err_and c.from_residual.result c.from_residual.ensures.1 in rw (p.1, p.2) ((first_fault (term_form c.args.most) (codes ",") (term c.args.most) a_term term_in c.args.line.now c.args.at.now _ (term_item c.args.most) c.in_err-first.ensures.took))

pub terms-init : goal.terms-init
terms-init c = record {
  place = c.in_ok-first.ensures.took.0;
  on = c.in_ok-first.ensures.on;
  listed = subst (Listed (term_form c.args.most) (codes ",") a_term term_in c.args.line.now c.args.at.now c.term.new.at) (sym (c.in_ok-push.ensures.ok ∙ ap (λ l. l ++ c.into_inner.result ∷ []) c.new-terms.ensures ∙ ap (λ x. x ∷ []) c.into_inner.ensures)) (first_item (term_form c.args.most) (codes ",") (term c.args.most) a_term term_in c.args.line.now c.args.at.now c.term.new.at _ (term_item c.args.most) c.in_ok-first.ensures.took.1);
}

pub accept-requires : goal.accept-requires
accept-requires c = c.terms.invariant.place

pub returns-in_err-next-clause-took : goal.returns-in_err-next-clause-took
unfolding terms
returns-in_err-next-clause-took c = let p = err_from_is_err_and c.from_residual-in_err-next.result c.from_residual-in_err-next.ensures.1 in rw (p.1, p.2) ((item_fault (many (term_form c.args.most) (codes ",")) (term_form c.args.most) (codes ",") (term c.args.most) a_term term_in c.args.line.now c.args.at.now c.terms.at c.accept.new.at c.terms.terms _ (term_item c.args.most) c.terms.invariant.listed c.terms-test.ensures.chose.1 c.in_err-next.ensures.took))

pub terms-smaller : goal.terms-smaller
terms-smaller c = let a = c.terms-test.ensures.further refl in let b = c.in_ok-next.ensures.on in let d = c.in_ok-next.ensures.took.0.within in omega arith

pub terms-preserved : goal.terms-preserved
terms-preserved c = record {
  place = c.in_ok-next.ensures.took.0;
  on = let a = c.terms-test.ensures.further refl in let b = c.in_ok-next.ensures.on in let d = c.terms.invariant.on in omega arith;
  listed = subst (Listed (term_form c.args.most) (codes ",") a_term term_in c.args.line.now c.args.at.now c.term-in-terms.new.at) (sym (c.in_ok-push-2.ensures.ok ∙ ap (λ x. c.terms.terms ++ x ∷ []) c.into_inner-in-terms.ensures)) (next_item (many (term_form c.args.most) (codes ",")) (term_form c.args.most) (codes ",") (term c.args.most) a_term term_in c.args.line.now c.args.at.now c.terms.at c.accept.new.at c.term-in-terms.new.at c.terms.terms _ (term_item c.args.most) c.terms.invariant.listed c.terms-test.ensures.chose.1 c.in_ok-next.ensures.took.1);
}

pub returns-clause-took : goal.returns-clause-took
unfolding terms
returns-clause-took c = (c.terms-test.ensures.chose.0, last_item (many (term_form c.args.most) (codes ",")) (term_form c.args.most) (codes ",") a_term term_in c.args.line.now c.args.at.now c.terms.at c.accept.new.at c.terms.terms (λ x. refl) c.terms.invariant.listed c.terms-test.ensures.chose.1)
