use Rattle.std.proofs.Common.{◌∙◌, ◌++◌, [], ◌∷◌, arith, refl, sym, ap, subst}
use Rattle.std.specs.Prelude.{codes}
use Rattle.std.proofs.lemmas.Result.{err_from_is_err_and}
use Rattle.rw_forms.specs.Forms.{many, a_sum}
use Rattle.rw_forms.specs.Certificates.{closed_line, closed_lines, lin_form, lin_in}
use Rattle.rw_reader.proofs.RuleItems.{sum_item}
use Rattle.rw_forms.proofs.Listing.{Listed, first_item, first_fault, next_item, item_fault, last_item}
use Rattle.rw_reader.proofs.arithmetic.closed_lines.Goals as goal

pub returns-in_err-first-clause-took : goal.returns-in_err-first-clause-took
unfolding closed_lines
returns-in_err-first-clause-took c = let p = err_from_is_err_and c.from_residual.result c.from_residual.ensures.1 in rw (p.1, p.2) ((first_fault lin_form (codes "[") closed_line a_sum lin_in c.args.line.now c.args.at.now _ sum_item c.in_err-first.ensures.took))

pub lines-init : goal.lines-init
lines-init c = record {
  place = c.in_ok-first.ensures.took.0;
  on = omega (arith, c.in_ok-first.ensures.on);
  listed = subst (Listed lin_form (codes "[") a_sum lin_in c.args.line.now c.args.at.now c.closed_line.new.at) (sym (c.in_ok-push.ensures.ok ∙ ap (λ l. l ++ c.in_ok-first.first ∷ []) c.new-lines.ensures)) (first_item lin_form (codes "[") closed_line a_sum lin_in c.args.line.now c.args.at.now c.closed_line.new.at _ sum_item c.in_ok-first.ensures.took.1);
}

pub accept-requires : goal.accept-requires
accept-requires c = c.lines.invariant.place

pub returns-in_err-next-clause-took : goal.returns-in_err-next-clause-took
unfolding closed_lines
returns-in_err-next-clause-took c = let p = err_from_is_err_and c.from_residual-in_err-next.result c.from_residual-in_err-next.ensures.1 in rw (p.1, p.2) ((item_fault (many lin_form (codes "[")) lin_form (codes "[") closed_line a_sum lin_in c.args.line.now c.args.at.now c.lines.at c.accept.new.at c.lines.lines _ sum_item c.lines.invariant.listed c.lines-test.ensures.chose.1 c.in_err-next.ensures.took))

pub lines-smaller : goal.lines-smaller
lines-smaller c = let a = c.lines-test.ensures.further refl in let b = c.in_ok-next.ensures.on in let d = c.in_ok-next.ensures.took.0.within in omega arith

pub lines-preserved : goal.lines-preserved
lines-preserved c = record {
  place = c.in_ok-next.ensures.took.0;
  on = let a = c.lines-test.ensures.further refl in let b = c.in_ok-next.ensures.on in let d = c.lines.invariant.on in omega arith;
  listed = subst (Listed lin_form (codes "[") a_sum lin_in c.args.line.now c.args.at.now c.closed_line-in-lines.new.at) (sym (c.in_ok-push-2.ensures.ok)) (next_item (many lin_form (codes "[")) lin_form (codes "[") closed_line a_sum lin_in c.args.line.now c.args.at.now c.lines.at c.accept.new.at c.closed_line-in-lines.new.at c.lines.lines _ sum_item c.lines.invariant.listed c.lines-test.ensures.chose.1 c.in_ok-next.ensures.took.1);
}

pub returns-clause-took : goal.returns-clause-took
unfolding closed_lines
returns-clause-took c = (c.lines-test.ensures.chose.0, last_item (many lin_form (codes "[")) lin_form (codes "[") a_sum lin_in c.args.line.now c.args.at.now c.lines.at c.accept.new.at c.lines.lines (λ x. refl) c.lines.invariant.listed c.lines-test.ensures.chose.1)
