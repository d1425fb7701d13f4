use Rattle.std.proofs.Common.{◌∙◌, ◌++◌, [], ◌∷◌, arith, refl, sym, ap, subst}
use Rattle.std.specs.Prelude.{codes}
use Rattle.std.proofs.lemmas.Result.{err_from_is_err_and}
use Rattle.rw_arith.specs.declared.line.LinLine.TheVariants as sums
use Rattle.rw_forms.specs.Forms.{a_part}
use Rattle.rw_forms.specs.Certificates.{sum_of, sum_part, part_form, part_in}
use Rattle.rw_reader.proofs.RuleItems.{part_item}
use Rattle.rw_forms.proofs.Listing.{Grown, next_item, item_fault, last_item}
use Rattle.rw_reader.proofs.RuleItems.{begun}
use Rattle.rw_reader.proofs.arithmetic.sum.Goals as goal

pub returns-in_err-first-clause-took : goal.returns-in_err-first-clause-took
unfolding sum_of
returns-in_err-first-clause-took c = let p = err_from_is_err_and c.from_residual.result c.from_residual.ensures.1 in rw (p.1, p.2) (λ k. c.in_err-first.ensures.took _)

pub parts-init : goal.parts-init
parts-init c = record {
  place = c.in_ok-first.ensures.took.0;
  on = omega (arith, c.in_ok-first.ensures.on);
  listed = subst (Grown (begun c.args.minus c.args.number) part_form (codes "+") a_part part_in c.args.line.now c.args.at.now c.times.new.at) (sym (c.in_ok-push.ensures.ok ∙ ap (λ l. l ++ c.in_ok-first.first ∷ []) c.new-parts.ensures)) (λ k. c.in_ok-first.ensures.took.1 _);
}

pub accept-requires : goal.accept-requires
accept-requires c = c.parts.invariant.place

pub returns-in_err-next-clause-took : goal.returns-in_err-next-clause-took
unfolding sum_of
returns-in_err-next-clause-took c = let p = err_from_is_err_and c.from_residual-in_err-next.result c.from_residual-in_err-next.ensures.1 in rw (p.1, p.2) (λ k. item_fault (begun c.args.minus c.args.number) part_form (codes "+") sum_part a_part part_in c.args.line.now c.args.at.now c.parts.at c.accept.new.at c.parts.parts _ part_item c.parts.invariant.listed c.parts-test.ensures.chose.1 c.in_err-next.ensures.took (λ ps. k (sums.Sum ps)))

pub parts-smaller : goal.parts-smaller
parts-smaller c = let a = c.parts-test.ensures.further refl in let b = c.in_ok-next.ensures.on in let d = c.in_ok-next.ensures.took.0.within in omega arith

pub parts-preserved : goal.parts-preserved
parts-preserved c = record {
  place = c.in_ok-next.ensures.took.0;
  on = let a = c.parts-test.ensures.further refl in let b = c.in_ok-next.ensures.on in let d = c.parts.invariant.on in omega arith;
  listed = subst (Grown (begun c.args.minus c.args.number) part_form (codes "+") a_part part_in c.args.line.now c.args.at.now c.sum_part.new.at) (sym c.in_ok-push-2.ensures.ok) (next_item (begun c.args.minus c.args.number) part_form (codes "+") sum_part a_part part_in c.args.line.now c.args.at.now c.parts.at c.accept.new.at c.sum_part.new.at c.parts.parts _ part_item c.parts.invariant.listed c.parts-test.ensures.chose.1 c.in_ok-next.ensures.took.1);
}

pub returns-clause-took : goal.returns-clause-took
unfolding sum_of
returns-clause-took c = (c.parts-test.ensures.chose.0, λ k. last_item (begun c.args.minus c.args.number) part_form (codes "+") a_part part_in c.args.line.now c.args.at.now c.parts.at c.accept.new.at c.parts.parts (λ x. refl) c.parts.invariant.listed c.parts-test.ensures.chose.1 (λ ps. k (sums.Sum ps)))
