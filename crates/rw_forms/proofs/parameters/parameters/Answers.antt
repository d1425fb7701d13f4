use Rattle.std.proofs.Common.{◌∙◌, ◌++◌, [], ◌∷◌, arith, refl, sym, ap, subst}
use Rattle.std.specs.Prelude.{codes}
use Rattle.std.proofs.lemmas.Result.{err_from_is_err_and}
use Rattle.rw_forms.specs.Phrases.{parameters, parameter, parameter_form, parameter_in}
use Rattle.rw_forms.specs.Forms.{many, a_parameter}
use Rattle.rw_forms.proofs.ListItems.{parameter_item}
use Rattle.rw_forms.proofs.Listing.{Listed, first_item, first_fault, next_item, item_fault, last_item}
use Rattle.rw_forms.proofs.parameters.parameters.Goals as goal

pub returns-in_err-first : goal.returns-in_err-first
unfolding parameters
returns-in_err-first c = let p = err_from_is_err_and c.from_residual.result c.from_residual.ensures.1 in rw (p.1, p.2) (first_fault parameter_form (codes ",") parameter a_parameter parameter_in c.args.line.now c.args.at.now _ parameter_item c.in_err-first.ensures.took)

pub parameters-init : goal.parameters-init
parameters-init c = record {
  place = c.in_ok-first.ensures.took.0;
  listed = subst (Listed parameter_form (codes ",") a_parameter parameter_in c.args.line.now c.args.at.now c.parameter.new.at) (sym (c.in_ok-push.ensures.ok ∙ ap (λ l. l ++ c.in_ok-first.first ∷ []) c.new-params.ensures)) (first_item parameter_form (codes ",") parameter a_parameter parameter_in c.args.line.now c.args.at.now c.parameter.new.at c.in_ok-first.first parameter_item c.in_ok-first.ensures.took.1);
}

pub accept-requires : goal.accept-requires
accept-requires c = c.parameters.invariant.place

pub returns-in_err-next : goal.returns-in_err-next
unfolding parameters
returns-in_err-next c = let p = err_from_is_err_and c.from_residual-in_err-next.result c.from_residual-in_err-next.ensures.1 in rw (p.1, p.2) (item_fault (many parameter_form (codes ",")) parameter_form (codes ",") parameter a_parameter parameter_in c.args.line.now c.args.at.now c.parameters.at c.accept.new.at c.parameters.params _ parameter_item c.parameters.invariant.listed c.parameters-test.ensures.chose.1 c.in_err-next.ensures.took)

pub parameters-smaller : goal.parameters-smaller
parameters-smaller c = let a = c.parameters-test.ensures.further refl in let b = c.in_ok-next.ensures.on in let d = c.in_ok-next.ensures.took.0.within in omega arith

pub parameters-preserved : goal.parameters-preserved
parameters-preserved c = record {
  place = c.in_ok-next.ensures.took.0;
  listed = subst (Listed parameter_form (codes ",") a_parameter parameter_in c.args.line.now c.args.at.now c.parameter-in-parameters.new.at) (sym c.in_ok-push-2.ensures.ok) (next_item (many parameter_form (codes ",")) parameter_form (codes ",") parameter a_parameter parameter_in c.args.line.now c.args.at.now c.parameters.at c.accept.new.at c.parameter-in-parameters.new.at c.parameters.params c.in_ok-next.next parameter_item c.parameters.invariant.listed c.parameters-test.ensures.chose.1 c.in_ok-next.ensures.took.1);
}

pub returns : goal.returns
unfolding parameters
returns c = (c.parameters-test.ensures.chose.0, last_item (many parameter_form (codes ",")) parameter_form (codes ",") a_parameter parameter_in c.args.line.now c.args.at.now c.parameters.at c.accept.new.at c.parameters.params (λ x. refl) c.parameters.invariant.listed c.parameters-test.ensures.chose.1)
