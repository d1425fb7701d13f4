use Rattle.std.proofs.Common.{◌∙◌, ◌++◌, [], ◌∷◌, arith, refl, sym, ap, subst}
use Rattle.std.specs.Prelude.{codes}
use Rattle.std.proofs.lemmas.Result.{err_from_is_err_and}
use Rattle.rw_forms.specs.Forms.{many, a_name, takes, a_constant}
use Rattle.rw_forms.specs.Phrases.{constants, constant_form, name_in}
use Rattle.rw_forms.proofs.ListItems.{constant_item}
use Rattle.rw_forms.proofs.Listing.{Listed, first_item, first_fault, next_item, item_fault, last_item}
use Rattle.rw_forms.proofs.taking.constants.Goals as goal

pub returns-in_err-first : goal.returns-in_err-first
unfolding constants
returns-in_err-first c = let p = err_from_is_err_and c.from_residual.result c.from_residual.ensures.1 in rw (p.1, p.2) ((first_fault constant_form (codes ",") (takes a_constant) a_name name_in c.args.line.now c.args.at.now _ constant_item c.in_err-first.ensures.took))

pub constants-init : goal.constants-init
constants-init c = record {
  place = c.in_ok-first.ensures.took.0;
  listed = subst (Listed constant_form (codes ",") a_name name_in c.args.line.now c.args.at.now c.constant.new.at) (sym (c.in_ok-push.ensures.ok ∙ ap (λ l. l ++ c.in_ok-first.first ∷ []) c.new-names.ensures)) (first_item constant_form (codes ",") (takes a_constant) a_name name_in c.args.line.now c.args.at.now c.constant.new.at _ constant_item c.in_ok-first.ensures.took.1);
}

pub accept-requires : goal.accept-requires
accept-requires c = c.constants.invariant.place

pub returns-in_err-name : goal.returns-in_err-name
unfolding constants
returns-in_err-name c = let p = err_from_is_err_and c.from_residual-in_err-name.result c.from_residual-in_err-name.ensures.1 in rw (p.1, p.2) ((item_fault (many constant_form (codes ",")) constant_form (codes ",") (takes a_constant) a_name name_in c.args.line.now c.args.at.now c.constants.at c.accept.new.at c.constants.names _ constant_item c.constants.invariant.listed c.constants-test.ensures.chose.1 c.in_err-name.ensures.took))

pub constants-smaller : goal.constants-smaller
constants-smaller c = let a = c.constants-test.ensures.further refl in let b = c.in_ok-name.ensures.on in let d = c.in_ok-name.ensures.took.0.within in omega arith

pub constants-preserved : goal.constants-preserved
constants-preserved c = record {
  place = c.in_ok-name.ensures.took.0;
  listed = subst (Listed constant_form (codes ",") a_name name_in c.args.line.now c.args.at.now c.constant-in-constants.new.at) (sym (c.in_ok-push-2.ensures.ok)) (next_item (many constant_form (codes ",")) constant_form (codes ",") (takes a_constant) a_name name_in c.args.line.now c.args.at.now c.constants.at c.accept.new.at c.constant-in-constants.new.at c.constants.names _ constant_item c.constants.invariant.listed c.constants-test.ensures.chose.1 c.in_ok-name.ensures.took.1);
}

pub returns : goal.returns
unfolding constants
returns c = (c.constants-test.ensures.chose.0, last_item (many constant_form (codes ",")) constant_form (codes ",") a_name name_in c.args.line.now c.args.at.now c.constants.at c.accept.new.at c.constants.names (λ x. refl) c.constants.invariant.listed c.constants-test.ensures.chose.1)
