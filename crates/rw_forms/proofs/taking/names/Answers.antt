use Rattle.std.proofs.Common.{◌∙◌, ◌++◌, [], ◌∷◌, arith, refl, sym, ap, subst}
use Rattle.std.specs.Prelude.{codes}
use Rattle.std.proofs.lemmas.Result.{err_from_is_err_and}
use Rattle.rw_forms.specs.Phrases.{names, name_form, name_in}
use Rattle.rw_forms.specs.Forms.{many, a_name, takes, a_variable}
use Rattle.rw_forms.proofs.ListItems.{name_item}
use Rattle.rw_forms.proofs.Listing.{Listed, first_item, first_fault, next_item, item_fault, last_item}
use Rattle.rw_forms.proofs.taking.names.Goals as goal

pub returns-in_err-first : goal.returns-in_err-first
unfolding names
returns-in_err-first c = let p = err_from_is_err_and c.from_residual.result c.from_residual.ensures.1 in rw (p.1, p.2) (first_fault name_form (codes ",") (takes a_variable) a_name name_in c.args.line.now c.args.at.now _ name_item c.in_err-first.ensures.took)

pub names-init : goal.names-init
names-init c = record {
  place = c.in_ok-first.ensures.took.0;
  listed = subst (Listed name_form (codes ",") a_name name_in c.args.line.now c.args.at.now c.variable.new.at) (sym (c.in_ok-push.ensures.ok ∙ ap (λ l. l ++ c.in_ok-first.first ∷ []) c.new-names.ensures)) (first_item name_form (codes ",") (takes a_variable) a_name name_in c.args.line.now c.args.at.now c.variable.new.at c.in_ok-first.first name_item c.in_ok-first.ensures.took.1);
}

pub accept-requires : goal.accept-requires
accept-requires c = c.names.invariant.place

pub returns-in_err-name : goal.returns-in_err-name
unfolding names
returns-in_err-name c = let p = err_from_is_err_and c.from_residual-in_err-name.result c.from_residual-in_err-name.ensures.1 in rw (p.1, p.2) (item_fault (many name_form (codes ",")) name_form (codes ",") (takes a_variable) a_name name_in c.args.line.now c.args.at.now c.names.at c.accept.new.at c.names.names _ name_item c.names.invariant.listed c.names-test.ensures.chose.1 c.in_err-name.ensures.took)

pub names-smaller : goal.names-smaller
names-smaller c = let a = c.names-test.ensures.further refl in let b = c.in_ok-name.ensures.on in let d = c.in_ok-name.ensures.took.0.within in omega arith

pub names-preserved : goal.names-preserved
names-preserved c = record {
  place = c.in_ok-name.ensures.took.0;
  listed = subst (Listed name_form (codes ",") a_name name_in c.args.line.now c.args.at.now c.variable-in-names.new.at) (sym c.in_ok-push-2.ensures.ok) (next_item (many name_form (codes ",")) name_form (codes ",") (takes a_variable) a_name name_in c.args.line.now c.args.at.now c.names.at c.accept.new.at c.variable-in-names.new.at c.names.names c.in_ok-name.name name_item c.names.invariant.listed c.names-test.ensures.chose.1 c.in_ok-name.ensures.took.1);
}

pub returns : goal.returns
unfolding names
returns c = (c.names-test.ensures.chose.0, last_item (many name_form (codes ",")) name_form (codes ",") a_name name_in c.args.line.now c.args.at.now c.names.at c.accept.new.at c.names.names (λ x. refl) c.names.invariant.listed c.names-test.ensures.chose.1)
