use Rattle.std.proofs.Common.{◌∙◌, ◌++◌, [], ◌∷◌, arith, refl, sym, ap, subst}
use Rattle.std.specs.Prelude.{codes}
use Rattle.std.proofs.lemmas.Result.{err_from_is_err_and}
use Rattle.rw_forms.specs.Forms.{many, a_pin}
use Rattle.rw_program_reader.specs.Programs.{pin, pins, pin_form, pin_in}
use Rattle.rw_forms.proofs.Listing.{Listed, first_item, first_fault, next_item, item_fault, last_item}
use Rattle.rw_program_reader.proofs.ListItems.{pin_item}
use Rattle.rw_program_reader.proofs.opening.pins.Goals as goal

pub returns-in_err-first : goal.returns-in_err-first
unfolding pins
returns-in_err-first c = let p = err_from_is_err_and c.from_residual.result c.from_residual.ensures.1 in rw (p.1, p.2) (first_fault (pin_form c.args.most) (codes ",") (pin c.args.most) a_pin pin_in c.args.line.now c.args.at.now _ (pin_item c.args.most) c.in_err-first.ensures.took)

pub pins-init : goal.pins-init
pins-init c = record {
  place = c.in_ok-first.ensures.took.0;
  listed = subst (Listed (pin_form c.args.most) (codes ",") a_pin pin_in c.args.line.now c.args.at.now c.pin.new.at) (sym (c.in_ok-push.ensures.ok ∙ ap (λ l. l ++ c.into_inner.result ∷ []) c.new-pins.ensures ∙ ap (λ x. x ∷ []) c.into_inner.ensures)) (first_item (pin_form c.args.most) (codes ",") (pin c.args.most) a_pin pin_in c.args.line.now c.args.at.now c.pin.new.at _ (pin_item c.args.most) c.in_ok-first.ensures.took.1);
}

pub accept-requires : goal.accept-requires
accept-requires c = c.pins.invariant.place

pub returns-in_err-next : goal.returns-in_err-next
unfolding pins
returns-in_err-next c = let p = err_from_is_err_and c.from_residual-in_err-next.result c.from_residual-in_err-next.ensures.1 in rw (p.1, p.2) (item_fault (many (pin_form c.args.most) (codes ",")) (pin_form c.args.most) (codes ",") (pin c.args.most) a_pin pin_in c.args.line.now c.args.at.now c.pins.at c.accept.new.at c.pins.pins _ (pin_item c.args.most) c.pins.invariant.listed c.pins-test.ensures.chose.1 c.in_err-next.ensures.took)

pub pins-smaller : goal.pins-smaller
pins-smaller c = let a = c.pins-test.ensures.further refl in let b = c.in_ok-next.ensures.on in let d = c.in_ok-next.ensures.took.0.within in omega arith

pub pins-preserved : goal.pins-preserved
pins-preserved c = record {
  place = c.in_ok-next.ensures.took.0;
  listed = subst (Listed (pin_form c.args.most) (codes ",") a_pin pin_in c.args.line.now c.args.at.now c.pin-in-pins.new.at) (sym (c.in_ok-push-2.ensures.ok ∙ ap (λ x. c.pins.pins ++ x ∷ []) c.into_inner-in-pins.ensures)) (next_item (many (pin_form c.args.most) (codes ",")) (pin_form c.args.most) (codes ",") (pin c.args.most) a_pin pin_in c.args.line.now c.args.at.now c.pins.at c.accept.new.at c.pin-in-pins.new.at c.pins.pins _ (pin_item c.args.most) c.pins.invariant.listed c.pins-test.ensures.chose.1 c.in_ok-next.ensures.took.1);
}

pub returns : goal.returns
unfolding pins
returns c = (c.pins-test.ensures.chose.0, last_item (many (pin_form c.args.most) (codes ",")) (pin_form c.args.most) (codes ",") a_pin pin_in c.args.line.now c.args.at.now c.pins.at c.accept.new.at c.pins.pins (λ x. refl) c.pins.invariant.listed c.pins-test.ensures.chose.1)
