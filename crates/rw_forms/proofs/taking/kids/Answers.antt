use Rattle.std.proofs.Common.{[], arith, refl, sym, subst}
use Rattle.std.specs.Prelude.{codes}
use Rattle.std.proofs.lemmas.Result.{err_from_is_err_and}
use Rattle.rw_forms.specs.Forms.{more_of, a_kid, takes, a_number}
use Rattle.rw_forms.specs.Phrases.{kids, kid_form, kid_in, place_at}
use Rattle.rw_forms.proofs.ListItems.{kid_item}
use Rattle.rw_forms.proofs.Listing.{Grown, next_item, item_fault, last_item}
use Rattle.rw_forms.proofs.taking.kids.Goals as goal

pub kids-init : goal.kids-init
kids-init c = record {
  place = c.requires;
  listed = subst (Grown (more_of kid_form (codes "/") []) kid_form (codes "/") a_kid kid_in c.args.line.now c.args.at.now c.args.at.now) (sym c.new-kids.ensures) (λ k. refl);
}

pub accept-requires : goal.accept-requires
accept-requires c = c.kids.invariant.place

pub returns-in_err-kid : goal.returns-in_err-kid
unfolding kids
returns-in_err-kid c = let p = err_from_is_err_and c.from_residual.result c.from_residual.ensures.1 in rw (p.1, p.2) (λ k. item_fault (more_of kid_form (codes "/") []) kid_form (codes "/") (takes (a_number 1 4294967295)) a_kid kid_in c.args.line.now c.args.at.now c.kids.at c.accept.new.at c.kids.kids _ kid_item c.kids.invariant.listed c.kids-test.ensures.chose.1 c.in_err-kid.ensures.took (λ ks. k (place_at ks)))

pub kids-smaller : goal.kids-smaller
kids-smaller c = let a = c.kids-test.ensures.further refl in let b = c.in_ok-kid.ensures.on in let d = c.in_ok-kid.ensures.took.0.within in omega arith

pub kids-preserved : goal.kids-preserved
kids-preserved c = record {
  place = c.in_ok-kid.ensures.took.0;
  listed = subst (Grown (more_of kid_form (codes "/") []) kid_form (codes "/") a_kid kid_in c.args.line.now c.args.at.now c.number.new.at) (sym c.in_ok-push.ensures.ok) (next_item (more_of kid_form (codes "/") []) kid_form (codes "/") (takes (a_number 1 4294967295)) a_kid kid_in c.args.line.now c.args.at.now c.kids.at c.accept.new.at c.number.new.at c.kids.kids _ kid_item c.kids.invariant.listed c.kids-test.ensures.chose.1 c.in_ok-kid.ensures.took.1);
}

pub returns : goal.returns
unfolding kids
returns c = (c.kids-test.ensures.chose.0, λ k. last_item (more_of kid_form (codes "/") []) kid_form (codes "/") a_kid kid_in c.args.line.now c.args.at.now c.kids.at c.accept.new.at c.kids.kids (λ x. refl) c.kids.invariant.listed c.kids-test.ensures.chose.1 (λ ks. k (place_at ks)))
