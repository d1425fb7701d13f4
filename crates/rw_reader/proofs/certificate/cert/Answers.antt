use Rattle.std.proofs.Common.{◌∙◌, ◌++◌, [], ◌∷◌, arith, refl, sym, ap, subst}
use Rattle.std.specs.Prelude.{codes}
use Rattle.std.proofs.lemmas.Result.{err_from_is_err_and}
use Rattle.rw_forms.specs.Certificates.{cert, line_form, line_in, rule}
use Rattle.rw_forms.specs.Forms.{many, a_line}
use Rattle.rw_reader.proofs.RuleItems.{line_item}
use Rattle.rw_forms.proofs.Listing.{Listed, first_item, first_fault, next_item, item_fault, last_item}
use Rattle.rw_reader.proofs.certificate.cert.Goals as goal

pub returns-in_err-first : goal.returns-in_err-first
unfolding cert
returns-in_err-first c = let p = err_from_is_err_and c.from_residual.result c.from_residual.ensures.1 in rw (p.1, p.2) (first_fault line_form (codes ";") rule a_line line_in c.args.line.now c.args.at.now _ line_item c.in_err-first.ensures.took)

pub lines-init : goal.lines-init
lines-init c = record {
  place = c.in_ok-first.ensures.took.0;
  listed = subst (Listed line_form (codes ";") a_line line_in c.args.line.now c.args.at.now c.rule.new.at) (sym (c.in_ok-push.ensures.ok ∙ ap (λ l. l ++ c.in_ok-first.first ∷ []) c.new-lines.ensures)) (first_item line_form (codes ";") rule a_line line_in c.args.line.now c.args.at.now c.rule.new.at c.in_ok-first.first line_item c.in_ok-first.ensures.took.1);
}

pub accept-requires : goal.accept-requires
accept-requires c = c.lines.invariant.place

pub returns-in_err-next : goal.returns-in_err-next
unfolding cert
returns-in_err-next c = let p = err_from_is_err_and c.from_residual-in_err-next.result c.from_residual-in_err-next.ensures.1 in rw (p.1, p.2) (item_fault (many line_form (codes ";")) line_form (codes ";") rule a_line line_in c.args.line.now c.args.at.now c.lines.at c.accept.new.at c.lines.lines _ line_item c.lines.invariant.listed c.lines-test.ensures.chose.1 c.in_err-next.ensures.took)

pub lines-smaller : goal.lines-smaller
lines-smaller c = let a = c.lines-test.ensures.further refl in let b = c.in_ok-next.ensures.on in let d = c.in_ok-next.ensures.took.0.within in omega arith

pub lines-preserved : goal.lines-preserved
lines-preserved c = record {
  place = c.in_ok-next.ensures.took.0;
  listed = subst (Listed line_form (codes ";") a_line line_in c.args.line.now c.args.at.now c.rule-in-lines.new.at) (sym c.in_ok-push-2.ensures.ok) (next_item (many line_form (codes ";")) line_form (codes ";") rule a_line line_in c.args.line.now c.args.at.now c.lines.at c.accept.new.at c.rule-in-lines.new.at c.lines.lines c.in_ok-next.next line_item c.lines.invariant.listed c.lines-test.ensures.chose.1 c.in_ok-next.ensures.took.1);
}

pub returns : goal.returns
unfolding cert
returns c = (c.lines-test.ensures.chose.0, last_item (many line_form (codes ";")) line_form (codes ";") a_line line_in c.args.line.now c.args.at.now c.lines.at c.accept.new.at c.lines.lines (λ x. refl) c.lines.invariant.listed c.lines-test.ensures.chose.1)
