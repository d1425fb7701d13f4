use Rattle.std.proofs.Common.{sym, ap, ◌∙◌, rules, FitsSigned, to_z, of_z}
use Rattle.std.specs.Int.{w128}
use Rattle.std.proofs.lemmas.Int.{to_z-of_z}
use Rattle.rw_arith.specs.Polynomials.{sum, difference, product, negated}
use Rattle.rw_arith.specs.Expanded.{constant, atom, expanded}
use Rattle.rw_arith.proofs.Expanding.{expands_lit, expands_neg, expands_add, expands_sub, expands_mul, names_expand, others_expand, none_expands, is_then}
use Rattle.rw_arith.proofs.expand.+expand.Goals as goal

pub returns-in-Lit : goal.returns-in-Lit
returns-in-Lit t c =
    let fits : FitsSigned w128 c.in-Lit.n = search rules in
    is_then c.constant.result (constant (to_z w128 (of_z w128 c.in-Lit.n))) (expanded c.args.term.now)
    (ap constant (to_z-of_z w128 c.in-Lit.n fits) ∙ sym (expands_lit c.in-Lit.n) ∙ ap expanded (sym c.in-Lit.is)) c.constant.ensures

pub returns-in_ok-inner-in-Neg : goal.returns-in_ok-inner-in-Neg
returns-in_ok-inner-in-Neg t c =
    c.negate.ensures ∙ ap negated (c.in_ok-inner-in-Neg.ensures ∙ ap expanded c.get.ensures) ∙ sym (expands_neg c.in-Neg.a) ∙ ap expanded (sym c.in-Neg.is)

pub returns-in_ok-right-in-Add : goal.returns-in_ok-right-in-Add
returns-in_ok-right-in-Add t c =
    is_then c.sum.result (sum c.in_ok-left-in-Add.left c.in_ok-right-in-Add.right) (expanded c.args.term.now)
    ((λ i. sum ((c.in_ok-left-in-Add.ensures ∙ ap expanded c.get-in-Add.ensures) i) ((c.in_ok-right-in-Add.ensures ∙ ap expanded c.get-in-Add-2.ensures) i))
    ∙ sym (expands_add c.in-Add.a c.in-Add.b) ∙ ap expanded (sym c.in-Add.is))
    c.sum.ensures

pub returns-in_ok-right-in-Sub : goal.returns-in_ok-right-in-Sub
returns-in_ok-right-in-Sub t c =
    is_then c.difference.result (difference c.in_ok-left-in-Sub.left c.in_ok-right-in-Sub.right) (expanded c.args.term.now)
    ((λ i. difference ((c.in_ok-left-in-Sub.ensures ∙ ap expanded c.get-in-Sub.ensures) i) ((c.in_ok-right-in-Sub.ensures ∙ ap expanded c.get-in-Sub-2.ensures) i))
    ∙ sym (expands_sub c.in-Sub.a c.in-Sub.b) ∙ ap expanded (sym c.in-Sub.is))
    c.difference.ensures

pub returns-in_ok-right-in-Mul : goal.returns-in_ok-right-in-Mul
returns-in_ok-right-in-Mul t c =
    is_then c.product.result (product c.in_ok-left-in-Mul.left c.in_ok-right-in-Mul.right) (expanded c.args.term.now)
    ((λ i. product ((c.in_ok-left-in-Mul.ensures ∙ ap expanded c.get-in-Mul.ensures) i) ((c.in_ok-right-in-Mul.ensures ∙ ap expanded c.get-in-Mul-2.ensures) i))
    ∙ sym (expands_mul c.in-Mul.a c.in-Mul.b) ∙ ap expanded (sym c.in-Mul.is))
    c.product.ensures

pub returns-in-Bound : goal.returns-in-Bound
returns-in-Bound t c = none_expands c.args.term.now c.in-Bound.is

pub returns-in-Div : goal.returns-in-Div
returns-in-Div t c = is_then c.atom.result (atom c.args.term.now) (expanded c.args.term.now) (others_expand c.args.term.now c.in-Div.is) c.atom.ensures

pub returns-in-Var : goal.returns-in-Var
returns-in-Var t c = is_then c.atom-in-Var.result (atom c.args.term.now) (expanded c.args.term.now) (names_expand c.args.term.now c.in-Var.is) c.atom-in-Var.ensures
