use Rattle.std.proofs.Common.{◌≡◌, ◌++◌, ◌∷◌, [], List, sym, ap, ◌∙◌, append-nil}
use Rattle.rw_terms.specs.declared.term.Formula.{Formula}
use Rattle.rw_subst.specs.Definedness.{in_range, conditions, conditions_of}
use Rattle.rw_subst.proofs.Asking.{asks_nothing, asks_neg, asks_two, asks_quotient, asks_read, asks_put, asks_fun, found_both, found_is, found_behind}
use Rattle.rw_subst.proofs.conditions.+ask_term.Goals as goal

nothing : (f xs : List Formula) → xs ≡ [] → f ≡ f ++ xs
nothing f xs e = sym (ap (λ ys. f ++ ys) e ∙ append-nil f)

pub ask_term-returns-in-Lit : goal.ask_term-returns-in-Lit
ask_term-returns-in-Lit t c = nothing c.args.found.now _ (asks_nothing c.args.scope.now c.args.term.now c.in-Lit.is)

pub ask_term-returns-in-Lit-2 : goal.ask_term-returns-in-Lit-2
ask_term-returns-in-Lit-2 t c = nothing c.args.found.now _ (asks_nothing c.args.scope.now c.args.term.now c.in-Lit.is)

pub ask_term-returns-in-Lit-3 : goal.ask_term-returns-in-Lit-3
ask_term-returns-in-Lit-3 t c = nothing c.args.found.now _ (asks_nothing c.args.scope.now c.args.term.now c.in-Lit.is)

pub ask_term-returns-in-Lit-4 : goal.ask_term-returns-in-Lit-4
ask_term-returns-in-Lit-4 t c = nothing c.args.found.now _ (asks_nothing c.args.scope.now c.args.term.now c.in-Lit.is)

pub ask_term-returns-in-Lit-5 : goal.ask_term-returns-in-Lit-5
ask_term-returns-in-Lit-5 t c = nothing c.args.found.now _ (asks_nothing c.args.scope.now c.args.term.now c.in-Lit.is)

pub ask_term-returns-in-Neg : goal.ask_term-returns-in-Neg
ask_term-returns-in-Neg t c =
    found_is c.ask_term.result c.args.found.now c.ask_term.new.found (conditions c.args.scope.now c.get.result.now) (conditions c.args.scope.now c.args.term.now)
    (ap (conditions c.args.scope.now) c.in-Neg.is ∙ asks_neg c.args.scope.now c.in-Neg.a ∙ ap (conditions c.args.scope.now) (sym c.get.ensures)) c.ask_term.ensures

pub ask_term-returns-in_ok-ask_term-in-Add : goal.ask_term-returns-in_ok-ask_term-in-Add
ask_term-returns-in_ok-ask_term-in-Add t c =
    let k = conditions c.args.scope.now in
    found_behind c.ask_term-in-Add-2.result c.args.found.now c.ask_term-in-Add.new.found c.ask_term-in-Add-2.new.found (k c.get-in-Add.result.now) (k c.get-in-Add-2.result.now) (k c.args.term.now)
    c.in_ok-ask_term-in-Add.ensures
    (asks_two c.args.scope.now c.args.term.now c.in-Add.a c.in-Add.b c.get-in-Add.result.now c.get-in-Add-2.result.now c.in-Add.is c.get-in-Add.ensures c.get-in-Add-2.ensures)
    c.ask_term-in-Add-2.ensures

pub ask_term-returns-in_ok-nonzero-in-Div : goal.ask_term-returns-in_ok-nonzero-in-Div
ask_term-returns-in_ok-nonzero-in-Div t c =
    let k = conditions c.args.scope.now in
    found_behind c.push.result c.args.found.now c.ask_term-in-Div-2.new.found c.push.new.self (k c.get-in-Div.result.now ++ k c.get-in-Div-2.result.now) (c.in_ok-nonzero-in-Div.field-0 ∷ []) (k c.args.term.now)
    (found_both c.args.found.now c.ask_term-in-Div.new.found c.ask_term-in-Div-2.new.found (k c.get-in-Div.result.now) (k c.get-in-Div-2.result.now) c.in_ok-ask_term-in-Div.ensures c.in_ok-ask_term-in-Div-2.ensures)
    (asks_quotient c.args.scope.now c.args.term.now c.in-Div.a c.in-Div.b c.get-in-Div.result.now c.get-in-Div-2.result.now c.get-in-Div-3.result.now c.in-Div.is c.get-in-Div.ensures c.get-in-Div-2.ensures c.get-in-Div-3.ensures
    ∙ ap (λ f. (k c.get-in-Div.result.now ++ k c.get-in-Div-2.result.now) ++ f ∷ []) (sym c.in_ok-nonzero-in-Div.ensures))
    c.push.ensures.ok

pub ask_term-returns-in_ok-ask_term-in-Read-2 : goal.ask_term-returns-in_ok-ask_term-in-Read-2
ask_term-returns-in_ok-ask_term-in-Read-2 t c =
    let k = conditions c.args.scope.now in
    found_behind c.ask_range.result c.args.found.now c.ask_term-in-Read-2.new.found c.ask_range.new.found (k c.get-in-Read.result.now ++ k c.get-in-Read-2.result.now)
    (in_range c.args.scope.now c.get-in-Read-3.result.now c.get-in-Read-4.result.now) (k c.args.term.now)
    (found_both c.args.found.now c.ask_term-in-Read.new.found c.ask_term-in-Read-2.new.found (k c.get-in-Read.result.now) (k c.get-in-Read-2.result.now) c.in_ok-ask_term-in-Read.ensures c.in_ok-ask_term-in-Read-2.ensures)
    (ap k c.in-Read.is ∙ asks_read c.args.scope.now c.in-Read.a c.in-Read.at
    ∙ (λ i. (k (sym c.get-in-Read.ensures i) ++ k (sym c.get-in-Read-2.ensures i)) ++ in_range c.args.scope.now (sym c.get-in-Read-3.ensures i) (sym c.get-in-Read-4.ensures i)))
    c.ask_range.ensures

pub ask_term-returns-in_ok-ask_term-in-Put-3 : goal.ask_term-returns-in_ok-ask_term-in-Put-3
ask_term-returns-in_ok-ask_term-in-Put-3 t c =
    let k = conditions c.args.scope.now in
    let two = found_both c.args.found.now c.ask_term-in-Put.new.found c.ask_term-in-Put-2.new.found (k c.get-in-Put.result.now) (k c.get-in-Put-2.result.now) c.in_ok-ask_term-in-Put.ensures c.in_ok-ask_term-in-Put-2.ensures in
    found_behind c.ask_range-in-Put.result c.args.found.now c.ask_term-in-Put-3.new.found c.ask_range-in-Put.new.found ((k c.get-in-Put.result.now ++ k c.get-in-Put-2.result.now) ++ k c.get-in-Put-3.result.now)
    (in_range c.args.scope.now c.get-in-Put-4.result.now c.get-in-Put-5.result.now) (k c.args.term.now)
    (found_both c.args.found.now c.ask_term-in-Put-2.new.found c.ask_term-in-Put-3.new.found (k c.get-in-Put.result.now ++ k c.get-in-Put-2.result.now) (k c.get-in-Put-3.result.now) two c.in_ok-ask_term-in-Put-3.ensures)
    (ap k c.in-Put.is ∙ asks_put c.args.scope.now c.in-Put.a c.in-Put.i c.in-Put.e
    ∙ (λ i. ((k (sym c.get-in-Put.ensures i) ++ k (sym c.get-in-Put-2.ensures i)) ++ k (sym c.get-in-Put-3.ensures i)) ++ in_range c.args.scope.now (sym c.get-in-Put-4.ensures i) (sym c.get-in-Put-5.ensures i)))
    c.ask_range-in-Put.ensures

pub ask_term-returns-in-Fun : goal.ask_term-returns-in-Fun
ask_term-returns-in-Fun t c =
    found_is c.ask_terms.result c.args.found.now c.ask_terms.new.found (conditions_of c.args.scope.now c.as_slice.result.now) (conditions c.args.scope.now c.args.term.now)
    (ap (conditions c.args.scope.now) c.in-Fun.is ∙ asks_fun c.args.scope.now c.in-Fun.field-0 c.in-Fun.args ∙ ap (conditions_of c.args.scope.now) (sym c.as_slice.ensures)) c.ask_terms.ensures
