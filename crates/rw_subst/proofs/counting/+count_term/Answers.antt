use Rattle.std.proofs.Common.{◌≡◌, ℕ, ◌+◌, ◌<◌, suc, ◌++◌, ◌∷◌, [], List, length, drop, get_or, Option, Some, sym, ap, ◌∙◌, arith, add-one, drop-cons}
use Rattle.rw_terms.specs.declared.term.Term.{Term}
use Rattle.rw_terms.specs.declared.term.Formula.{Formula}
use Rattle.rw_terms.specs.declared.scope.Entry.{Entry}
use Rattle.rw_subst.specs.declared.size.Size.{Size}
use Rattle.rw_subst.specs.Conj.{size_and_also, sizes_joined}
use Rattle.rw_subst.specs.Definedness.{nonzero, in_range, conditions, conditions_of}
use Rattle.rw_subst.proofs.Asking.{asks_nothing, asks_neg, asks_two, asks_quotient, asks_read, asks_put, asks_fun}
use Rattle.rw_subst.proofs.Joining.{sizes_append, sizes_both}
use Rattle.rw_subst.proofs.counting.+count_term.Goals as goal

is : (o0 o1 : Option Size) (xs zs : List Formula) → o1 ≡ sizes_joined o0 xs → zs ≡ xs → o1 ≡ sizes_joined o0 zs
is o0 o1 xs zs e z = e ∙ ap (sizes_joined o0) (sym z)

nothing : (o : Option Size) (xs : List Formula) → xs ≡ [] → o ≡ sizes_joined o xs
nothing o xs e = ap (sizes_joined o) (sym e)

-- one term more is counted
count_more : (scope : List Entry) (ts : List Term) (i : ℕ) (t : Term) (o o1 : Option Size) → i < length ts → t ≡ get_or ts i t → o1 ≡ sizes_joined o (conditions scope t) →
    sizes_joined o1 (conditions_of scope (drop (i + 1) ts)) ≡ sizes_joined o (conditions_of scope (drop i ts))
count_more scope ts i t o o1 p item e =
    rw (add-one, drop-cons ts i t)
    (ap (λ x. sizes_joined x (conditions_of scope (drop (suc i) ts))) e
    ∙ sym (sizes_append o (conditions scope t) (conditions_of scope (drop (suc i) ts)))
    ∙ ap (λ x. sizes_joined o (conditions scope x ++ conditions_of scope (drop (suc i) ts))) item)

pub count_term-returns-in-Lit : goal.count_term-returns-in-Lit
count_term-returns-in-Lit t c = nothing c.args.so_far _ (asks_nothing c.args.scope.now c.args.term.now c.in-Lit.is)

pub count_term-returns-in-Lit-2 : goal.count_term-returns-in-Lit-2
count_term-returns-in-Lit-2 t c = nothing c.args.so_far _ (asks_nothing c.args.scope.now c.args.term.now c.in-Lit.is)

pub count_term-returns-in-Lit-3 : goal.count_term-returns-in-Lit-3
count_term-returns-in-Lit-3 t c = nothing c.args.so_far _ (asks_nothing c.args.scope.now c.args.term.now c.in-Lit.is)

pub count_term-returns-in-Lit-4 : goal.count_term-returns-in-Lit-4
count_term-returns-in-Lit-4 t c = nothing c.args.so_far _ (asks_nothing c.args.scope.now c.args.term.now c.in-Lit.is)

pub count_term-returns-in-Lit-5 : goal.count_term-returns-in-Lit-5
count_term-returns-in-Lit-5 t c = nothing c.args.so_far _ (asks_nothing c.args.scope.now c.args.term.now c.in-Lit.is)

pub count_term-returns-in-Neg : goal.count_term-returns-in-Neg
count_term-returns-in-Neg t c =
    is c.args.so_far c.count_term.result (conditions c.args.scope.now c.get.result.now) (conditions c.args.scope.now c.args.term.now) c.count_term.ensures
    (ap (conditions c.args.scope.now) c.in-Neg.is ∙ asks_neg c.args.scope.now c.in-Neg.a ∙ ap (conditions c.args.scope.now) (sym c.get.ensures))

pub count_term-returns-in-Add : goal.count_term-returns-in-Add
count_term-returns-in-Add t c =
    let k = conditions c.args.scope.now in
    is c.args.so_far c.count_term-in-Add.result (k c.get-in-Add.result.now ++ k c.get-in-Add-2.result.now) (k c.args.term.now)
    (sizes_both c.args.so_far c.count_term-so_far-in-Add.result c.count_term-in-Add.result (k c.get-in-Add.result.now) (k c.get-in-Add-2.result.now) c.count_term-so_far-in-Add.ensures c.count_term-in-Add.ensures)
    (asks_two c.args.scope.now c.args.term.now c.in-Add.a c.in-Add.b c.get-in-Add.result.now c.get-in-Add-2.result.now c.in-Add.is c.get-in-Add.ensures c.get-in-Add-2.ensures)

pub count_term-returns-in-Div : goal.count_term-returns-in-Div
count_term-returns-in-Div t c =
    let k = conditions c.args.scope.now in
    let two = sizes_both c.args.so_far c.count_term-so_far-in-Div.result c.count_term-so_far-in-Div-2.result (k c.get-in-Div.result.now) (k c.get-in-Div-2.result.now) c.count_term-so_far-in-Div.ensures c.count_term-so_far-in-Div-2.ensures in
    is c.args.so_far (Some c.count.result) ((k c.get-in-Div.result.now ++ k c.get-in-Div-2.result.now) ++ nonzero c.get-in-Div-3.result.now ∷ []) (k c.args.term.now)
    (sizes_both c.args.so_far c.count_term-so_far-in-Div-2.result (Some c.count.result) (k c.get-in-Div.result.now ++ k c.get-in-Div-2.result.now) (nonzero c.get-in-Div-3.result.now ∷ []) two
    (ap Some (c.count.ensures ∙ ap (size_and_also c.count_term-so_far-in-Div-2.result) c.size_of_nonzero.ensures)))
    (asks_quotient c.args.scope.now c.args.term.now c.in-Div.a c.in-Div.b c.get-in-Div.result.now c.get-in-Div-2.result.now c.get-in-Div-3.result.now c.in-Div.is c.get-in-Div.ensures c.get-in-Div-2.ensures c.get-in-Div-3.ensures)

pub count_term-returns-in-Read : goal.count_term-returns-in-Read
count_term-returns-in-Read t c =
    let k = conditions c.args.scope.now in
    let two = sizes_both c.args.so_far c.count_term-so_far.result c.count_term-so_far-in-Read.result (k c.get-in-Read.result.now) (k c.get-in-Read-2.result.now) c.count_term-so_far.ensures c.count_term-so_far-in-Read.ensures in
    let range = in_range c.args.scope.now c.get-in-Read-3.result.now c.get-in-Read-4.result.now in
    is c.args.so_far c.count_range.result ((k c.get-in-Read.result.now ++ k c.get-in-Read-2.result.now) ++ range) (k c.args.term.now)
    (sizes_both c.args.so_far c.count_term-so_far-in-Read.result c.count_range.result (k c.get-in-Read.result.now ++ k c.get-in-Read-2.result.now) range two c.count_range.ensures)
    (ap k c.in-Read.is ∙ asks_read c.args.scope.now c.in-Read.a c.in-Read.i
    ∙ (λ i. (k (sym c.get-in-Read.ensures i) ++ k (sym c.get-in-Read-2.ensures i)) ++ in_range c.args.scope.now (sym c.get-in-Read-3.ensures i) (sym c.get-in-Read-4.ensures i)))

pub count_term-returns-in-Put : goal.count_term-returns-in-Put
count_term-returns-in-Put t c =
    let k = conditions c.args.scope.now in
    let two = sizes_both c.args.so_far c.count_term-so_far-in-Put.result c.count_term-so_far-in-Put-2.result (k c.get-in-Put.result.now) (k c.get-in-Put-2.result.now) c.count_term-so_far-in-Put.ensures c.count_term-so_far-in-Put-2.ensures in
    let three = sizes_both c.args.so_far c.count_term-so_far-in-Put-2.result c.count_term-so_far-in-Put-3.result (k c.get-in-Put.result.now ++ k c.get-in-Put-2.result.now) (k c.get-in-Put-3.result.now) two c.count_term-so_far-in-Put-3.ensures in
    let range = in_range c.args.scope.now c.get-in-Put-4.result.now c.get-in-Put-5.result.now in
    is c.args.so_far c.count_range-in-Put.result (((k c.get-in-Put.result.now ++ k c.get-in-Put-2.result.now) ++ k c.get-in-Put-3.result.now) ++ range) (k c.args.term.now)
    (sizes_both c.args.so_far c.count_term-so_far-in-Put-3.result c.count_range-in-Put.result ((k c.get-in-Put.result.now ++ k c.get-in-Put-2.result.now) ++ k c.get-in-Put-3.result.now) range three c.count_range-in-Put.ensures)
    (ap k c.in-Put.is ∙ asks_put c.args.scope.now c.in-Put.a c.in-Put.i c.in-Put.e
    ∙ (λ i. ((k (sym c.get-in-Put.ensures i) ++ k (sym c.get-in-Put-2.ensures i)) ++ k (sym c.get-in-Put-3.ensures i)) ++ in_range c.args.scope.now (sym c.get-in-Put-4.ensures i) (sym c.get-in-Put-5.ensures i)))

pub count_term-returns-in-Fun : goal.count_term-returns-in-Fun
count_term-returns-in-Fun t c =
    is c.args.so_far c.count_terms.result (conditions_of c.args.scope.now c.as_slice.result.now) (conditions c.args.scope.now c.args.term.now) c.count_terms.ensures
    (ap (conditions c.args.scope.now) c.in-Fun.is ∙ asks_fun c.args.scope.now c.in-Fun.field-0 c.in-Fun.args ∙ ap (conditions_of c.args.scope.now) (sym c.as_slice.ensures))

pub count_terms-loop-term-preserved : goal.count_terms-loop-term-preserved
count_terms-loop-term-preserved t c =
    count_more c.args.scope.now c.args.terms.now c.loop-term.term-index c.term-item.result c.loop-term.all c.count_term-all.result (omega arith) c.term-item.is c.count_term-all.ensures
    ∙ c.loop-term.invariant
