use Rattle.std.proofs.Common.{◌++◌, ◌∷◌, [], ap, sym, ◌∙◌, refl}
use Rattle.rw_elimination.specs.Hypotheses.{occurrences}
use Rattle.rw_elimination.proofs.Occurrences.{none_more, name_occurs, other_occurs, neg_occurs, both_occur, behind_is, both_behind}
use Rattle.rw_elimination.proofs.hypotheses.+push_occurrences.Goals as goal

pub returns-in-Neg : goal.returns-in-Neg
returns-in-Neg t c =
    behind_is _ _ _ _ _ (ap occurrences c.get.ensures ∙ sym (neg_occurs c.args.term.now c.in-Neg.a c.in-Neg.is)) c.push_occurrences.ensures

pub returns-in_ok-copy-in-Div : goal.returns-in_ok-copy-in-Div
returns-in_ok-copy-in-Div t c =
    behind_is _ _ _ _ _ (ap (λ u. u ∷ []) c.in_ok-copy-in-Div.ensures ∙ sym (other_occurs c.args.term.now c.in-Div.is)) c.push.ensures.ok

pub returns-in_ok-copy-in-Var : goal.returns-in_ok-copy-in-Var
returns-in_ok-copy-in-Var t c =
    behind_is _ _ _ _ _ (ap (λ u. u ∷ []) c.in_ok-copy-in-Var.ensures ∙ sym (name_occurs c.args.term.now c.in-Var.is)) c.push-in-Var.ensures.ok

pub returns-in-Lit : goal.returns-in-Lit
returns-in-Lit t c = none_more c.args.atoms.now c.args.atoms.now c.args.term.now refl c.in-Lit.is

pub returns-in-Lit-2 : goal.returns-in-Lit-2
returns-in-Lit-2 t c = none_more c.args.atoms.now c.args.atoms.now c.args.term.now refl c.in-Lit.is

pub returns-in-Lit-3 : goal.returns-in-Lit-3
returns-in-Lit-3 t c = none_more c.args.atoms.now c.args.atoms.now c.args.term.now refl c.in-Lit.is

pub returns-in_ok-push_occurrences-in-Add : goal.returns-in_ok-push_occurrences-in-Add
returns-in_ok-push_occurrences-in-Add t c =
    both_behind _ _ _ c.args.atoms.now (occurrences c.in-Add.a) (occurrences c.in-Add.b) (occurrences c.args.term.now)
    (c.in_ok-push_occurrences-in-Add.ensures ∙ ap (λ u. c.args.atoms.now ++ occurrences u) c.get-in-Add.ensures)
    (both_occur c.args.term.now c.in-Add.a c.in-Add.b c.in-Add.is)
    (behind_is _ _ _ _ _ (ap occurrences c.get-in-Add-2.ensures) c.push_occurrences-in-Add-2.ensures)
