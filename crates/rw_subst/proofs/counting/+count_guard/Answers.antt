use Rattle.std.proofs.Common.{◌≡◌, ◌⊎◌, inl, inr, ◌++◌, List, sym, ap, ◌∙◌}
use Rattle.rw_terms.specs.declared.term.Term.{Term}
use Rattle.rw_terms.specs.declared.term.Formula.{Formula}
use Rattle.rw_terms.specs.declared.term.Formula.TheVariants as formula
use Rattle.rw_terms.specs.declared.term.Formula.TheOpen.{Formula-F}
use Rattle.rw_terms.specs.declared.term.Formula.TheFolds.{fold-roll-Formula}
use Rattle.rw_terms.specs.declared.scope.Entry.{Entry}
use Rattle.rw_subst.specs.Conj.{sizes_joined}
use Rattle.rw_subst.specs.Definedness.{conditions, guard_conditions_step, guard_conditions}
use Rattle.rw_subst.proofs.Joining.{sizes_both}
use Rattle.rw_subst.proofs.counting.+count_guard.Goals as goal

module _ (scope : List Entry) where
  asks_relation : (g : Formula) (t u : Term) → (g ≡ formula.Eq t u) ⊎ ((g ≡ formula.Less t u) ⊎ (g ≡ formula.AtMost t u)) → guard_conditions scope g ≡ conditions scope t ++ conditions scope u
  asks_relation g t u (inl e) = ap (guard_conditions scope) (e ∙ sym (formula.rolls-Eq t u)) ∙ fold-roll-Formula _ (guard_conditions_step scope) (Formula-F.Eq t u)
  asks_relation g t u (inr (inl e)) = ap (guard_conditions scope) (e ∙ sym (formula.rolls-Less t u)) ∙ fold-roll-Formula _ (guard_conditions_step scope) (Formula-F.Less t u)
  asks_relation g t u (inr (inr e)) = ap (guard_conditions scope) (e ∙ sym (formula.rolls-AtMost t u)) ∙ fold-roll-Formula _ (guard_conditions_step scope) (Formula-F.AtMost t u)

  asks_connective : (g f h : Formula) → (g ≡ formula.And f h) ⊎ ((g ≡ formula.Or f h) ⊎ (g ≡ formula.Imp f h)) → guard_conditions scope g ≡ guard_conditions scope f ++ guard_conditions scope h
  asks_connective g f h (inl e) = ap (guard_conditions scope) (e ∙ sym (formula.rolls-And f h)) ∙ fold-roll-Formula _ (guard_conditions_step scope) (Formula-F.And f h)
  asks_connective g f h (inr (inl e)) = ap (guard_conditions scope) (e ∙ sym (formula.rolls-Or f h)) ∙ fold-roll-Formula _ (guard_conditions_step scope) (Formula-F.Or f h)
  asks_connective g f h (inr (inr e)) = ap (guard_conditions scope) (e ∙ sym (formula.rolls-Imp f h)) ∙ fold-roll-Formula _ (guard_conditions_step scope) (Formula-F.Imp f h)

pub returns-in-Eq : goal.returns-in-Eq
returns-in-Eq t c =
    let k = conditions c.args.scope.now in
    sizes_both c.args.so_far c.count_term-so_far.result c.count_term.result (k c.in-Eq.t) (k c.in-Eq.u) c.count_term-so_far.ensures c.count_term.ensures
    ∙ ap (sizes_joined c.args.so_far) (sym (asks_relation c.args.scope.now c.args.guard.now c.in-Eq.t c.in-Eq.u c.in-Eq.is))

pub returns-in-And : goal.returns-in-And
returns-in-And t c =
    let k = guard_conditions c.args.scope.now in
    sizes_both c.args.so_far c.count_guard-so_far.result c.count_guard.result (k c.get.result.now) (k c.get-in-And.result.now) c.count_guard-so_far.ensures c.count_guard.ensures
    ∙ ap (sizes_joined c.args.so_far)
    (sym (asks_connective c.args.scope.now c.args.guard.now c.in-And.f c.in-And.g c.in-And.is ∙ (λ i. k (sym c.get.ensures i) ++ k (sym c.get-in-And.ensures i))))
