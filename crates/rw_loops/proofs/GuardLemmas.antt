-- Guards taken together: their conditions, and where one of them holds.
use Rattle.std.proofs.Common.{◌≡◌, List, [], ◌∷◌, ◌++◌, map, sym, ap, ◌∙◌, subst, append_assoc, reverse}
use Rattle.std.proofs.lemmas.List.{append-nil}
use Rattle.rw_terms.specs.declared.scope.Entry.{Entry}
use Rattle.rw_terms.specs.declared.term.Formula.{Formula}
use Rattle.rw_terms.specs.declared.term.Formula.TheVariants as formula
use Rattle.rw_terms.specs.declared.term.Formula.TheOpen.{Formula-F}
use Rattle.rw_terms.specs.declared.term.Formula.TheFolds.{fold-roll-Formula}
use Rattle.rw_terms.specs.State.{State as Map}
use Rattle.rw_terms.specs.Defined.{TermsDefined, GuardDefined}
use Rattle.rw_terms.specs.Truth.{Definition, predicates_of}
use Rattle.rw_terms.specs.Validity.{Each}
use Rattle.rw_terms.proofs.Truths.{to_layer, from_layer}
use Rattle.rw_subst.specs.Conj.{conj}
use Rattle.rw_subst.specs.Definedness.{appended, guard_conditions_step, guard_conditions, guard_definedness}
use Rattle.rw_subst.proofs.Every.{every_formula}
use Rattle.rw_programs.specs.State.{State, Holds}
use Rattle.rw_subst.specs.Conj.{disj_with, disj}
use Rattle.rw_loops.specs.Guards.{guards_definedness}

module _ (scope : List Entry) where
  conditions_of_or : (f g : Formula) → guard_conditions scope (formula.Or f g) ≡ guard_conditions scope f ++ guard_conditions scope g
  conditions_of_or f g = ap (guard_conditions scope) (sym (formula.rolls-Or f g)) ∙ fold-roll-Formula (List Formula) (guard_conditions_step scope) (Formula-F.Or f g)

  conditions_with : (f : Formula) (gs : List Formula) → guard_conditions scope (disj_with f gs) ≡ guard_conditions scope f ++ appended (map (guard_conditions scope) gs)
  conditions_with f [] = sym (append-nil (guard_conditions scope f))
  conditions_with f (g ∷ gs) =
      conditions_with (formula.Or f g) gs
      ∙ (ap (λ l. l ++ appended (map (guard_conditions scope) gs)) (conditions_of_or f g) ∙ append_assoc (guard_conditions scope f) (guard_conditions scope g) (appended (map (guard_conditions scope) gs)))

  conditions_of_disj : (guards : List Formula) → guard_conditions scope (disj guards) ≡ appended (map (guard_conditions scope) guards)
  conditions_of_disj [] = ap (guard_conditions scope) (sym formula.rolls-False) ∙ fold-roll-Formula (List Formula) (guard_conditions_step scope) Formula-F.False
  conditions_of_disj (g ∷ gs) = conditions_with g gs

  -- the guards are defined where their disjunction is
  pub definedness_of_disj : (guards : List Formula) → guard_definedness scope (disj guards) ≡ guards_definedness scope guards
  definedness_of_disj guards = ap conj (conditions_of_disj guards)

module _ (s0 s : Map) where
  defined_of_or : (f g : Formula) → GuardDefined s0 s (formula.Or f g) → GuardDefined s0 s f × GuardDefined s0 s g
  defined_of_or f g h = ((every_formula (TermsDefined s0 s) (Formula-F.Or f g)).0 (subst (GuardDefined s0 s) (sym (formula.rolls-Or f g)) h)).1

  defined_with : (f : Formula) (gs : List Formula) → GuardDefined s0 s (disj_with f gs) → GuardDefined s0 s f × Each (GuardDefined s0 s) gs
  defined_with f [] h = (h, tt)
  defined_with f (g ∷ gs) h = let r = defined_with (formula.Or f g) gs h in let p = defined_of_or f g r.0 in (p.0, (p.1, r.1))

  -- each guard is defined where their disjunction is
  pub each_defined : (guards : List Formula) → GuardDefined s0 s (disj guards) → Each (GuardDefined s0 s) guards
  each_defined [] h = tt
  each_defined (g ∷ gs) h = defined_with g gs h

module _ (library : List Definition) (s0 s : State) where
  abbrev pub Denies : Formula → Type 0
  Denies f = ¬ (Holds library f s0 s)

  or_holds : (f g : Formula) → Holds library (formula.Or f g) s0 s → ¬ (Denies f × Denies g)
  or_holds f g h = to_layer (predicates_of (reverse library)) _ _ _ (Formula-F.Or f g) [] (subst (λ z. Holds library z s0 s) (sym (formula.rolls-Or f g)) h)

  false_holds : Holds library formula.False s0 s → ⊥
  false_holds h = to_layer (predicates_of (reverse library)) _ _ _ Formula-F.False [] (subst (λ z. Holds library z s0 s) (sym formula.rolls-False) h)

  some_with : (f : Formula) (gs : List Formula) → Holds library (disj_with f gs) s0 s → ¬ (Denies f × Each Denies gs)
  some_with f [] h n = n.0 h
  some_with f (g ∷ gs) h n = some_with (formula.Or f g) gs h ((λ k. or_holds f g k (n.0, n.1.0)), n.1.1)

  -- not every formula fails where their disjunction holds
  pub some_holds : (fs : List Formula) → Holds library (disj fs) s0 s → ¬ (Each Denies fs)
  some_holds [] h n = false_holds h
  some_holds (f ∷ fs) h n = some_with f fs h n

  pub both_hold : (f g : Formula) → Holds library f s0 s → Holds library g s0 s → Holds library (formula.And f g) s0 s
  both_hold f g h k = subst (λ z. Holds library z s0 s) (formula.rolls-And f g) (from_layer (predicates_of (reverse library)) _ _ _ (Formula-F.And f g) [] (h, k))
