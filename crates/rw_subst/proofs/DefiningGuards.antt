-- The law of definedness of guards.
use Rattle.std.proofs.Common.{◌≡◌, ◌↔◌, Bool, true, false, ◌&&◌, is_some, List, [], ◌++◌, Some, sym, ◌∙◌, subst, true≢false}
use Rattle.std.proofs.lemmas.Bool.{and_parts}
use Rattle.rw_terms.specs.declared.scope.Entry.{Entry}
use Rattle.rw_terms.specs.declared.scope.Head.{Head}
use Rattle.rw_terms.specs.declared.term.Sort.{Sort}
use Rattle.rw_terms.specs.declared.term.Sort.TheVariants.{Int}
use Rattle.rw_terms.specs.declared.term.Term.{Term}
use Rattle.rw_terms.specs.declared.term.Formula.{Formula}
use Rattle.rw_terms.specs.declared.term.Formula.TheOpen.{Formula-F}
use Rattle.rw_terms.specs.declared.term.Formula.TheViews.{roll-Formula}
use Rattle.rw_terms.specs.declared.term.Formula.TheFolds.{map-Formula, ind-Formula, fold-roll-Formula}
use Rattle.rw_terms.specs.State.{State, Fits}
use Rattle.rw_terms.specs.Truth.{Definition}
use Rattle.rw_terms.specs.Rules.{of_ints, sort_in, keeps_step, keeps_rules}
use Rattle.rw_terms.specs.Defined.{TermsDefined, Defined, GuardDefined}
use Rattle.rw_terms.proofs.Agree.{and_iff}
use Rattle.rw_subst.specs.Definedness.{conditions, guard_conditions_step, guard_conditions}
use Rattle.rw_subst.specs.Guards.{guard_step, is_guard, DefinednessOfGuards}
use Rattle.rw_subst.proofs.Every.{OfFormulaParts, every_formula}
use Rattle.rw_subst.proofs.WellSorted.{compared_parts, equal_parts}
use Rattle.rw_subst.proofs.Defining.{then, back, before, each_append, IsTrueHere, AllHold, conj_holds, term_claim}

module _ (scope : List Entry) (heads : List Head) (library : List Definition) (s0 s : State) (fits0 : Fits scope s0) (fits : Fits scope s) where
  abbrev keeps : Formula → List Sort → Bool
  keeps = keeps_rules scope heads

  abbrev holding : List Formula → Type 0
  holding = AllHold scope library s0 s fits0 fits

  abbrev Claim : Formula → Type 0
  Claim g = is_guard g ≡ true → keeps g [] ≡ true → holding (guard_conditions scope g) ↔ GuardDefined s0 s g

  abbrev Layer : Type 0
  Layer = Formula-F ((g : Formula) × Claim g)

  abbrev under : Layer → Formula-F Formula
  under = map-Formula ((g : Formula) × Claim g) Formula (λ e. e.0)

  behind : {A : Type 0} → A ↔ (A × Unit {0})
  behind = (λ a. (a, tt), λ p. p.0)

  two_terms : (t u : Term) (q r : Sort) → sort_in scope [] t ≡ Some q → sort_in scope [] u ≡ Some r → holding (conditions scope t ++ conditions scope u) ↔ ((Defined s0 s t × Defined s0 s u) × Unit {0})
  two_terms t u q r e f =
      then (each_append (IsTrueHere scope library s0 s fits0 fits) (conditions scope t) (conditions scope u))
      (then (and_iff (term_claim scope library s0 s fits0 fits t q e) (term_claim scope library s0 s fits0 fits u r f)) behind)

  compared : (t u : Term) → is_some (of_ints (sort_in scope [] t) (sort_in scope [] u)) ≡ true → holding (conditions scope t ++ conditions scope u) ↔ ((Defined s0 s t × Defined s0 s u) × Unit {0})
  compared t u h = let parts = compared_parts _ _ h in two_terms t u Int Int parts.0 parts.1

  two_formulas : (f g : (g : Formula) × Claim g) → (is_guard f.0 && is_guard g.0) ≡ true → (keeps f.0 [] && keeps g.0 []) ≡ true →
      holding (guard_conditions scope f.0 ++ guard_conditions scope g.0) ↔ (Unit {0} × (GuardDefined s0 s f.0 × GuardDefined s0 s g.0))
  two_formulas f g e h =
      then (each_append (IsTrueHere scope library s0 s fits0 fits) (guard_conditions scope f.0) (guard_conditions scope g.0))
      (then (and_iff (f.1 (and_parts (is_guard f.0) (is_guard g.0) e).0 (and_parts (keeps f.0 []) (keeps g.0 []) h).0) (g.1 (and_parts (is_guard f.0) (is_guard g.0) e).1 (and_parts (keeps f.0 []) (keeps g.0 []) h).1)) before)

  claim_layer : (y : Layer) → guard_step (map-Formula Formula Bool is_guard (under y)) ≡ true → keeps_step scope heads (map-Formula Formula (List Sort → Bool) keeps (under y)) [] ≡ true →
      holding (guard_conditions_step scope (map-Formula Formula (List Formula) (guard_conditions scope) (under y))) ↔ (TermsDefined s0 s (under y) × OfFormulaParts (GuardDefined s0 s) (under y))
  claim_layer Formula-F.True e h = before
  claim_layer Formula-F.False e h = before
  claim_layer (Formula-F.Eq t u) e h = let parts = equal_parts _ _ h in two_terms t u parts.0.0 parts.1.0 parts.0.1 parts.1.1
  claim_layer (Formula-F.Less t u) e h = compared t u h
  claim_layer (Formula-F.AtMost t u) e h = compared t u h
  claim_layer (Formula-F.Not f) e h = then (f.1 e h) before
  claim_layer (Formula-F.And f g) e h = two_formulas f g e h
  claim_layer (Formula-F.Or f g) e h = two_formulas f g e h
  claim_layer (Formula-F.Imp f g) e h = two_formulas f g e h
  claim_layer (Formula-F.All sort f) e h = absurd (true≢false (sym e))
  claim_layer (Formula-F.Any sort f) e h = absurd (true≢false (sym e))
  claim_layer (Formula-F.App p args) e h = absurd (true≢false (sym e))

  claim_at : (y : Layer) → Claim (roll-Formula (under y))
  claim_at y e h =
      let layer =
      claim_layer y (sym (fold-roll-Formula Bool guard_step (under y)) ∙ e) (sym (λ i. fold-roll-Formula (List Sort → Bool) (keeps_step scope heads) (under y) i []) ∙ h) in
      let asked = fold-roll-Formula (List Formula) (guard_conditions_step scope) (under y) in
      then (λ k. subst holding asked k, λ k. subst holding (sym asked) k) (then layer (back (every_formula (TermsDefined s0 s) (under y))))

  guard_claim : (g : Formula) → Claim g
  guard_claim = ind-Formula Claim (λ x y is. subst (λ z. Claim (roll-Formula z)) is (claim_at y))

pub definedness_of_guards : DefinednessOfGuards
definedness_of_guards scope heads g formed guard library s0 s fits0 fits =
    then (conj_holds scope library s0 s fits0 fits (guard_conditions scope g)) (guard_claim scope heads library s0 s fits0 fits g guard formed.1)
