-- What joined formulas say.
use Rattle.std.proofs.Common.{ℕ, List, [], ◌∷◌}
use Rattle.rw_terms.specs.declared.term.Formula.{Formula}
use Rattle.rw_terms.specs.declared.term.Formula.TheVariants as formula
use Rattle.rw_terms.specs.declared.term.Formula.TheOpen.{Formula-F}
use Rattle.rw_terms.specs.declared.term.Formula.TheViews.{roll-Formula}
use Rattle.rw_terms.specs.State.{Value}
use Rattle.rw_terms.specs.Truth.{Predicates, holds_by}
use Rattle.rw_terms.specs.Validity.{Each}
use Rattle.rw_terms.proofs.Truths.{to_layer, from_layer, layer_truth}
use Rattle.rw_subst.specs.Conj.{conj_with, conj, disj_with, disj}
use Rattle.std.proofs.Common.{◌≡◌, subst, sym}

module _ (says : Predicates) (var init const : List ℕ → Value) where
  abbrev Holds : Formula → Type 0
  Holds f = holds_by says var init const f []

  pub rolled : (x : Formula-F Formula) (f : Formula) → roll-Formula x ≡ f → layer_truth says var init const x [] → Holds f
  rolled x f e h = subst Holds e (from_layer says var init const x [] h)

  pub seen : (x : Formula-F Formula) (f : Formula) → roll-Formula x ≡ f → Holds f → layer_truth says var init const x []
  seen x f e h = to_layer says var init const x [] (subst Holds (sym e) h)

  each_of : (f : Formula) (fs : List Formula) → Holds (conj_with f fs) → Holds f × Each Holds fs
  each_of f [] h = (h, tt)
  each_of f (g ∷ gs) h =
      let r = each_of (formula.And f g) gs h in
      let both = seen (Formula-F.And f g) _ (formula.rolls-And f g) r.0 in
      (both.0, (both.1, r.1))

  pub conj_each : (fs : List Formula) → Holds (conj fs) → Each Holds fs
  conj_each [] h = tt
  conj_each (f ∷ fs) h = each_of f fs h

  none_of : (f : Formula) (fs : List Formula) → ¬ (Holds (disj_with f fs)) → (¬ (Holds f)) × Each (λ g. ¬ (Holds g)) fs
  none_of f [] deny = (deny, tt)
  none_of f (g ∷ gs) deny =
      let r = none_of (formula.Or f g) gs deny in (
        λ h. r.0 (rolled (Formula-F.Or f g) _ (formula.rolls-Or f g) (λ both. both.0 h)),
        (λ h. r.0 (rolled (Formula-F.Or f g) _ (formula.rolls-Or f g) (λ both. both.1 h)), r.1),
      )

  pub disj_none : (fs : List Formula) → ¬ (Holds (disj fs)) → Each (λ g. ¬ (Holds g)) fs
  disj_none [] deny = tt
  disj_none (f ∷ fs) deny = none_of f fs deny
