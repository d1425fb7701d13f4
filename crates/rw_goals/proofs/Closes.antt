-- The rules that close a goal are sound.
use Rattle.std.proofs.Common.{◌≡◌, Bool, true, false, List, [], ◌∷◌, refl, sym, ap, subst, true≢false, ⊎_elim}
use Rattle.std.proofs.lemmas.Bool.{or_cases}
use Rattle.std.specs.List.{list_any}
use Rattle.rw_terms.specs.declared.term.Formula.{Formula}
use Rattle.rw_terms.specs.declared.term.Formula.TheOpen.{Formula-F}
use Rattle.rw_terms.specs.declared.term.Formula.TheViews.{out-Formula}
use Rattle.rw_terms.specs.declared.sequent.Sequent.{Sequent}
use Rattle.rw_terms.specs.State.{State, value_in}
use Rattle.rw_terms.specs.Value.{value_by}
use Rattle.rw_terms.specs.Truth.{Definition}
use Rattle.rw_terms.specs.Validity.{Each, Valid}
use Rattle.rw_goals.specs.declared.closing.Closing.{Closing}
use Rattle.rw_goals.specs.declared.closing.Closing.TheVariants as closes
use Rattle.rw_terms.specs.Same.{same_formula}
use Rattle.rw_goals.specs.Closing.{is_false, is_true, is_reflexive, closes_if, closed_by}
use Rattle.rw_terms.proofs.Decides.{term_told, formula_told}
use Rattle.rw_goals.proofs.Sound.{Holds, Denies, HoldsAt, opened, closed, AllValid}

-- a list of which each item has P and some item passes a test, which no item with P does
none_passes : {X : Type 0} (P : X → Type 0) (test : X → Bool) → ((x : X) → test x ≡ true → ¬ (P x)) → (l : List X) → list_any test l ≡ true → ¬ (Each P l)
none_passes P test deny [] e h = true≢false (sym e)
none_passes P test deny (x ∷ xs) e h = ⊎_elim (λ t. deny x t h.0) (λ t. none_passes P test deny xs t h.1) (or_cases (test x) _ e)

module _ (library : List Definition) where
  passed : (b : Bool) → AllValid library (closes_if b) → b ≡ true
  passed true v = refl
  passed false v = absurd v

  no_false : (s0 s : State) (x : Formula-F Formula) → is_false x ≡ true → ¬ (HoldsAt library s0 s x)
  no_false s0 s Formula-F.False e h = h
  no_false s0 s _ e h = true≢false (sym e)

  all_true : (s0 s : State) (x : Formula-F Formula) → is_true x ≡ true → HoldsAt library s0 s x
  all_true s0 s Formula-F.True e = tt
  all_true s0 s _ e = absurd (true≢false (sym e))

  all_reflexive : (s0 s : State) (x : Formula-F Formula) → is_reflexive x ≡ true → HoldsAt library s0 s x
  all_reflexive s0 s (Formula-F.Eq t u) e = ap (value_by (value_in s) (value_in s0) (value_in s) []) (term_told t u e)
  all_reflexive s0 s _ e = absurd (true≢false (sym e))

  pub closing_sound : (c : Closing) (q : Sequent) → AllValid library (closed_by c q) → Valid library q
  closing_sound closes.Common q v = λ s0 s i j left right.
      none_passes (Holds library s0 s) _
      (λ f e h. none_passes (Denies library s0 s) (same_formula f) (λ g k deny. deny (subst (Holds library s0 s) (formula_told f g k) h)) q.right e right)
      q.left (passed _ v) left
  closing_sound closes.False q v = λ s0 s i j left right.
      none_passes (Holds library s0 s) _ (λ f e h. no_false s0 s (out-Formula f) e (opened library s0 s f h)) q.left (passed _ v) left
  closing_sound closes.True q v = λ s0 s i j left right.
      none_passes (Denies library s0 s) _ (λ f e deny. deny (closed library s0 s f (all_true s0 s (out-Formula f) e))) q.right (passed _ v) right
  closing_sound closes.Reflexive q v = λ s0 s i j left right.
      none_passes (Denies library s0 s) _ (λ f e deny. deny (closed library s0 s f (all_reflexive s0 s (out-Formula f) e))) q.right (passed _ v) right
