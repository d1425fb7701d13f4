-- A term put for another of the same value keeps values and truth.
use Rattle.std.proofs.Common.{◌≡◌, ◌↔◌, ℕ, Bool, true, false, List, [], ◌∷◌, map, refl, sym, ap, ◌∙◌, subst, ◌<ℤ◌, ◌≤ℤ◌}
use Rattle.rw_terms.specs.declared.term.Term.{Term}
use Rattle.rw_terms.specs.declared.term.Term.TheVariants as v
use Rattle.rw_terms.specs.declared.term.Term.TheOpen.{Term-F}
use Rattle.rw_terms.specs.declared.term.Term.TheViews.{roll-Term, out-Term, roll-out-Term}
use Rattle.rw_terms.specs.declared.term.Term.TheFolds.{map-Term, ind-Term, fold-roll-Term, para-roll-Term}
use Rattle.rw_terms.specs.declared.term.Formula.{Formula}
use Rattle.rw_terms.specs.declared.term.Formula.TheVariants as formula
use Rattle.rw_terms.specs.declared.term.Formula.TheOpen.{Formula-F}
use Rattle.rw_terms.specs.declared.term.Formula.TheViews.{roll-Formula}
use Rattle.rw_terms.specs.declared.term.Formula.TheFolds.{map-Formula, ind-Formula, fold-roll-Formula}
use Rattle.rw_terms.specs.State.{Value, whole}
use Rattle.rw_terms.specs.Value.{value_step, value_by}
use Rattle.rw_terms.specs.Truth.{Predicates, holds_by}
use Rattle.rw_terms.proofs.Truths.{to_layer, from_layer, layer_truth}
use Rattle.rw_terms.proofs.Agree.{not_iff, and_iff, imp_iff, all_iff, along, along_both}
use Rattle.rw_terms.specs.Same.{same_term}
use Rattle.rw_terms.proofs.Decides.{term_told}
use Rattle.rw_equations.specs.Rewritten.{assembled, chosen, rewritten_step, rewritten_term, parts_rewritten, rewritten_formula_step, rewritten_formula}

-- the term of parts, each changed, is the changed layer rolled up
assembled_rolls : (f : Term → Term) (x : Term-F Term) → assembled f x ≡ roll-Term (map-Term Term Term f x)
assembled_rolls f (Term-F.Lit n) = sym (v.rolls-Lit n)
assembled_rolls f (Term-F.Var x) = sym (v.rolls-Var x)
assembled_rolls f (Term-F.Init x) = sym (v.rolls-Init x)
assembled_rolls f (Term-F.Const x) = sym (v.rolls-Const x)
assembled_rolls f (Term-F.Bound k) = sym (v.rolls-Bound k)
assembled_rolls f (Term-F.Neg a) = sym (v.rolls-Neg (f a))
assembled_rolls f (Term-F.Add a b) = sym (v.rolls-Add (f a) (f b))
assembled_rolls f (Term-F.Sub a b) = sym (v.rolls-Sub (f a) (f b))
assembled_rolls f (Term-F.Mul a b) = sym (v.rolls-Mul (f a) (f b))
assembled_rolls f (Term-F.Div a b) = sym (v.rolls-Div (f a) (f b))
assembled_rolls f (Term-F.Mod a b) = sym (v.rolls-Mod (f a) (f b))
assembled_rolls f (Term-F.Read a i) = sym (v.rolls-Read (f a) (f i))
assembled_rolls f (Term-F.Put a i e) = sym (v.rolls-Put (f a) (f i) (f e))
assembled_rolls f (Term-F.Fun g args) = sym (v.rolls-Fun g (map f args))

module _ (old new : Term) where
  abbrev paired : Term → Term × Term
  paired t = (t, rewritten_term old new t)

  firsts : (ts : List Term) → map (λ (e : Term × Term). e.0) (map paired ts) ≡ ts
  firsts [] = refl
  firsts (t ∷ ts) = ap (λ us. t ∷ us) (firsts ts)

  seconds : (ts : List Term) → map (λ (e : Term × Term). e.1) (map paired ts) ≡ map (rewritten_term old new) ts
  seconds [] = refl
  seconds (t ∷ ts) = ap (λ us. rewritten_term old new t ∷ us) (seconds ts)

  -- the whole part, from what the step sees of it
  wholes : (x : Term-F Term) → assembled (λ (e : Term × Term). e.0) (map-Term Term (Term × Term) paired x) ≡ roll-Term x
  wholes (Term-F.Lit n) = sym (v.rolls-Lit n)
  wholes (Term-F.Var x) = sym (v.rolls-Var x)
  wholes (Term-F.Init x) = sym (v.rolls-Init x)
  wholes (Term-F.Const x) = sym (v.rolls-Const x)
  wholes (Term-F.Bound k) = sym (v.rolls-Bound k)
  wholes (Term-F.Neg a) = sym (v.rolls-Neg a)
  wholes (Term-F.Add a b) = sym (v.rolls-Add a b)
  wholes (Term-F.Sub a b) = sym (v.rolls-Sub a b)
  wholes (Term-F.Mul a b) = sym (v.rolls-Mul a b)
  wholes (Term-F.Div a b) = sym (v.rolls-Div a b)
  wholes (Term-F.Mod a b) = sym (v.rolls-Mod a b)
  wholes (Term-F.Read a i) = sym (v.rolls-Read a i)
  wholes (Term-F.Put a i e) = sym (v.rolls-Put a i e)
  wholes (Term-F.Fun f args) = ap (v.Fun f) (firsts args) ∙ sym (v.rolls-Fun f args)

  -- and the part made of its rewritten parts
  renewed : (x : Term-F Term) → assembled (λ (e : Term × Term). e.1) (map-Term Term (Term × Term) paired x) ≡ assembled (rewritten_term old new) x
  renewed (Term-F.Lit n) = refl
  renewed (Term-F.Var x) = refl
  renewed (Term-F.Init x) = refl
  renewed (Term-F.Const x) = refl
  renewed (Term-F.Bound k) = refl
  renewed (Term-F.Neg a) = refl
  renewed (Term-F.Add a b) = refl
  renewed (Term-F.Sub a b) = refl
  renewed (Term-F.Mul a b) = refl
  renewed (Term-F.Div a b) = refl
  renewed (Term-F.Mod a b) = refl
  renewed (Term-F.Read a i) = refl
  renewed (Term-F.Put a i e) = refl
  renewed (Term-F.Fun f args) = ap (v.Fun f) (seconds args)

  at_layer : (x : Term-F Term) → rewritten_term old new (roll-Term x) ≡ chosen (same_term old (roll-Term x)) new (assembled (rewritten_term old new) x)
  at_layer x =
      para-roll-Term Term (rewritten_step old new) x
      ∙ ap (λ w. chosen (same_term old w) new (assembled (λ (e : Term × Term). e.1) (map-Term Term (Term × Term) paired x))) (wholes x)
      ∙ ap (chosen (same_term old (roll-Term x)) new) (renewed x)

  -- the rewritten term is the new one where it is the old one, and else is made of its parts
  pub unfolds : (t : Term) → rewritten_term old new t ≡ chosen (same_term old t) new (parts_rewritten old new t)
  unfolds t =
      subst (λ u. rewritten_term old new u ≡ chosen (same_term old u) new (parts_rewritten old new t)) (roll-out-Term t) (at_layer (out-Term t))

  module _ (predicates : Predicates) (var init const : List ℕ → Value) (same : (b : List Value) → value_by var init const b old ≡ value_by var init const b new) where
    module _ (b : List Value) where
      abbrev val : Term → Value
      val = value_by var init const b

      abbrev here : Term-F Value → Value
      here = value_step var init const b

      abbrev Kept : Term → Type 0
      Kept t = val (rewritten_term old new t) ≡ val t

      abbrev Layer : Type 0
      Layer = Term-F ((t : Term) × Kept t)

      abbrev under : Layer → Term-F Term
      under = map-Term ((t : Term) × Kept t) Term (λ e. e.0)

      parts_kept : (y : Layer) → here (map-Term Term Value val (map-Term Term Term (rewritten_term old new) (under y))) ≡ here (map-Term Term Value val (under y))
      parts_kept (Term-F.Lit n) = refl
      parts_kept (Term-F.Var x) = refl
      parts_kept (Term-F.Init x) = refl
      parts_kept (Term-F.Const x) = refl
      parts_kept (Term-F.Bound k) = refl
      parts_kept (Term-F.Neg a) = λ i. here (Term-F.Neg (a.1 i))
      parts_kept (Term-F.Add a c) = λ i. here (Term-F.Add (a.1 i) (c.1 i))
      parts_kept (Term-F.Sub a c) = λ i. here (Term-F.Sub (a.1 i) (c.1 i))
      parts_kept (Term-F.Mul a c) = λ i. here (Term-F.Mul (a.1 i) (c.1 i))
      parts_kept (Term-F.Div a c) = λ i. here (Term-F.Div (a.1 i) (c.1 i))
      parts_kept (Term-F.Mod a c) = λ i. here (Term-F.Mod (a.1 i) (c.1 i))
      parts_kept (Term-F.Read a c) = λ i. here (Term-F.Read (a.1 i) (c.1 i))
      parts_kept (Term-F.Put a c d) = λ i. here (Term-F.Put (a.1 i) (c.1 i) (d.1 i))
      parts_kept (Term-F.Fun f args) = refl

      choice_kept : (c : Bool) (t u : Term) → same_term old t ≡ c → val u ≡ val t → val (chosen c new u) ≡ val t
      choice_kept true t u e h = sym (same b) ∙ ap val (term_told old t e)
      choice_kept false t u e h = h

      kept_at : (y : Layer) → Kept (roll-Term (under y))
      kept_at y =
          ap val (at_layer (under y))
          ∙ choice_kept _ (roll-Term (under y)) (assembled (rewritten_term old new) (under y)) refl
          (ap val (assembled_rolls (rewritten_term old new) (under y))
          ∙ fold-roll-Term Value here (map-Term Term Term (rewritten_term old new) (under y))
          ∙ parts_kept y
          ∙ sym (fold-roll-Term Value here (under y)))

      kept : (t : Term) → Kept t
      kept = ind-Term Kept (λ x y is. subst (λ z. Kept (roll-Term z)) is (kept_at y))

      all_kept : (ts : List Term) → map val (map (rewritten_term old new) ts) ≡ map val ts
      all_kept [] = refl
      all_kept (t ∷ ts) = let p = kept t in let q = all_kept ts in λ i. p i ∷ q i

    abbrev truth : Formula → List Value → Type 0
    truth = holds_by predicates var init const

    abbrev KeptTruth : Formula → Type 0
    KeptTruth f = (b : List Value) → truth (rewritten_formula old new f) b ↔ truth f b

    abbrev FormulaLayer : Type 0
    FormulaLayer = Formula-F ((f : Formula) × KeptTruth f)

    abbrev inside : FormulaLayer → Formula-F Formula
    inside = map-Formula ((f : Formula) × KeptTruth f) Formula (λ e. e.0)

    -- a layer with its terms rewritten
    abbrev retermed : Formula-F Formula → Formula-F Formula
    retermed Formula-F.True = Formula-F.True
    retermed Formula-F.False = Formula-F.False
    retermed (Formula-F.Eq t u) = Formula-F.Eq (rewritten_term old new t) (rewritten_term old new u)
    retermed (Formula-F.Less t u) = Formula-F.Less (rewritten_term old new t) (rewritten_term old new u)
    retermed (Formula-F.AtMost t u) = Formula-F.AtMost (rewritten_term old new t) (rewritten_term old new u)
    retermed (Formula-F.Not f) = Formula-F.Not f
    retermed (Formula-F.And f g) = Formula-F.And f g
    retermed (Formula-F.Or f g) = Formula-F.Or f g
    retermed (Formula-F.Imp f g) = Formula-F.Imp f g
    retermed (Formula-F.All sort f) = Formula-F.All sort f
    retermed (Formula-F.Any sort f) = Formula-F.Any sort f
    retermed (Formula-F.App p args) = Formula-F.App p (map (rewritten_term old new) args)

    step_rolls : (x : Formula-F Formula) → rewritten_formula_step old new x ≡ roll-Formula (retermed x)
    step_rolls Formula-F.True = sym formula.rolls-True
    step_rolls Formula-F.False = sym formula.rolls-False
    step_rolls (Formula-F.Eq t u) = sym (formula.rolls-Eq _ _)
    step_rolls (Formula-F.Less t u) = sym (formula.rolls-Less _ _)
    step_rolls (Formula-F.AtMost t u) = sym (formula.rolls-AtMost _ _)
    step_rolls (Formula-F.Not f) = sym (formula.rolls-Not f)
    step_rolls (Formula-F.And f g) = sym (formula.rolls-And f g)
    step_rolls (Formula-F.Or f g) = sym (formula.rolls-Or f g)
    step_rolls (Formula-F.Imp f g) = sym (formula.rolls-Imp f g)
    step_rolls (Formula-F.All sort f) = sym (formula.rolls-All sort f)
    step_rolls (Formula-F.Any sort f) = sym (formula.rolls-Any sort f)
    step_rolls (Formula-F.App p args) = sym (formula.rolls-App p _)

    layer_kept : (y : FormulaLayer) (b : List Value) →
        layer_truth predicates var init const (retermed (map-Formula Formula Formula (rewritten_formula old new) (inside y))) b
        ↔ layer_truth predicates var init const (inside y) b
    layer_kept Formula-F.True b = (λ h. h, λ h. h)
    layer_kept Formula-F.False b = (λ h. h, λ h. h)
    layer_kept (Formula-F.Eq t u) b = along_both (λ p q. p ≡ q) (kept b t) (kept b u)
    layer_kept (Formula-F.Less t u) b = along_both (λ p q. whole p <ℤ whole q) (kept b t) (kept b u)
    layer_kept (Formula-F.AtMost t u) b = along_both (λ p q. whole p ≤ℤ whole q) (kept b t) (kept b u)
    layer_kept (Formula-F.Not f) b = not_iff (f.1 b)
    layer_kept (Formula-F.And f g) b = and_iff (f.1 b) (g.1 b)
    layer_kept (Formula-F.Or f g) b = not_iff (and_iff (not_iff (f.1 b)) (not_iff (g.1 b)))
    layer_kept (Formula-F.Imp f g) b = imp_iff (f.1 b) (g.1 b)
    layer_kept (Formula-F.All s f) b = all_iff _ _ s (λ w. f.1 (w ∷ b))
    layer_kept (Formula-F.Any s f) b = not_iff (all_iff _ _ s (λ w. not_iff (f.1 (w ∷ b))))
    layer_kept (Formula-F.App p args) b = along (predicates p) (all_kept b args)

    truth_kept_at : (y : FormulaLayer) → KeptTruth (roll-Formula (inside y))
    truth_kept_at y b =
        let x = retermed (map-Formula Formula Formula (rewritten_formula old new) (inside y)) in
        let is : rewritten_formula old new (roll-Formula (inside y)) ≡ roll-Formula x = fold-roll-Formula Formula (rewritten_formula_step old new) (inside y) ∙ step_rolls _ in
        let both = layer_kept y b in (
          λ h. from_layer predicates _ _ _ (inside y) b (both.0 (to_layer predicates _ _ _ x b (subst (λ f. truth f b) is h))),
          λ h. subst (λ f. truth f b) (sym is) (from_layer predicates _ _ _ x b (both.1 (to_layer predicates _ _ _ (inside y) b h))),
        )

    pub truth_kept : (f : Formula) → KeptTruth f
    truth_kept = ind-Formula KeptTruth (λ x y is. subst (λ z. KeptTruth (roll-Formula z)) is (truth_kept_at y))
