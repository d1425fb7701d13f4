-- The predicates of formulas that are built of others.
use Rattle.std.proofs.Common.{◌≡◌, ℕ, suc, Bool, true, false, ◌||◌, List, ◌++◌, refl, sym, ap, ◌∙◌, subst, bytes_eq}
use Rattle.std.specs.List.{list_any}
use Rattle.std.proofs.lemmas.List.Folds.{list_any-append}
use Rattle.rw_terms.specs.declared.term.Term.{Term}
use Rattle.rw_terms.specs.declared.term.Formula.{Formula}
use Rattle.rw_terms.specs.declared.term.Formula.TheVariants as formula
use Rattle.rw_terms.specs.declared.term.Formula.TheOpen.{Formula-F}
use Rattle.rw_terms.specs.declared.term.Formula.TheViews.{out-Formula, roll-Formula, roll-out-Formula}
use Rattle.rw_terms.specs.declared.term.Formula.TheFolds.{map-Formula, ind-Formula, fold-roll-Formula}
use Rattle.rw_subst.specs.Leaves.{Leaves, rebuilt_formula_step, rebuilt_formula}
use Rattle.rw_equations.specs.Rewritten.{rewritten_formula_step, rewritten_formula}
use Rattle.rw_library.specs.Naming.{applies_step, applies}
use Rattle.rw_lemmas.specs.Citing.{predicates_step, predicates}

-- the predicates of a formula's parts
abbrev pub in_parts : Formula-F Formula → List (List ℕ)
in_parts x = predicates_step (map-Formula Formula (List (List ℕ)) predicates x)

pub of_parts : (x : Formula-F Formula) (f : Formula) → roll-Formula x ≡ f → predicates f ≡ in_parts x
of_parts x f e = ap predicates (sym e) ∙ fold-roll-Formula (List (List ℕ)) predicates_step x

pub by_parts : (f : Formula) → predicates f ≡ in_parts (out-Formula f)
by_parts f = of_parts (out-Formula f) f (roll-out-Formula f)

-- a formula built again has the same predicates
module _ (leaves : Leaves) where
  abbrev Kept : Formula → Type 0
  Kept f = (k : ℕ) → predicates (rebuilt_formula leaves f k) ≡ predicates f

  abbrev Layer : Type 0
  Layer = Formula-F ((f : Formula) × Kept f)

  abbrev inside : Layer → Formula-F Formula
  inside = map-Formula ((f : Formula) × Kept f) Formula (λ e. e.0)

  kept_layer : (y : Layer) (k : ℕ) → predicates (rebuilt_formula_step leaves (map-Formula Formula (ℕ → Formula) (rebuilt_formula leaves) (inside y)) k) ≡ in_parts (inside y)
  kept_layer Formula-F.True k = of_parts Formula-F.True _ formula.rolls-True
  kept_layer Formula-F.False k = of_parts Formula-F.False _ formula.rolls-False
  kept_layer (Formula-F.Eq t u) k = of_parts (Formula-F.Eq _ _) _ (formula.rolls-Eq _ _)
  kept_layer (Formula-F.Less t u) k = of_parts (Formula-F.Less _ _) _ (formula.rolls-Less _ _)
  kept_layer (Formula-F.AtMost t u) k = of_parts (Formula-F.AtMost _ _) _ (formula.rolls-AtMost _ _)
  kept_layer (Formula-F.Not f) k = of_parts (Formula-F.Not _) _ (formula.rolls-Not _) ∙ f.1 k
  kept_layer (Formula-F.And f g) k = of_parts (Formula-F.And _ _) _ (formula.rolls-And _ _) ∙ (λ i. f.1 k i ++ g.1 k i)
  kept_layer (Formula-F.Or f g) k = of_parts (Formula-F.Or _ _) _ (formula.rolls-Or _ _) ∙ (λ i. f.1 k i ++ g.1 k i)
  kept_layer (Formula-F.Imp f g) k = of_parts (Formula-F.Imp _ _) _ (formula.rolls-Imp _ _) ∙ (λ i. f.1 k i ++ g.1 k i)
  kept_layer (Formula-F.All s f) k = of_parts (Formula-F.All _ _) _ (formula.rolls-All _ _) ∙ f.1 (suc k)
  kept_layer (Formula-F.Any s f) k = of_parts (Formula-F.Any _ _) _ (formula.rolls-Any _ _) ∙ f.1 (suc k)
  kept_layer (Formula-F.App p args) k = of_parts (Formula-F.App _ _) _ (formula.rolls-App _ _)

  kept_at : (y : Layer) → Kept (roll-Formula (inside y))
  kept_at y k =
      ap (λ g. predicates (g k)) (fold-roll-Formula (ℕ → Formula) (rebuilt_formula_step leaves) (inside y))
      ∙ kept_layer y k
      ∙ sym (fold-roll-Formula (List (List ℕ)) predicates_step (inside y))

  pub rebuilt_predicates : (f : Formula) → Kept f
  rebuilt_predicates = ind-Formula Kept (λ x y is. subst (λ z. Kept (roll-Formula z)) is (kept_at y))

-- so has one that is rewritten
module _ (old new : Term) where
  abbrev Same : Formula → Type 0
  Same f = predicates (rewritten_formula old new f) ≡ predicates f

  abbrev SameLayer : Type 0
  SameLayer = Formula-F ((f : Formula) × Same f)

  abbrev under : SameLayer → Formula-F Formula
  under = map-Formula ((f : Formula) × Same f) Formula (λ e. e.0)

  same_layer : (y : SameLayer) → predicates (rewritten_formula_step old new (map-Formula Formula Formula (rewritten_formula old new) (under y))) ≡ in_parts (under y)
  same_layer Formula-F.True = of_parts Formula-F.True _ formula.rolls-True
  same_layer Formula-F.False = of_parts Formula-F.False _ formula.rolls-False
  same_layer (Formula-F.Eq t u) = of_parts (Formula-F.Eq _ _) _ (formula.rolls-Eq _ _)
  same_layer (Formula-F.Less t u) = of_parts (Formula-F.Less _ _) _ (formula.rolls-Less _ _)
  same_layer (Formula-F.AtMost t u) = of_parts (Formula-F.AtMost _ _) _ (formula.rolls-AtMost _ _)
  same_layer (Formula-F.Not f) = of_parts (Formula-F.Not _) _ (formula.rolls-Not _) ∙ f.1
  same_layer (Formula-F.And f g) = of_parts (Formula-F.And _ _) _ (formula.rolls-And _ _) ∙ (λ i. f.1 i ++ g.1 i)
  same_layer (Formula-F.Or f g) = of_parts (Formula-F.Or _ _) _ (formula.rolls-Or _ _) ∙ (λ i. f.1 i ++ g.1 i)
  same_layer (Formula-F.Imp f g) = of_parts (Formula-F.Imp _ _) _ (formula.rolls-Imp _ _) ∙ (λ i. f.1 i ++ g.1 i)
  same_layer (Formula-F.All s f) = of_parts (Formula-F.All _ _) _ (formula.rolls-All _ _) ∙ f.1
  same_layer (Formula-F.Any s f) = of_parts (Formula-F.Any _ _) _ (formula.rolls-Any _ _) ∙ f.1
  same_layer (Formula-F.App p args) = of_parts (Formula-F.App _ _) _ (formula.rolls-App _ _)

  same_at : (y : SameLayer) → Same (roll-Formula (under y))
  same_at y =
      ap predicates (fold-roll-Formula Formula (rewritten_formula_step old new) (under y)) ∙ same_layer y ∙ sym (fold-roll-Formula (List (List ℕ)) predicates_step (under y))

  pub rewritten_predicates : (f : Formula) → Same f
  rewritten_predicates = ind-Formula Same (λ x y is. subst (λ z. Same (roll-Formula z)) is (same_at y))

-- whether the predicate of a name stands in a formula
module _ (x : List ℕ) where
  abbrev Seen : Formula → Type 0
  Seen f = applies x f ≡ list_any (λ p. bytes_eq p x) (predicates f)

  abbrev SeenLayer : Type 0
  SeenLayer = Formula-F ((f : Formula) × Seen f)

  abbrev beneath : SeenLayer → Formula-F Formula
  beneath = map-Formula ((f : Formula) × Seen f) Formula (λ e. e.0)

  in_two : (a b : Bool) (xs ys : List (List ℕ)) → a ≡ list_any (λ p. bytes_eq p x) xs → b ≡ list_any (λ p. bytes_eq p x) ys → (a || b) ≡ list_any (λ p. bytes_eq p x) (xs ++ ys)
  in_two a b xs ys e f = (λ i. e i || f i) ∙ sym (list_any-append (λ p. bytes_eq p x) xs ys)

  or_false : (b : Bool) → b ≡ (b || false)
  or_false true = refl
  or_false false = refl

  seen_layer : (y : SeenLayer) → applies_step x (map-Formula Formula Bool (applies x) (beneath y)) ≡ list_any (λ p. bytes_eq p x) (in_parts (beneath y))
  seen_layer Formula-F.True = refl
  seen_layer Formula-F.False = refl
  seen_layer (Formula-F.Eq t u) = refl
  seen_layer (Formula-F.Less t u) = refl
  seen_layer (Formula-F.AtMost t u) = refl
  seen_layer (Formula-F.Not f) = f.1
  seen_layer (Formula-F.And f g) = in_two _ _ (predicates f.0) (predicates g.0) f.1 g.1
  seen_layer (Formula-F.Or f g) = in_two _ _ (predicates f.0) (predicates g.0) f.1 g.1
  seen_layer (Formula-F.Imp f g) = in_two _ _ (predicates f.0) (predicates g.0) f.1 g.1
  seen_layer (Formula-F.All s f) = f.1
  seen_layer (Formula-F.Any s f) = f.1
  seen_layer (Formula-F.App p args) = or_false (bytes_eq p x)

  seen_at : (y : SeenLayer) → Seen (roll-Formula (beneath y))
  seen_at y =
      fold-roll-Formula Bool (applies_step x) (beneath y) ∙ seen_layer y ∙ sym (ap (list_any (λ p. bytes_eq p x)) (fold-roll-Formula (List (List ℕ)) predicates_step (beneath y)))

  pub seen_predicates : (f : Formula) → Seen f
  seen_predicates = ind-Formula Seen (λ z y is. subst (λ z. Seen (roll-Formula z)) is (seen_at y))
