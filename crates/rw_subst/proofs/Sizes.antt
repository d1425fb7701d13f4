-- No term is smaller for having been built again, and none is deeper than it is heavy.
use Rattle.std.proofs.Common.{◌≡◌, ℕ, suc, ◌+◌, ◌≤◌, List, [], ◌∷◌, map, sum, sym, subst, arith}
use Rattle.std.proofs.lemmas.Grind.{common_steps}
use Rattle.rw_terms.specs.declared.term.Term.{Term}
use Rattle.rw_terms.specs.declared.term.Term.TheVariants as v
use Rattle.rw_terms.specs.declared.term.Term.TheOpen.{Term-F}
use Rattle.rw_terms.specs.declared.term.Term.TheViews.{roll-Term}
use Rattle.rw_terms.specs.declared.term.Term.TheFolds.{map-Term, ind-Term, fold-roll-Term}
use Rattle.rw_terms.specs.declared.term.Formula.{Formula}
use Rattle.rw_terms.specs.declared.term.Formula.TheVariants as formula
use Rattle.rw_terms.specs.declared.term.Formula.TheOpen.{Formula-F}
use Rattle.rw_terms.specs.declared.term.Formula.TheViews.{roll-Formula}
use Rattle.rw_terms.specs.declared.term.Formula.TheFolds.{map-Formula, ind-Formula, fold-roll-Formula}
use Rattle.rw_terms.specs.Size.{greatest, term_weight_step, term_weight, terms_weight, term_depth_step, term_depth, terms_depth, weight_step, formula_weight, depth_step, formula_depth}
use Rattle.rw_subst.specs.Leaves.{Leaves, rebuilt_step, rebuilt_term, rebuilt_formula_step, rebuilt_formula}

sum-cons : (n : ℕ) (ns : List ℕ) → sum (n ∷ ns) ≡ n + sum ns
sum-cons n ns = grind (arith, common_steps)

-- a term has a part
abbrev HasDepth : Term → Type 0
HasDepth t = 1 ≤ term_depth t

abbrev DepthLayer : Type 0
DepthLayer = Term-F ((t : Term) × HasDepth t)

has_depth_layer : (y : Term-F Term) → 1 ≤ term_depth_step (map-Term Term ℕ term_depth y)
has_depth_layer (Term-F.Lit n) = omega arith
has_depth_layer (Term-F.Var x) = omega arith
has_depth_layer (Term-F.Init x) = omega arith
has_depth_layer (Term-F.Const x) = omega arith
has_depth_layer (Term-F.Bound k) = omega arith
has_depth_layer (Term-F.Neg a) = omega arith
has_depth_layer (Term-F.Add a b) = omega arith
has_depth_layer (Term-F.Sub a b) = omega arith
has_depth_layer (Term-F.Mul a b) = omega arith
has_depth_layer (Term-F.Div a b) = omega arith
has_depth_layer (Term-F.Mod a b) = omega arith
has_depth_layer (Term-F.Read a i) = omega arith
has_depth_layer (Term-F.Put a i e) = omega arith
has_depth_layer (Term-F.Fun f args) = omega arith

has_depth : (t : Term) → 1 ≤ term_depth t
has_depth = ind-Term HasDepth (λ x y is. subst (λ n. 1 ≤ n) (sym (fold-roll-Term ℕ term_depth_step x)) (has_depth_layer x))

-- a bound on the depth of a term by that of its layer
above_term : (n : ℕ) (x : Term-F Term) (t : Term) → roll-Term x ≡ t → n ≤ term_depth_step (map-Term Term ℕ term_depth x) → n ≤ term_depth t
above_term n x t e h = subst (λ u. n ≤ term_depth u) e (subst (λ m. n ≤ m) (sym (fold-roll-Term ℕ term_depth_step x)) h)

-- and of a formula
above_formula : (n : ℕ) (x : Formula-F Formula) (f : Formula) → roll-Formula x ≡ f → n ≤ depth_step (map-Formula Formula ℕ formula_depth x) → n ≤ formula_depth f
above_formula n x f e h = subst (λ g. n ≤ formula_depth g) e (subst (λ m. n ≤ m) (sym (fold-roll-Formula ℕ depth_step x)) h)

-- a term is no deeper than it is heavy
abbrev Within : Term → Type 0
Within t = term_depth t ≤ term_weight t

abbrev WithinLayer : Type 0
WithinLayer = Term-F ((t : Term) × Within t)

abbrev within_under : WithinLayer → Term-F Term
within_under = map-Term ((t : Term) × Within t) Term (λ e. e.0)

within_each : (ts : List ((t : Term) × Within t)) → greatest (map term_depth (map (λ e. e.0) ts)) ≤ sum (map term_weight (map (λ e. e.0) ts))
within_each [] = omega arith
within_each (t ∷ ts) = omega (arith, t.1, within_each ts, sum-cons (term_weight t.0) (map term_weight (map (λ e. e.0) ts)))

within_layer : (y : WithinLayer) → term_depth_step (map-Term Term ℕ term_depth (within_under y)) ≤ term_weight_step (map-Term Term ℕ term_weight (within_under y))
within_layer (Term-F.Lit n) = omega arith
within_layer (Term-F.Var x) = omega arith
within_layer (Term-F.Init x) = omega arith
within_layer (Term-F.Const x) = omega arith
within_layer (Term-F.Bound k) = omega arith
within_layer (Term-F.Neg a) = omega (arith, a.1)
within_layer (Term-F.Add a b) = omega (arith, a.1, b.1)
within_layer (Term-F.Sub a b) = omega (arith, a.1, b.1)
within_layer (Term-F.Mul a b) = omega (arith, a.1, b.1)
within_layer (Term-F.Div a b) = omega (arith, a.1, b.1)
within_layer (Term-F.Mod a b) = omega (arith, a.1, b.1)
within_layer (Term-F.Read a i) = omega (arith, a.1, i.1)
within_layer (Term-F.Put a i e) = omega (arith, a.1, i.1, e.1)
within_layer (Term-F.Fun f args) = omega (arith, within_each args)

within_at : (y : WithinLayer) → Within (roll-Term (within_under y))
within_at y =
    subst (λ n. n ≤ term_weight (roll-Term (within_under y))) (sym (fold-roll-Term ℕ term_depth_step (within_under y)))
    (subst (λ n. term_depth_step (map-Term Term ℕ term_depth (within_under y)) ≤ n) (sym (fold-roll-Term ℕ term_weight_step (within_under y))) (within_layer y))

pub term_depth_within : (t : Term) → term_depth t ≤ term_weight t
term_depth_within = ind-Term Within (λ x y is. subst (λ z. Within (roll-Term z)) is (within_at y))

terms_depth_within : (ts : List Term) → terms_depth ts ≤ terms_weight ts
terms_depth_within [] = omega arith
terms_depth_within (t ∷ ts) = omega (arith, term_depth_within t, terms_depth_within ts, sum-cons (term_weight t) (map term_weight ts))

-- so is a formula
abbrev FormulaWithin : Formula → Type 0
FormulaWithin f = formula_depth f ≤ formula_weight f

abbrev FormulaWithinLayer : Type 0
FormulaWithinLayer = Formula-F ((f : Formula) × FormulaWithin f)

abbrev formula_under : FormulaWithinLayer → Formula-F Formula
formula_under = map-Formula ((f : Formula) × FormulaWithin f) Formula (λ e. e.0)

formula_within_layer : (y : FormulaWithinLayer) → depth_step (map-Formula Formula ℕ formula_depth (formula_under y)) ≤ weight_step (map-Formula Formula ℕ formula_weight (formula_under y))
formula_within_layer Formula-F.True = omega arith
formula_within_layer Formula-F.False = omega arith
formula_within_layer (Formula-F.Eq t u) = omega (arith, term_depth_within t, term_depth_within u)
formula_within_layer (Formula-F.Less t u) = omega (arith, term_depth_within t, term_depth_within u)
formula_within_layer (Formula-F.AtMost t u) = omega (arith, term_depth_within t, term_depth_within u)
formula_within_layer (Formula-F.Not f) = omega (arith, f.1)
formula_within_layer (Formula-F.And f g) = omega (arith, f.1, g.1)
formula_within_layer (Formula-F.Or f g) = omega (arith, f.1, g.1)
formula_within_layer (Formula-F.Imp f g) = omega (arith, f.1, g.1)
formula_within_layer (Formula-F.All s f) = omega (arith, f.1)
formula_within_layer (Formula-F.Any s f) = omega (arith, f.1)
formula_within_layer (Formula-F.App p args) = omega (arith, terms_depth_within args)

formula_within_at : (y : FormulaWithinLayer) → FormulaWithin (roll-Formula (formula_under y))
formula_within_at y =
    subst (λ n. n ≤ formula_weight (roll-Formula (formula_under y))) (sym (fold-roll-Formula ℕ depth_step (formula_under y)))
    (subst (λ n. depth_step (map-Formula Formula ℕ formula_depth (formula_under y)) ≤ n) (sym (fold-roll-Formula ℕ weight_step (formula_under y))) (formula_within_layer y))

pub formula_depth_within : (f : Formula) → formula_depth f ≤ formula_weight f
formula_depth_within = ind-Formula FormulaWithin (λ x y is. subst (λ z. FormulaWithin (roll-Formula z)) is (formula_within_at y))

module _ (leaves : Leaves) where
  module _ (k : ℕ) where
    -- the result is as deep at least
    abbrev Deep : Term → Type 0
    Deep t = term_depth t ≤ term_depth (rebuilt_term leaves k t)

    abbrev DeepLayer : Type 0
    DeepLayer = Term-F ((t : Term) × Deep t)

    abbrev deep_under : DeepLayer → Term-F Term
    deep_under = map-Term ((t : Term) × Deep t) Term (λ e. e.0)

    abbrev re : Term → Term
    re = rebuilt_term leaves k

    deep_each : (ts : List ((t : Term) × Deep t)) → greatest (map term_depth (map (λ e. e.0) ts)) ≤ greatest (map term_depth (map re (map (λ e. e.0) ts)))
    deep_each [] = omega arith
    deep_each (t ∷ ts) = omega (arith, t.1, deep_each ts)

    deep_layer : (y : DeepLayer) → term_depth_step (map-Term Term ℕ term_depth (deep_under y)) ≤ term_depth (rebuilt_step leaves k (map-Term Term Term re (deep_under y)))
    deep_layer (Term-F.Lit n) = has_depth _
    deep_layer (Term-F.Var x) = has_depth _
    deep_layer (Term-F.Init x) = has_depth _
    deep_layer (Term-F.Const x) = has_depth _
    deep_layer (Term-F.Bound j) = has_depth _
    deep_layer (Term-F.Neg a) = above_term _ (Term-F.Neg (re a.0)) _ (v.rolls-Neg (re a.0)) (omega (arith, a.1))
    deep_layer (Term-F.Add a b) = above_term _ (Term-F.Add (re a.0) (re b.0)) _ (v.rolls-Add (re a.0) (re b.0)) (omega (arith, a.1, b.1))
    deep_layer (Term-F.Sub a b) = above_term _ (Term-F.Sub (re a.0) (re b.0)) _ (v.rolls-Sub (re a.0) (re b.0)) (omega (arith, a.1, b.1))
    deep_layer (Term-F.Mul a b) = above_term _ (Term-F.Mul (re a.0) (re b.0)) _ (v.rolls-Mul (re a.0) (re b.0)) (omega (arith, a.1, b.1))
    deep_layer (Term-F.Div a b) = above_term _ (Term-F.Div (re a.0) (re b.0)) _ (v.rolls-Div (re a.0) (re b.0)) (omega (arith, a.1, b.1))
    deep_layer (Term-F.Mod a b) = above_term _ (Term-F.Mod (re a.0) (re b.0)) _ (v.rolls-Mod (re a.0) (re b.0)) (omega (arith, a.1, b.1))
    deep_layer (Term-F.Read a i) = above_term _ (Term-F.Read (re a.0) (re i.0)) _ (v.rolls-Read (re a.0) (re i.0)) (omega (arith, a.1, i.1))
    deep_layer (Term-F.Put a i e) = above_term _ (Term-F.Put (re a.0) (re i.0) (re e.0)) _ (v.rolls-Put (re a.0) (re i.0) (re e.0)) (omega (arith, a.1, i.1, e.1))
    deep_layer (Term-F.Fun f args) = above_term _ (Term-F.Fun f (map re (map (λ e. e.0) args))) _ (v.rolls-Fun f (map re (map (λ e. e.0) args))) (omega (arith, deep_each args))

    deep_at : (y : DeepLayer) → Deep (roll-Term (deep_under y))
    deep_at y =
        subst (λ n. n ≤ term_depth (rebuilt_term leaves k (roll-Term (deep_under y)))) (sym (fold-roll-Term ℕ term_depth_step (deep_under y)))
        (subst (λ t. term_depth_step (map-Term Term ℕ term_depth (deep_under y)) ≤ term_depth t) (sym (fold-roll-Term Term (rebuilt_step leaves k) (deep_under y))) (deep_layer y))

    pub term_as_deep : (t : Term) → term_depth t ≤ term_depth (rebuilt_term leaves k t)
    term_as_deep = ind-Term Deep (λ x y is. subst (λ z. Deep (roll-Term z)) is (deep_at y))

    terms_as_deep : (ts : List Term) → terms_depth ts ≤ terms_depth (map re ts)
    terms_as_deep [] = omega arith
    terms_as_deep (t ∷ ts) = omega (arith, term_as_deep t, terms_as_deep ts)

  abbrev FormulaDeep : Formula → Type 0
  FormulaDeep f = (k : ℕ) → formula_depth f ≤ formula_depth (rebuilt_formula leaves f k)

  abbrev FormulaDeepLayer : Type 0
  FormulaDeepLayer = Formula-F ((f : Formula) × FormulaDeep f)

  abbrev formula_deep_under : FormulaDeepLayer → Formula-F Formula
  formula_deep_under = map-Formula ((f : Formula) × FormulaDeep f) Formula (λ e. e.0)

  formula_deep_layer : (y : FormulaDeepLayer) (k : ℕ) → depth_step (map-Formula Formula ℕ formula_depth (formula_deep_under y)) ≤ formula_depth (rebuilt_formula_step leaves (map-Formula Formula (ℕ → Formula) (rebuilt_formula leaves) (formula_deep_under y)) k)
  formula_deep_layer Formula-F.True k = above_formula _ Formula-F.True _ formula.rolls-True (omega arith)
  formula_deep_layer Formula-F.False k = above_formula _ Formula-F.False _ formula.rolls-False (omega arith)
  formula_deep_layer (Formula-F.Eq t u) k = above_formula _ (Formula-F.Eq (rebuilt_term leaves k t) (rebuilt_term leaves k u)) _ (formula.rolls-Eq (rebuilt_term leaves k t) (rebuilt_term leaves k u)) (omega (arith, term_as_deep k t, term_as_deep k u))
  formula_deep_layer (Formula-F.Less t u) k = above_formula _ (Formula-F.Less (rebuilt_term leaves k t) (rebuilt_term leaves k u)) _ (formula.rolls-Less (rebuilt_term leaves k t) (rebuilt_term leaves k u)) (omega (arith, term_as_deep k t, term_as_deep k u))
  formula_deep_layer (Formula-F.AtMost t u) k = above_formula _ (Formula-F.AtMost (rebuilt_term leaves k t) (rebuilt_term leaves k u)) _ (formula.rolls-AtMost (rebuilt_term leaves k t) (rebuilt_term leaves k u)) (omega (arith, term_as_deep k t, term_as_deep k u))
  formula_deep_layer (Formula-F.Not f) k = above_formula _ (Formula-F.Not (rebuilt_formula leaves f.0 k)) _ (formula.rolls-Not (rebuilt_formula leaves f.0 k)) (omega (arith, f.1 k))
  formula_deep_layer (Formula-F.And f g) k = above_formula _ (Formula-F.And (rebuilt_formula leaves f.0 k) (rebuilt_formula leaves g.0 k)) _ (formula.rolls-And (rebuilt_formula leaves f.0 k) (rebuilt_formula leaves g.0 k)) (omega (arith, f.1 k, g.1 k))
  formula_deep_layer (Formula-F.Or f g) k = above_formula _ (Formula-F.Or (rebuilt_formula leaves f.0 k) (rebuilt_formula leaves g.0 k)) _ (formula.rolls-Or (rebuilt_formula leaves f.0 k) (rebuilt_formula leaves g.0 k)) (omega (arith, f.1 k, g.1 k))
  formula_deep_layer (Formula-F.Imp f g) k = above_formula _ (Formula-F.Imp (rebuilt_formula leaves f.0 k) (rebuilt_formula leaves g.0 k)) _ (formula.rolls-Imp (rebuilt_formula leaves f.0 k) (rebuilt_formula leaves g.0 k)) (omega (arith, f.1 k, g.1 k))
  formula_deep_layer (Formula-F.All s f) k = above_formula _ (Formula-F.All s (rebuilt_formula leaves f.0 (suc k))) _ (formula.rolls-All s (rebuilt_formula leaves f.0 (suc k))) (omega (arith, f.1 (suc k)))
  formula_deep_layer (Formula-F.Any s f) k = above_formula _ (Formula-F.Any s (rebuilt_formula leaves f.0 (suc k))) _ (formula.rolls-Any s (rebuilt_formula leaves f.0 (suc k))) (omega (arith, f.1 (suc k)))
  formula_deep_layer (Formula-F.App p args) k = above_formula _ (Formula-F.App p (map (rebuilt_term leaves k) args)) _ (formula.rolls-App p (map (rebuilt_term leaves k) args)) (omega (arith, terms_as_deep k args))

  formula_deep_at : (y : FormulaDeepLayer) → FormulaDeep (roll-Formula (formula_deep_under y))
  formula_deep_at y k =
      subst (λ n. n ≤ formula_depth (rebuilt_formula leaves (roll-Formula (formula_deep_under y)) k)) (sym (fold-roll-Formula ℕ depth_step (formula_deep_under y)))
      (subst (λ f. depth_step (map-Formula Formula ℕ formula_depth (formula_deep_under y)) ≤ formula_depth f)
      (sym (λ i. fold-roll-Formula (ℕ → Formula) (rebuilt_formula_step leaves) (formula_deep_under y) i k)) (formula_deep_layer y k))

  pub formula_as_deep : (f : Formula) (k : ℕ) → formula_depth f ≤ formula_depth (rebuilt_formula leaves f k)
  formula_as_deep = ind-Formula FormulaDeep (λ x y is. subst (λ z. FormulaDeep (roll-Formula z)) is (formula_deep_at y))
