-- No formula is lighter for having been built again.
use Rattle.std.proofs.Common.{◌≡◌, ℕ, suc, ◌+◌, ◌≤◌, List, [], ◌∷◌, map, sum, sym, subst, arith}
use Rattle.std.proofs.lemmas.Grind.{common_steps}
use Rattle.rw_terms.specs.declared.term.Term.{Term}
use Rattle.rw_terms.specs.declared.term.Term.TheVariants as v
use Rattle.rw_terms.specs.declared.term.Term.TheOpen.{Term-F}
use Rattle.rw_terms.specs.declared.term.Term.TheViews.{roll-Term}
use Rattle.rw_terms.specs.declared.term.Term.TheFolds.{map-Term, ind-Term, fold-roll-Term}
use Rattle.rw_terms.specs.declared.term.Formula.{Formula}
use Rattle.rw_terms.specs.declared.term.Formula.TheVariants as formula
use Rattle.rw_terms.specs.declared.term.Formula.TheOpen.{Formula-F}
use Rattle.rw_terms.specs.declared.term.Formula.TheViews.{roll-Formula}
use Rattle.rw_terms.specs.declared.term.Formula.TheFolds.{map-Formula, ind-Formula, fold-roll-Formula}
use Rattle.rw_terms.specs.Size.{term_weight_step, term_weight, terms_weight, weight_step, formula_weight}
use Rattle.rw_subst.specs.Leaves.{Leaves, rebuilt_step, rebuilt_term, rebuilt_formula_step, rebuilt_formula}

sum-cons : (n : ℕ) (ns : List ℕ) → sum (n ∷ ns) ≡ n + sum ns
sum-cons n ns = grind (arith, common_steps)

-- a term has a part
abbrev HasWeight : Term → Type 0
HasWeight t = 1 ≤ term_weight t

has_weight_layer : (y : Term-F Term) → 1 ≤ term_weight_step (map-Term Term ℕ term_weight y)
has_weight_layer (Term-F.Lit n) = omega arith
has_weight_layer (Term-F.Var x) = omega arith
has_weight_layer (Term-F.Init x) = omega arith
has_weight_layer (Term-F.Const x) = omega arith
has_weight_layer (Term-F.Bound k) = omega arith
has_weight_layer (Term-F.Neg a) = omega arith
has_weight_layer (Term-F.Add a b) = omega arith
has_weight_layer (Term-F.Sub a b) = omega arith
has_weight_layer (Term-F.Mul a b) = omega arith
has_weight_layer (Term-F.Div a b) = omega arith
has_weight_layer (Term-F.Mod a b) = omega arith
has_weight_layer (Term-F.Read a i) = omega arith
has_weight_layer (Term-F.Put a i e) = omega arith
has_weight_layer (Term-F.Fun f args) = omega arith

has_weight : (t : Term) → 1 ≤ term_weight t
has_weight = ind-Term HasWeight (λ x y is. subst (λ n. 1 ≤ n) (sym (fold-roll-Term ℕ term_weight_step x)) (has_weight_layer x))

-- a bound on the weight of a term by that of its layer
above_term : (n : ℕ) (x : Term-F Term) (t : Term) → roll-Term x ≡ t → n ≤ term_weight_step (map-Term Term ℕ term_weight x) → n ≤ term_weight t
above_term n x t e h = subst (λ u. n ≤ term_weight u) e (subst (λ m. n ≤ m) (sym (fold-roll-Term ℕ term_weight_step x)) h)

-- and of a formula
above_formula : (n : ℕ) (x : Formula-F Formula) (f : Formula) → roll-Formula x ≡ f → n ≤ weight_step (map-Formula Formula ℕ formula_weight x) → n ≤ formula_weight f
above_formula n x f e h = subst (λ g. n ≤ formula_weight g) e (subst (λ m. n ≤ m) (sym (fold-roll-Formula ℕ weight_step x)) h)

module _ (leaves : Leaves) where
  module _ (k : ℕ) where
    -- the result is as heavy at least
    abbrev Heavy : Term → Type 0
    Heavy t = term_weight t ≤ term_weight (rebuilt_term leaves k t)

    abbrev HeavyLayer : Type 0
    HeavyLayer = Term-F ((t : Term) × Heavy t)

    abbrev under : HeavyLayer → Term-F Term
    under = map-Term ((t : Term) × Heavy t) Term (λ e. e.0)

    abbrev re : Term → Term
    re = rebuilt_term leaves k

    each : (ts : List ((t : Term) × Heavy t)) → sum (map term_weight (map (λ e. e.0) ts)) ≤ sum (map term_weight (map re (map (λ e. e.0) ts)))
    each [] = omega arith
    each (t ∷ ts) = omega (arith, t.1, each ts, sum-cons (term_weight t.0) (map term_weight (map (λ e. e.0) ts)), sum-cons (term_weight (re t.0)) (map term_weight (map re (map (λ e. e.0) ts))))

    heavy_layer : (y : HeavyLayer) → term_weight_step (map-Term Term ℕ term_weight (under y)) ≤ term_weight (rebuilt_step leaves k (map-Term Term Term re (under y)))
    heavy_layer (Term-F.Lit n) = has_weight _
    heavy_layer (Term-F.Var x) = has_weight _
    heavy_layer (Term-F.Init x) = has_weight _
    heavy_layer (Term-F.Const x) = has_weight _
    heavy_layer (Term-F.Bound j) = has_weight _
    heavy_layer (Term-F.Neg a) = above_term _ (Term-F.Neg (re a.0)) _ (v.rolls-Neg (re a.0)) (omega (arith, a.1))
    heavy_layer (Term-F.Add a b) = above_term _ (Term-F.Add (re a.0) (re b.0)) _ (v.rolls-Add (re a.0) (re b.0)) (omega (arith, a.1, b.1))
    heavy_layer (Term-F.Sub a b) = above_term _ (Term-F.Sub (re a.0) (re b.0)) _ (v.rolls-Sub (re a.0) (re b.0)) (omega (arith, a.1, b.1))
    heavy_layer (Term-F.Mul a b) = above_term _ (Term-F.Mul (re a.0) (re b.0)) _ (v.rolls-Mul (re a.0) (re b.0)) (omega (arith, a.1, b.1))
    heavy_layer (Term-F.Div a b) = above_term _ (Term-F.Div (re a.0) (re b.0)) _ (v.rolls-Div (re a.0) (re b.0)) (omega (arith, a.1, b.1))
    heavy_layer (Term-F.Mod a b) = above_term _ (Term-F.Mod (re a.0) (re b.0)) _ (v.rolls-Mod (re a.0) (re b.0)) (omega (arith, a.1, b.1))
    heavy_layer (Term-F.Read a i) = above_term _ (Term-F.Read (re a.0) (re i.0)) _ (v.rolls-Read (re a.0) (re i.0)) (omega (arith, a.1, i.1))
    heavy_layer (Term-F.Put a i e) = above_term _ (Term-F.Put (re a.0) (re i.0) (re e.0)) _ (v.rolls-Put (re a.0) (re i.0) (re e.0)) (omega (arith, a.1, i.1, e.1))
    heavy_layer (Term-F.Fun f args) = above_term _ (Term-F.Fun f (map re (map (λ e. e.0) args))) _ (v.rolls-Fun f (map re (map (λ e. e.0) args))) (omega (arith, each args))

    heavy_at : (y : HeavyLayer) → Heavy (roll-Term (under y))
    heavy_at y =
        subst (λ n. n ≤ term_weight (rebuilt_term leaves k (roll-Term (under y)))) (sym (fold-roll-Term ℕ term_weight_step (under y)))
        (subst (λ t. term_weight_step (map-Term Term ℕ term_weight (under y)) ≤ term_weight t) (sym (fold-roll-Term Term (rebuilt_step leaves k) (under y))) (heavy_layer y))

    pub term_as_heavy : (t : Term) → term_weight t ≤ term_weight (rebuilt_term leaves k t)
    term_as_heavy = ind-Term Heavy (λ x y is. subst (λ z. Heavy (roll-Term z)) is (heavy_at y))

    terms_as_heavy : (ts : List Term) → terms_weight ts ≤ terms_weight (map re ts)
    terms_as_heavy [] = omega arith
    terms_as_heavy (t ∷ ts) = omega (arith, term_as_heavy t, terms_as_heavy ts, sum-cons (term_weight t) (map term_weight ts), sum-cons (term_weight (re t)) (map term_weight (map re ts)))

  abbrev FormulaHeavy : Formula → Type 0
  FormulaHeavy f = (k : ℕ) → formula_weight f ≤ formula_weight (rebuilt_formula leaves f k)

  abbrev FormulaHeavyLayer : Type 0
  FormulaHeavyLayer = Formula-F ((f : Formula) × FormulaHeavy f)

  abbrev formula_under : FormulaHeavyLayer → Formula-F Formula
  formula_under = map-Formula ((f : Formula) × FormulaHeavy f) Formula (λ e. e.0)

  formula_heavy_layer : (y : FormulaHeavyLayer) (k : ℕ) → weight_step (map-Formula Formula ℕ formula_weight (formula_under y)) ≤ formula_weight (rebuilt_formula_step leaves (map-Formula Formula (ℕ → Formula) (rebuilt_formula leaves) (formula_under y)) k)
  formula_heavy_layer Formula-F.True k = above_formula _ Formula-F.True _ formula.rolls-True (omega arith)
  formula_heavy_layer Formula-F.False k = above_formula _ Formula-F.False _ formula.rolls-False (omega arith)
  formula_heavy_layer (Formula-F.Eq t u) k = above_formula _ (Formula-F.Eq (rebuilt_term leaves k t) (rebuilt_term leaves k u)) _ (formula.rolls-Eq (rebuilt_term leaves k t) (rebuilt_term leaves k u)) (omega (arith, term_as_heavy k t, term_as_heavy k u))
  formula_heavy_layer (Formula-F.Less t u) k = above_formula _ (Formula-F.Less (rebuilt_term leaves k t) (rebuilt_term leaves k u)) _ (formula.rolls-Less (rebuilt_term leaves k t) (rebuilt_term leaves k u)) (omega (arith, term_as_heavy k t, term_as_heavy k u))
  formula_heavy_layer (Formula-F.AtMost t u) k = above_formula _ (Formula-F.AtMost (rebuilt_term leaves k t) (rebuilt_term leaves k u)) _ (formula.rolls-AtMost (rebuilt_term leaves k t) (rebuilt_term leaves k u)) (omega (arith, term_as_heavy k t, term_as_heavy k u))
  formula_heavy_layer (Formula-F.Not f) k = above_formula _ (Formula-F.Not (rebuilt_formula leaves f.0 k)) _ (formula.rolls-Not (rebuilt_formula leaves f.0 k)) (omega (arith, f.1 k))
  formula_heavy_layer (Formula-F.And f g) k = above_formula _ (Formula-F.And (rebuilt_formula leaves f.0 k) (rebuilt_formula leaves g.0 k)) _ (formula.rolls-And (rebuilt_formula leaves f.0 k) (rebuilt_formula leaves g.0 k)) (omega (arith, f.1 k, g.1 k))
  formula_heavy_layer (Formula-F.Or f g) k = above_formula _ (Formula-F.Or (rebuilt_formula leaves f.0 k) (rebuilt_formula leaves g.0 k)) _ (formula.rolls-Or (rebuilt_formula leaves f.0 k) (rebuilt_formula leaves g.0 k)) (omega (arith, f.1 k, g.1 k))
  formula_heavy_layer (Formula-F.Imp f g) k = above_formula _ (Formula-F.Imp (rebuilt_formula leaves f.0 k) (rebuilt_formula leaves g.0 k)) _ (formula.rolls-Imp (rebuilt_formula leaves f.0 k) (rebuilt_formula leaves g.0 k)) (omega (arith, f.1 k, g.1 k))
  formula_heavy_layer (Formula-F.All s f) k = above_formula _ (Formula-F.All s (rebuilt_formula leaves f.0 (suc k))) _ (formula.rolls-All s (rebuilt_formula leaves f.0 (suc k))) (omega (arith, f.1 (suc k)))
  formula_heavy_layer (Formula-F.Any s f) k = above_formula _ (Formula-F.Any s (rebuilt_formula leaves f.0 (suc k))) _ (formula.rolls-Any s (rebuilt_formula leaves f.0 (suc k))) (omega (arith, f.1 (suc k)))
  formula_heavy_layer (Formula-F.App p args) k = above_formula _ (Formula-F.App p (map (rebuilt_term leaves k) args)) _ (formula.rolls-App p (map (rebuilt_term leaves k) args)) (omega (arith, terms_as_heavy k args))

  formula_heavy_at : (y : FormulaHeavyLayer) → FormulaHeavy (roll-Formula (formula_under y))
  formula_heavy_at y k =
      subst (λ n. n ≤ formula_weight (rebuilt_formula leaves (roll-Formula (formula_under y)) k)) (sym (fold-roll-Formula ℕ weight_step (formula_under y)))
      (subst (λ f. weight_step (map-Formula Formula ℕ formula_weight (formula_under y)) ≤ formula_weight f)
      (sym (λ i. fold-roll-Formula (ℕ → Formula) (rebuilt_formula_step leaves) (formula_under y) i k)) (formula_heavy_layer y k))

  pub formula_as_heavy : (f : Formula) (k : ℕ) → formula_weight f ≤ formula_weight (rebuilt_formula leaves f k)
  formula_as_heavy = ind-Formula FormulaHeavy (λ x y is. subst (λ z. FormulaHeavy (roll-Formula z)) is (formula_heavy_at y))
