-- A formula in which names stand for names is as large as it was.
use Rattle.std.proofs.Common.{◌≡◌, ℕ, suc, ◌+◌, max, List, [], ◌∷◌, map, sum, length, refl, sym, ap, ◌∙◌, subst, arith}
use Rattle.std.proofs.lemmas.Grind.{common_steps}
use Rattle.rw_terms.specs.declared.term.Term.{Term}
use Rattle.rw_terms.specs.declared.term.Term.TheVariants as v
use Rattle.rw_terms.specs.declared.term.Term.TheOpen.{Term-F}
use Rattle.rw_terms.specs.declared.term.Term.TheViews.{roll-Term}
use Rattle.rw_terms.specs.declared.term.Term.TheFolds.{map-Term, ind-Term, fold-roll-Term}
use Rattle.rw_terms.specs.declared.term.Formula.{Formula}
use Rattle.rw_terms.specs.declared.term.Formula.TheVariants as formula
use Rattle.rw_terms.specs.declared.term.Formula.TheOpen.{Formula-F}
use Rattle.rw_terms.specs.declared.term.Formula.TheViews.{roll-Formula}
use Rattle.rw_terms.specs.declared.term.Formula.TheFolds.{map-Formula, ind-Formula, fold-roll-Formula}
use Rattle.rw_terms.specs.Size.{greatest, term_weight_step, term_weight, terms_weight, term_depth_step, term_depth, terms_depth, weight_step, formula_weight, depth_step, formula_depth}
use Rattle.rw_subst.specs.declared.slot.Form.{Form}
use Rattle.rw_subst.specs.Leaves.{Leaves, rebuilt_step, rebuilt_term, rebuilt_formula_step, rebuilt_formula}

sum-cons : (n : ℕ) (ns : List ℕ) → sum (n ∷ ns) ≡ n + sum ns
sum-cons n ns = grind (arith, common_steps)

-- a term of one part
abbrev pub IsSingle : Term → Type 0
IsSingle t = (term_weight t ≡ 1) × (term_depth t ≡ 1)

-- the size of a term by that of its layer
weighs : (x : Term-F Term) (t : Term) (n : ℕ) → roll-Term x ≡ t → term_weight_step (map-Term Term ℕ term_weight x) ≡ n → term_weight t ≡ n
weighs x t n e h = subst (λ u. term_weight u ≡ n) e (fold-roll-Term ℕ term_weight_step x ∙ h)

reaches : (x : Term-F Term) (t : Term) (n : ℕ) → roll-Term x ≡ t → term_depth_step (map-Term Term ℕ term_depth x) ≡ n → term_depth t ≡ n
reaches x t n e h = subst (λ u. term_depth u ≡ n) e (fold-roll-Term ℕ term_depth_step x ∙ h)

-- so are names and binders
pub variable_single : (x : List ℕ) → IsSingle (v.Var x)
variable_single x = (weighs (Term-F.Var x) _ _ (v.rolls-Var x) refl, reaches (Term-F.Var x) _ _ (v.rolls-Var x) refl)

pub initial_single : (x : List ℕ) → IsSingle (v.Init x)
initial_single x = (weighs (Term-F.Init x) _ _ (v.rolls-Init x) refl, reaches (Term-F.Init x) _ _ (v.rolls-Init x) refl)

pub constant_single : (x : List ℕ) → IsSingle (v.Const x)
constant_single x = (weighs (Term-F.Const x) _ _ (v.rolls-Const x) refl, reaches (Term-F.Const x) _ _ (v.rolls-Const x) refl)

pub binder_single : (k : ℕ) → IsSingle (v.Bound k)
binder_single k = (weighs (Term-F.Bound k) _ _ (v.rolls-Bound k) refl, reaches (Term-F.Bound k) _ _ (v.rolls-Bound k) refl)

-- what is put for names and binders is of one part
pub record AreSingle (leaves : Leaves) : Type 0 where
  pub names : (k : ℕ) (form : Form) (x : List ℕ) → IsSingle (leaves.name k form x)
  pub binders : (k j : ℕ) → IsSingle (leaves.binder k j)

-- the size of a formula by that of its layer
pub formula_weighs : (x : Formula-F Formula) (f : Formula) (n : ℕ) → roll-Formula x ≡ f → weight_step (map-Formula Formula ℕ formula_weight x) ≡ n → formula_weight f ≡ n
formula_weighs x f n e h = subst (λ g. formula_weight g ≡ n) e (fold-roll-Formula ℕ weight_step x ∙ h)

pub formula_reaches : (x : Formula-F Formula) (f : Formula) (n : ℕ) → roll-Formula x ≡ f → depth_step (map-Formula Formula ℕ formula_depth x) ≡ n → formula_depth f ≡ n
formula_reaches x f n e h = subst (λ g. formula_depth g ≡ n) e (fold-roll-Formula ℕ depth_step x ∙ h)

module _ (leaves : Leaves) (single : AreSingle leaves) where
  module _ (k : ℕ) where
    abbrev re : Term → Term
    re = rebuilt_term leaves k

    -- the result has as many parts, and as many on its longest path
    abbrev Same : Term → Type 0
    Same t = (term_weight (re t) ≡ term_weight t) × (term_depth (re t) ≡ term_depth t)

    abbrev Layer : Type 0
    Layer = Term-F ((t : Term) × Same t)

    abbrev under : Layer → Term-F Term
    under = map-Term ((t : Term) × Same t) Term (λ e. e.0)

    abbrev Built : Layer → Term → Type 0
    Built y t = (term_weight t ≡ term_weight_step (map-Term Term ℕ term_weight (under y))) × (term_depth t ≡ term_depth_step (map-Term Term ℕ term_depth (under y)))

    each_weight : (ts : List ((t : Term) × Same t)) → sum (map term_weight (map re (map (λ e. e.0) ts))) ≡ sum (map term_weight (map (λ e. e.0) ts))
    each_weight [] = refl
    each_weight (t ∷ ts) =
        sum-cons (term_weight (re t.0)) (map term_weight (map re (map (λ e. e.0) ts)))
        ∙ ((λ i. t.1.0 i + each_weight ts i) ∙ sym (sum-cons (term_weight t.0) (map term_weight (map (λ e. e.0) ts))))

    each_depth : (ts : List ((t : Term) × Same t)) → greatest (map term_depth (map re (map (λ e. e.0) ts))) ≡ greatest (map term_depth (map (λ e. e.0) ts))
    each_depth [] = refl
    each_depth (t ∷ ts) = λ i. max (t.1.1 i) (each_depth ts i)

    layer : (y : Layer) → Built y (rebuilt_step leaves k (map-Term Term Term re (under y)))
    layer (Term-F.Lit n) = (weighs (Term-F.Lit n) _ _ (v.rolls-Lit n) refl, reaches (Term-F.Lit n) _ _ (v.rolls-Lit n) refl)
    layer (Term-F.Var x) = single.names k _ x
    layer (Term-F.Init x) = single.names k _ x
    layer (Term-F.Const x) = single.names k _ x
    layer (Term-F.Bound j) = single.binders k j
    layer (Term-F.Neg a) = (
      weighs (Term-F.Neg (re a.0)) _ _ (v.rolls-Neg (re a.0)) (λ i. a.1.0 i + 1),
      reaches (Term-F.Neg (re a.0)) _ _ (v.rolls-Neg (re a.0)) (λ i. a.1.1 i + 1),
    )
    layer (Term-F.Add a b) = (
      weighs (Term-F.Add (re a.0) (re b.0)) _ _ (v.rolls-Add (re a.0) (re b.0)) (λ i. a.1.0 i + b.1.0 i + 1),
      reaches (Term-F.Add (re a.0) (re b.0)) _ _ (v.rolls-Add (re a.0) (re b.0)) (λ i. max (a.1.1 i) (b.1.1 i) + 1),
    )
    layer (Term-F.Sub a b) = (
      weighs (Term-F.Sub (re a.0) (re b.0)) _ _ (v.rolls-Sub (re a.0) (re b.0)) (λ i. a.1.0 i + b.1.0 i + 1),
      reaches (Term-F.Sub (re a.0) (re b.0)) _ _ (v.rolls-Sub (re a.0) (re b.0)) (λ i. max (a.1.1 i) (b.1.1 i) + 1),
    )
    layer (Term-F.Mul a b) = (
      weighs (Term-F.Mul (re a.0) (re b.0)) _ _ (v.rolls-Mul (re a.0) (re b.0)) (λ i. a.1.0 i + b.1.0 i + 1),
      reaches (Term-F.Mul (re a.0) (re b.0)) _ _ (v.rolls-Mul (re a.0) (re b.0)) (λ i. max (a.1.1 i) (b.1.1 i) + 1),
    )
    layer (Term-F.Div a b) = (
      weighs (Term-F.Div (re a.0) (re b.0)) _ _ (v.rolls-Div (re a.0) (re b.0)) (λ i. a.1.0 i + b.1.0 i + 1),
      reaches (Term-F.Div (re a.0) (re b.0)) _ _ (v.rolls-Div (re a.0) (re b.0)) (λ i. max (a.1.1 i) (b.1.1 i) + 1),
    )
    layer (Term-F.Mod a b) = (
      weighs (Term-F.Mod (re a.0) (re b.0)) _ _ (v.rolls-Mod (re a.0) (re b.0)) (λ i. a.1.0 i + b.1.0 i + 1),
      reaches (Term-F.Mod (re a.0) (re b.0)) _ _ (v.rolls-Mod (re a.0) (re b.0)) (λ i. max (a.1.1 i) (b.1.1 i) + 1),
    )
    layer (Term-F.Read a b) = (
      weighs (Term-F.Read (re a.0) (re b.0)) _ _ (v.rolls-Read (re a.0) (re b.0)) (λ i. a.1.0 i + b.1.0 i + 1),
      reaches (Term-F.Read (re a.0) (re b.0)) _ _ (v.rolls-Read (re a.0) (re b.0)) (λ i. max (a.1.1 i) (b.1.1 i) + 1),
    )
    layer (Term-F.Put a b d) = (
      weighs (Term-F.Put (re a.0) (re b.0) (re d.0)) _ _ (v.rolls-Put (re a.0) (re b.0) (re d.0)) (λ i. a.1.0 i + b.1.0 i + d.1.0 i + 1),
      reaches (Term-F.Put (re a.0) (re b.0) (re d.0)) _ _ (v.rolls-Put (re a.0) (re b.0) (re d.0)) (λ i. max (a.1.1 i) (max (b.1.1 i) (d.1.1 i)) + 1),
    )
    layer (Term-F.Fun f args) = (
      weighs (Term-F.Fun f (map re (map (λ e. e.0) args))) _ _ (v.rolls-Fun f (map re (map (λ e. e.0) args))) (ap (λ n. n + 1) (each_weight args)),
      reaches (Term-F.Fun f (map re (map (λ e. e.0) args))) _ _ (v.rolls-Fun f (map re (map (λ e. e.0) args))) (ap (λ n. n + 1) (each_depth args)),
    )

    at : (y : Layer) → Same (roll-Term (under y))
    at y =
        let built = subst (λ t. Built y t) (sym (fold-roll-Term Term (rebuilt_step leaves k) (under y))) (layer y) in
        (built.0 ∙ sym (fold-roll-Term ℕ term_weight_step (under y)), built.1 ∙ sym (fold-roll-Term ℕ term_depth_step (under y)))

    pub term_as_large : (t : Term) → Same t
    term_as_large = ind-Term Same (λ x y is. subst (λ z. Same (roll-Term z)) is (at y))

    terms_weight_same : (ts : List Term) → terms_weight (map re ts) ≡ terms_weight ts
    terms_weight_same [] = refl
    terms_weight_same (t ∷ ts) =
        sum-cons (term_weight (re t)) (map term_weight (map re ts))
        ∙ ((λ i. (term_as_large t).0 i + terms_weight_same ts i) ∙ sym (sum-cons (term_weight t) (map term_weight ts)))

    terms_depth_same : (ts : List Term) → terms_depth (map re ts) ≡ terms_depth ts
    terms_depth_same [] = refl
    terms_depth_same (t ∷ ts) = λ i. max ((term_as_large t).1 i) (terms_depth_same ts i)

  abbrev FormulaSame : Formula → Type 0
  FormulaSame f = (k : ℕ) → (formula_weight (rebuilt_formula leaves f k) ≡ formula_weight f) × (formula_depth (rebuilt_formula leaves f k) ≡ formula_depth f)

  abbrev FormulaLayer : Type 0
  FormulaLayer = Formula-F ((f : Formula) × FormulaSame f)

  abbrev formula_under : FormulaLayer → Formula-F Formula
  formula_under = map-Formula ((f : Formula) × FormulaSame f) Formula (λ e. e.0)

  abbrev FormulaBuilt : FormulaLayer → Formula → Type 0
  FormulaBuilt y f = (formula_weight f ≡ weight_step (map-Formula Formula ℕ formula_weight (formula_under y))) × (formula_depth f ≡ depth_step (map-Formula Formula ℕ formula_depth (formula_under y)))

  built : (x : Formula-F Formula) (f : Formula) (n m : ℕ) → roll-Formula x ≡ f → weight_step (map-Formula Formula ℕ formula_weight x) ≡ n → depth_step (map-Formula Formula ℕ formula_depth x) ≡ m
      → (formula_weight f ≡ n) × (formula_depth f ≡ m)
  built x f n m e w d = (formula_weighs x f n e w, formula_reaches x f m e d)

  formula_layer : (y : FormulaLayer) (k : ℕ) → FormulaBuilt y (rebuilt_formula_step leaves (map-Formula Formula (ℕ → Formula) (rebuilt_formula leaves) (formula_under y)) k)
  formula_layer Formula-F.True k = built Formula-F.True _ _ _ formula.rolls-True refl refl
  formula_layer Formula-F.False k = built Formula-F.False _ _ _ formula.rolls-False refl refl
  formula_layer (Formula-F.Eq t u) k =
      let p = term_as_large k t in let q = term_as_large k u in
      built (Formula-F.Eq (re k t) (re k u)) _ _ _ (formula.rolls-Eq (re k t) (re k u)) (λ i. p.0 i + q.0 i + 1) (λ i. max (p.1 i) (q.1 i) + 1)
  formula_layer (Formula-F.Less t u) k =
      let p = term_as_large k t in let q = term_as_large k u in
      built (Formula-F.Less (re k t) (re k u)) _ _ _ (formula.rolls-Less (re k t) (re k u)) (λ i. p.0 i + q.0 i + 1) (λ i. max (p.1 i) (q.1 i) + 1)
  formula_layer (Formula-F.AtMost t u) k =
      let p = term_as_large k t in let q = term_as_large k u in
      built (Formula-F.AtMost (re k t) (re k u)) _ _ _ (formula.rolls-AtMost (re k t) (re k u)) (λ i. p.0 i + q.0 i + 1) (λ i. max (p.1 i) (q.1 i) + 1)
  formula_layer (Formula-F.Not f) k =
      let g = rebuilt_formula leaves f.0 k in built (Formula-F.Not g) _ _ _ (formula.rolls-Not g) (λ i. (f.1 k).0 i + 1) (λ i. (f.1 k).1 i + 1)
  formula_layer (Formula-F.And f h) k =
      let g = rebuilt_formula leaves f.0 k in let e = rebuilt_formula leaves h.0 k in
      built (Formula-F.And g e) _ _ _ (formula.rolls-And g e) (λ i. (f.1 k).0 i + (h.1 k).0 i + 1) (λ i. max ((f.1 k).1 i) ((h.1 k).1 i) + 1)
  formula_layer (Formula-F.Or f h) k =
      let g = rebuilt_formula leaves f.0 k in let e = rebuilt_formula leaves h.0 k in
      built (Formula-F.Or g e) _ _ _ (formula.rolls-Or g e) (λ i. (f.1 k).0 i + (h.1 k).0 i + 1) (λ i. max ((f.1 k).1 i) ((h.1 k).1 i) + 1)
  formula_layer (Formula-F.Imp f h) k =
      let g = rebuilt_formula leaves f.0 k in let e = rebuilt_formula leaves h.0 k in
      built (Formula-F.Imp g e) _ _ _ (formula.rolls-Imp g e) (λ i. (f.1 k).0 i + (h.1 k).0 i + 1) (λ i. max ((f.1 k).1 i) ((h.1 k).1 i) + 1)
  formula_layer (Formula-F.All s f) k =
      let g = rebuilt_formula leaves f.0 (suc k) in built (Formula-F.All s g) _ _ _ (formula.rolls-All s g) (λ i. (f.1 (suc k)).0 i + 1) (λ i. (f.1 (suc k)).1 i + 1)
  formula_layer (Formula-F.Any s f) k =
      let g = rebuilt_formula leaves f.0 (suc k) in built (Formula-F.Any s g) _ _ _ (formula.rolls-Any s g) (λ i. (f.1 (suc k)).0 i + 1) (λ i. (f.1 (suc k)).1 i + 1)
  formula_layer (Formula-F.App p args) k =
      built (Formula-F.App p (map (re k) args)) _ _ _ (formula.rolls-App p (map (re k) args)) (ap (λ n. n + 1) (terms_weight_same k args)) (ap (λ n. n + 1) (terms_depth_same k args))

  formula_at : (y : FormulaLayer) → FormulaSame (roll-Formula (formula_under y))
  formula_at y k =
      let made = subst (λ f. FormulaBuilt y f) (sym (λ i. fold-roll-Formula (ℕ → Formula) (rebuilt_formula_step leaves) (formula_under y) i k)) (formula_layer y k) in
      (made.0 ∙ sym (fold-roll-Formula ℕ weight_step (formula_under y)), made.1 ∙ sym (fold-roll-Formula ℕ depth_step (formula_under y)))

  pub formula_as_large : (f : Formula) → FormulaSame f
  formula_as_large = ind-Formula FormulaSame (λ x y is. subst (λ z. FormulaSame (roll-Formula z)) is (formula_at y))
