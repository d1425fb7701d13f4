-- A term that has a polynomial has no `put` and no binder outside an atom.
use Rattle.std.proofs.Common.{◌≡◌, ℕ, Bool, true, false, ◌&&◌, List, [], ◌∷◌, refl, sym, ap, ◌∙◌, subst}
use Rattle.rw_terms.specs.declared.term.Term.{Term}
use Rattle.rw_terms.specs.declared.term.Term.TheOpen.{Term-F}
use Rattle.rw_terms.specs.declared.term.Term.TheViews.{roll-Term}
use Rattle.rw_terms.specs.declared.term.Term.TheFolds.{map-Term, ind-Term, fold-roll-Term}
use Rattle.rw_arith.specs.declared.poly.Summand.{Summand}
use Rattle.rw_arith.specs.declared.poly.Expansion.{Expansion}
use Rattle.rw_arith.specs.declared.poly.Expansion.TheVariants.{Polynomial, Unfit, Wide}
use Rattle.rw_arith.specs.Polynomials.{sum, negated, difference, product}
use Rattle.rw_arith.specs.Expanded.{expand_step, expanded, is_polynomial_step, is_polynomial}
use Rattle.rw_arith.proofs.Expanding.{paired, expands_layer}

-- there is a polynomial
pub record Is (x : Expansion) : Type 0 where
  pub of : List Summand
  pub is : x ≡ Polynomial of

there : (p : List Summand) → Is (Polynomial p)
there p = record { of = p; is = refl }

pub negated_from : (a : Expansion) (p : List Summand) → negated a ≡ Polynomial p → Is a
negated_from (Polynomial q) p e = there q
negated_from Unfit p e = absurd (cc)
negated_from Wide p e = absurd (cc)

pub sum_from : (a b : Expansion) (p : List Summand) → sum a b ≡ Polynomial p → Is a × Is b
sum_from (Polynomial q) (Polynomial r) p e = (there q, there r)
sum_from (Polynomial q) Unfit p e = absurd (cc)
sum_from (Polynomial q) Wide p e = absurd (cc)
sum_from Unfit b p e = absurd (cc)
sum_from Wide b p e = absurd (cc)

pub difference_from : (a b : Expansion) (p : List Summand) → difference a b ≡ Polynomial p → Is a × Is b
difference_from a b p e = let both = sum_from a (negated b) p e in (both.0, negated_from b both.1.of both.1.is)

pub product_from : (a b : Expansion) (p : List Summand) → product a b ≡ Polynomial p → Is a × Is b
product_from (Polynomial q) (Polynomial r) p e = (there q, there r)
product_from (Polynomial q) Unfit p e = absurd (cc)
product_from (Polynomial q) Wide p e = absurd (cc)
product_from Unfit b p e = absurd (cc)
product_from Wide b p e = absurd (cc)

abbrev Told : Term → Type 0
Told t = Is (expanded t) → is_polynomial t ≡ true

abbrev Layer : Type 0
Layer = Term-F ((t : Term) × Told t)

abbrev under : Layer → Term-F Term
under = map-Term ((t : Term) × Told t) Term (λ e. e.0)

both_true : (a b : Bool) → a ≡ true → b ≡ true → (a && b) ≡ true
both_true a b e f = (λ i. e i && f i)

told_layer : (y : Layer) → Is (expand_step (map-Term Term (Term × Expansion) paired (under y))) → is_polynomial_step (map-Term Term Bool is_polynomial (under y)) ≡ true
told_layer (Term-F.Lit n) h = refl
told_layer (Term-F.Var x) h = refl
told_layer (Term-F.Init x) h = refl
told_layer (Term-F.Const x) h = refl
told_layer (Term-F.Bound k) h = let e = h.is in absurd (cc)
told_layer (Term-F.Neg a) h = a.1 (negated_from (expanded a.0) h.of h.is)
told_layer (Term-F.Add a c) h = let k = sum_from (expanded a.0) (expanded c.0) h.of h.is in both_true _ _ (a.1 k.0) (c.1 k.1)
told_layer (Term-F.Sub a c) h = let k = difference_from (expanded a.0) (expanded c.0) h.of h.is in both_true _ _ (a.1 k.0) (c.1 k.1)
told_layer (Term-F.Mul a c) h = let k = product_from (expanded a.0) (expanded c.0) h.of h.is in both_true _ _ (a.1 k.0) (c.1 k.1)
told_layer (Term-F.Div a c) h = refl
told_layer (Term-F.Mod a c) h = refl
told_layer (Term-F.Read a c) h = refl
told_layer (Term-F.Put a c d) h = let e = h.is in absurd (cc)
told_layer (Term-F.Fun f args) h = refl

told_at : (y : Layer) → Told (roll-Term (under y))
told_at y h = fold-roll-Term Bool is_polynomial_step (under y) ∙ told_layer y (subst Is (expands_layer (under y)) h)

pub told : (t : Term) → Told t
told = ind-Term Told (λ x y is. subst (λ z. Told (roll-Term z)) is (told_at y))
