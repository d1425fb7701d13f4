-- Joining formulas one after another, and their sizes.
use Rattle.std.proofs.Common.{◌≡◌, ℕ, pos, ◌+◌, min, max, List, [], ◌∷◌, ◌++◌, Option, Some, None, refl, sym, ap, ◌∙◌, arith}
use Rattle.rw_terms.specs.declared.term.Term.{Term}
use Rattle.rw_terms.specs.declared.term.Term.TheVariants as v
use Rattle.rw_terms.specs.declared.term.Term.TheOpen.{Term-F}
use Rattle.rw_terms.specs.declared.term.Term.TheFolds.{fold-roll-Term}
use Rattle.rw_terms.specs.declared.term.Formula.{Formula}
use Rattle.rw_terms.specs.declared.term.Formula.TheVariants as formula
use Rattle.rw_terms.specs.declared.term.Formula.TheOpen.{Formula-F}
use Rattle.rw_terms.specs.declared.term.Formula.TheFolds.{fold-roll-Formula}
use Rattle.rw_terms.specs.Size.{term_weight_step, term_weight, term_depth_step, term_depth, weight_step, formula_weight, depth_step, formula_depth}
use Rattle.rw_subst.specs.declared.size.Size.{Size}
use Rattle.rw_subst.specs.Conj.{conj_with, conj, formula_size, size_and_also, sizes_joined, size_or_one, IsCompared}
use Rattle.rw_subst.specs.Definedness.{nonzero, not_negative, below}

pub sizes_append : (so_far : Option Size) (fs gs : List Formula) → sizes_joined so_far (fs ++ gs) ≡ sizes_joined (sizes_joined so_far fs) gs
sizes_append so_far [] gs = refl
sizes_append so_far (f ∷ fs) gs = sizes_append (Some (size_and_also so_far (formula_size f))) fs gs

-- the sizes of some formulas, and then of more
pub sizes_both : (o0 o1 o2 : Option Size) (xs ys : List Formula) → o1 ≡ sizes_joined o0 xs → o2 ≡ sizes_joined o1 ys → o2 ≡ sizes_joined o0 (xs ++ ys)
sizes_both o0 o1 o2 xs ys e e' = e' ∙ ap (λ o. sizes_joined o ys) e ∙ sym (sizes_append o0 xs ys)

and_weight : (f g : Formula) → formula_weight (formula.And f g) ≡ formula_weight f + formula_weight g + 1
and_weight f g = ap formula_weight (sym (formula.rolls-And f g)) ∙ fold-roll-Formula _ weight_step (Formula-F.And f g)

and_depth : (f g : Formula) → formula_depth (formula.And f g) ≡ max (formula_depth f) (formula_depth g) + 1
and_depth f g = ap formula_depth (sym (formula.rolls-And f g)) ∙ fold-roll-Formula _ depth_step (Formula-F.And f g)

capped_weight : (f g : Formula) → min (min (formula_weight f) 4294967295 + min (formula_weight g) 4294967295 + 1) 4294967295 ≡ min (formula_weight (formula.And f g)) 4294967295
capped_weight f g = omega (arith, and_weight f g)

capped_depth : (f g : Formula) → min (max (min (formula_depth f) 4294967295) (min (formula_depth g) 4294967295) + 1) 4294967295 ≡ min (formula_depth (formula.And f g)) 4294967295
capped_depth f g = omega (arith, and_depth f g)

and_size : (f g : Formula) → size_and_also (Some (formula_size f)) (formula_size g) ≡ formula_size (formula.And f g)
and_size f g = λ i. record { weight = capped_weight f g i; depth = capped_depth f g i }

sizes_with : (f : Formula) (fs : List Formula) → sizes_joined (Some (formula_size f)) fs ≡ Some (formula_size (conj_with f fs))
sizes_with f [] = refl
sizes_with f (g ∷ gs) = ap (λ s. sizes_joined (Some s) gs) (and_size f g) ∙ sizes_with (formula.And f g) gs

true_size : record { weight = 1; depth = 1 } ≡ formula_size formula.True
true_size =
    let w : formula_weight formula.True ≡ 1 = ap formula_weight (sym formula.rolls-True) ∙ fold-roll-Formula _ weight_step Formula-F.True in
    let d : formula_depth formula.True ≡ 1 = ap formula_depth (sym formula.rolls-True) ∙ fold-roll-Formula _ depth_step Formula-F.True in
    λ i. record { weight = min (sym w i) 4294967295; depth = min (sym d i) 4294967295 }

pub sizes_are_of_conj : (fs : List Formula) → size_or_one (sizes_joined None fs) ≡ formula_size (conj fs)
sizes_are_of_conj [] = true_size
sizes_are_of_conj (f ∷ fs) = ap size_or_one (sizes_with f fs)

number_weight : (n : ℕ) → term_weight (v.Lit (pos n)) ≡ 1
number_weight n = ap term_weight (sym (v.rolls-Lit (pos n))) ∙ fold-roll-Term ℕ term_weight_step (Term-F.Lit (pos n))

number_depth : (n : ℕ) → term_depth (v.Lit (pos n)) ≡ 1
number_depth n = ap term_depth (sym (v.rolls-Lit (pos n))) ∙ fold-roll-Term ℕ term_depth_step (Term-F.Lit (pos n))

not_negative_weight : (t : Term) → formula_weight (not_negative t) ≡ term_weight t + 2
not_negative_weight t =
    let w : formula_weight (not_negative t) ≡ term_weight (v.Lit (pos 0)) + term_weight t + 1 = ap formula_weight (sym (formula.rolls-AtMost (v.Lit (pos 0)) t)) ∙ fold-roll-Formula _ weight_step (Formula-F.AtMost (v.Lit (pos 0)) t) in
    omega (arith, w, number_weight 0)

not_negative_depth : (t : Term) → formula_depth (not_negative t) ≡ max (term_depth t) 1 + 1
not_negative_depth t =
    let d : formula_depth (not_negative t) ≡ max (term_depth (v.Lit (pos 0))) (term_depth t) + 1 = ap formula_depth (sym (formula.rolls-AtMost (v.Lit (pos 0)) t)) ∙ fold-roll-Formula _ depth_step (Formula-F.AtMost (v.Lit (pos 0)) t) in
    omega (arith, d, number_depth 0)

below_weight : (t : Term) (n : ℕ) → formula_weight (below t n) ≡ term_weight t + 2
below_weight t n =
    let w : formula_weight (below t n) ≡ term_weight t + term_weight (v.Lit (pos n)) + 1 = ap formula_weight (sym (formula.rolls-Less t (v.Lit (pos n)))) ∙ fold-roll-Formula _ weight_step (Formula-F.Less t (v.Lit (pos n))) in
    omega (arith, w, number_weight n)

below_depth : (t : Term) (n : ℕ) → formula_depth (below t n) ≡ max (term_depth t) 1 + 1
below_depth t n =
    let d : formula_depth (below t n) ≡ max (term_depth t) (term_depth (v.Lit (pos n))) + 1 = ap formula_depth (sym (formula.rolls-Less t (v.Lit (pos n)))) ∙ fold-roll-Formula _ depth_step (Formula-F.Less t (v.Lit (pos n))) in
    omega (arith, d, number_depth n)

nonzero_weight : (t : Term) → formula_weight (nonzero t) ≡ term_weight t + 3
nonzero_weight t =
    let w : formula_weight (nonzero t) ≡ formula_weight (formula.Eq t (v.Lit (pos 0))) + 1 = ap formula_weight (sym (formula.rolls-Not (formula.Eq t (v.Lit (pos 0))))) ∙ fold-roll-Formula _ weight_step (Formula-F.Not (formula.Eq t (v.Lit (pos 0)))) in
    let e : formula_weight (formula.Eq t (v.Lit (pos 0))) ≡ term_weight t + term_weight (v.Lit (pos 0)) + 1 = ap formula_weight (sym (formula.rolls-Eq t (v.Lit (pos 0)))) ∙ fold-roll-Formula _ weight_step (Formula-F.Eq t (v.Lit (pos 0))) in
    omega (arith, w, e, number_weight 0)

nonzero_depth : (t : Term) → formula_depth (nonzero t) ≡ max (term_depth t) 1 + 2
nonzero_depth t =
    let d : formula_depth (nonzero t) ≡ formula_depth (formula.Eq t (v.Lit (pos 0))) + 1 = ap formula_depth (sym (formula.rolls-Not (formula.Eq t (v.Lit (pos 0))))) ∙ fold-roll-Formula _ depth_step (Formula-F.Not (formula.Eq t (v.Lit (pos 0)))) in
    let e : formula_depth (formula.Eq t (v.Lit (pos 0))) ≡ max (term_depth t) (term_depth (v.Lit (pos 0))) + 1 = ap formula_depth (sym (formula.rolls-Eq t (v.Lit (pos 0)))) ∙ fold-roll-Formula _ depth_step (Formula-F.Eq t (v.Lit (pos 0))) in
    omega (arith, d, e, number_depth 0)

-- a size by its two numbers
pub size_is : (size : Size) (w d : ℕ) → size.weight ≡ w → size.depth ≡ d → size ≡ record { weight = w; depth = d }
size_is size w d e h = λ i. record { weight = e i; depth = h i }

pub not_negative_size : (t : Term) (size : Size) → IsCompared t size → size ≡ formula_size (not_negative t)
not_negative_size t size e = size_is size _ _ (omega (arith, e.0, not_negative_weight t)) (omega (arith, e.1, not_negative_depth t))

pub below_size : (t : Term) (n : ℕ) (size : Size) → IsCompared t size → size ≡ formula_size (below t n)
below_size t n size e = size_is size _ _ (omega (arith, e.0, below_weight t n)) (omega (arith, e.1, below_depth t n))

pub nonzero_size : (t : Term) (size one : Size) → IsCompared t one → size.weight ≡ min (one.weight + 1) 4294967295 → size.depth ≡ min (one.depth + 1) 4294967295 → size ≡ formula_size (nonzero t)
nonzero_size t size one e w d = size_is size _ _ (omega (arith, e.0, w, nonzero_weight t)) (omega (arith, e.1, d, nonzero_depth t))
