-- Products that are one by their counts have one value.
use Rattle.std.proofs.Common.{◌≡◌, ℕ, zero, suc, ◌+◌, ◌<◌, Bool, true, false, cond, ◌&&◌, nat_eq, ℤ, pos, ◌*ℤ◌, List, [], ◌∷◌, length, refl, sym, ◌∙◌, ap, subst, true≢false, arith}
use Rattle.std.proofs.lemmas.Bool.{and_parts}
use Rattle.std.specs.List.{list_all}
use Rattle.std.proofs.lemmas.List.Recursion.{is_count_by}
use Rattle.std.proofs.lemmas.Bool.Decides.{Decides-eqb}
use Rattle.rw_terms.specs.declared.term.Term.{Term}
use Rattle.rw_terms.specs.Same.{same_term}
use Rattle.rw_arith.specs.Polynomials.{count, as_often, is_one_product}
use Rattle.rw_arith.specs.Values.{product_value}
use Rattle.rw_arith.specs.Laws.{OneProductLaw}
use Rattle.rw_terms.proofs.Decides.{term_told, term_self}
use Rattle.rw_arith.proofs.Integers.{swaps}

-- the atoms without the first that is t
abbrev without : Term → List Term → List Term
without t [] = []
without t (u ∷ us) = cond (same_term t u) us (u ∷ without t us)

-- one more where the test says so
abbrev more_if : Bool → ℕ → ℕ
more_if b n = cond b (1 + n) n

more_twice : (a b : Bool) (n : ℕ) → more_if a (more_if b n) ≡ more_if b (more_if a n)
more_twice true true n = refl
more_twice true false n = refl
more_twice false true n = refl
more_twice false false n = refl

more_once : (a : Bool) (m n : ℕ) → more_if a m ≡ more_if a n → m ≡ n
more_once true m n e = omega arith
more_once false m n e = e

-- how often t stands in a list
abbrev cnt : Term → List Term → ℕ
cnt t [] = 0
cnt t (u ∷ us) = more_if (same_term t u) (cnt t us)

cnt_is : (t : Term) (us : List Term) → cnt t us ≡ count t us
cnt_is t us = is_count_by (cnt t) (same_term t) refl (λ _ _. refl) us

abbrev Holds : Term → List Term → Type 0
Holds t us = 0 < cnt t us

module _ (t : Term) where
  abbrev KeepsLength : List Term → Type 0
  KeepsLength us = Holds t us → length us ≡ suc (length (without t us))

  length_case : (b : Bool) (us : List Term) → KeepsLength us → 0 < more_if b (cnt t us) → (u : Term) → suc (length us) ≡ suc (length (cond b us (u ∷ without t us)))
  length_case true us ih h u = refl
  length_case false us ih h u = ap suc (ih h)

  keeps_length : (us : List Term) → KeepsLength us
  keeps_length [] h = absurd (omega arith)
  keeps_length (u ∷ us) h = length_case (same_term t u) us (keeps_length us) h u

  abbrev KeepsCounts : List Term → Type 0
  KeepsCounts us = Holds t us → (x : Term) → cnt x us ≡ more_if (same_term x t) (cnt x (without t us))

  counts_case : (b : Bool) (u : Term) → same_term t u ≡ b → (us : List Term) → KeepsCounts us → 0 < more_if b (cnt t us) → (x : Term) →
      more_if (same_term x u) (cnt x us) ≡ more_if (same_term x t) (cnt x (cond b us (u ∷ without t us)))
  counts_case true u e us ih h x = ap (λ z. more_if (same_term x z) (cnt x us)) (sym (term_told t u e))
  counts_case false u e us ih h x = ap (more_if (same_term x u)) (ih h x) ∙ more_twice (same_term x u) (same_term x t) (cnt x (without t us))

  keeps_counts : (us : List Term) → KeepsCounts us
  keeps_counts [] h = absurd (omega arith)
  keeps_counts (u ∷ us) h = counts_case (same_term t u) u refl us (keeps_counts us) h

  module _ (of_atom : Term → ℤ) where
    abbrev pv : List Term → ℤ
    pv = product_value of_atom

    abbrev KeepsValue : List Term → Type 0
    KeepsValue us = Holds t us → pv us ≡ of_atom t *ℤ pv (without t us)

    value_case : (b : Bool) (u : Term) → same_term t u ≡ b → (us : List Term) → KeepsValue us → 0 < more_if b (cnt t us) →
        of_atom u *ℤ pv us ≡ of_atom t *ℤ pv (cond b us (u ∷ without t us))
    value_case true u e us ih h = ap (λ z. of_atom z *ℤ pv us) (sym (term_told t u e))
    value_case false u e us ih h = ap (λ z. of_atom u *ℤ z) (ih h) ∙ swaps (of_atom u) (of_atom t) (pv (without t us))

    keeps_value : (us : List Term) → KeepsValue us
    keeps_value [] h = absurd (omega arith)
    keeps_value (u ∷ us) h = value_case (same_term t u) u refl us (keeps_value us) h

-- what stands in the one stands as often in the other
abbrev Agree : List Term → List Term → Type 0
Agree ts us = (x : Term) → Holds x ts → cnt x ts ≡ cnt x us

positive_more : (b : Bool) (n : ℕ) → 0 < n → 0 < more_if b n
positive_more true n h = omega arith
positive_more false n h = h

head_counts : (t : Term) (ts : List Term) → cnt t (t ∷ ts) ≡ suc (cnt t ts)
head_counts t ts = ap (λ b. more_if b (cnt t ts)) (term_self t t refl) ∙ one_further (cnt t ts)
  where
    one_further : (n : ℕ) → 1 + n ≡ suc n
    one_further n = omega arith

head_there : (t : Term) (ts us : List Term) → Agree (t ∷ ts) us → Holds t us
head_there t ts us h =
    let e = head_counts t ts in
    let there : 0 < cnt t (t ∷ ts) = omega arith in
    subst (λ n. 0 < n) (h t there) there

rest_agrees : (t : Term) (ts us : List Term) → Agree (t ∷ ts) us → Agree ts (without t us)
rest_agrees t ts us h x there =
    more_once (same_term x t) _ _ (h x (positive_more (same_term x t) _ there) ∙ keeps_counts t us (head_there t ts us h) x)

one_value : (of_atom : Term → ℤ) (ts us : List Term) → length ts ≡ length us → Agree ts us → product_value of_atom ts ≡ product_value of_atom us
one_value of_atom [] [] e h = refl
one_value of_atom [] (u ∷ us) e h = absurd (omega arith)
one_value of_atom (t ∷ ts) us e h =
    let there = head_there t ts us h in
    ap (λ z. of_atom t *ℤ z) (one_value of_atom ts (without t us) (suc_same _ _ (e ∙ keeps_length t us there)) (rest_agrees t ts us h))
    ∙ sym (keeps_value t of_atom us there)
  where
    suc_same : (m n : ℕ) → suc m ≡ suc n → m ≡ n
    suc_same m n e = omega arith

counted_case : (ones others : List Term) (t : Term) (x : Term) (n : ℕ) (b : Bool) → same_term x t ≡ b → cnt t ones ≡ cnt t others → (0 < n → cnt x ones ≡ cnt x others) →
    0 < more_if b n → cnt x ones ≡ cnt x others
counted_case ones others t x n true e h ih k = subst (λ z. cnt z ones ≡ cnt z others) (sym (term_told x t e)) h
counted_case ones others t x n false e h ih k = ih k

often : (ones others : List Term) (t : Term) → as_often ones others t ≡ true → cnt t ones ≡ cnt t others
often ones others t h = cnt_is t ones ∙ (Decides-eqb (count t ones) (count t others)).0 h ∙ sym (cnt_is t others)

counted : (ones others ts : List Term) → list_all (as_often ones others) ts ≡ true → (x : Term) → Holds x ts → cnt x ones ≡ cnt x others
counted ones others [] h x k = absurd (omega arith)
counted ones others (t ∷ ts) h x k =
    counted_case ones others t x (cnt x ts) (same_term x t) refl (often ones others t (and_parts (as_often ones others t) _ h).0) (counted ones others ts (and_parts (as_often ones others t) _ h).1 x) k

pub one_product_law : OneProductLaw
one_product_law of_atom ones others e =
    one_value of_atom ones others ((Decides-eqb (length ones) (length others)).0 (and_parts (nat_eq (length ones) (length others)) _ e).0) (counted ones others ones (and_parts (nat_eq (length ones) (length others)) _ e).1)
