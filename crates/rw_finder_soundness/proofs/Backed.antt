-- What arithmetic lines make of a multiple of a used hypothesis.
use Rattle.std.proofs.Common.{◌≡◌, ℕ, zero, suc, ◌+◌, ◌<◌, nat_lt, Bool, true, false, cond, ◌&&◌, ℤ, pos, negsuc, neg_ℤ, List, [], ◌∷◌, ◌++◌, map, length, Option, Some, None, refl, sym, ap, ◌∙◌, subst, add-one, true≢false, arith}
use Rattle.std.specs.List.{slice_get, list_all}
use Rattle.rw_terms.specs.declared.term.Term.{Term}
use Rattle.rw_terms.specs.declared.term.Formula.{Formula}
use Rattle.rw_terms.specs.declared.term.Formula.TheOpen.{Formula-F}
use Rattle.rw_terms.specs.declared.term.Formula.TheViews.{out-Formula}
use Rattle.rw_terms.specs.Validity.{Each}
use Rattle.rw_arith.specs.declared.line.Ref.{Ref}
use Rattle.rw_arith.specs.declared.line.Ref.TheVariants.{Left, Right, Line}
use Rattle.rw_arith.specs.declared.line.Part.{Part}
use Rattle.rw_arith.specs.declared.poly.Summand.{Summand}
use Rattle.rw_arith.specs.declared.poly.Expansion.{Expansion}
use Rattle.rw_arith.specs.declared.poly.Expansion.TheVariants.{Polynomial, Unfit, Wide}
use Rattle.rw_arith.specs.Polynomials.{and_then, negated, negated_summand, with_multiples}
use Rattle.rw_arith.specs.Expanded.{expanded, constant, is_polynomial}
use Rattle.rw_arith.specs.Given.{is_non_negative, less_of, strictly_less_of, left_layer, right_layer, given_by_left, given_by_right, are_polynomials, left_allows_layer, right_allows_layer, left_allows, right_allows}
use Rattle.rw_arith.specs.Lines.{numbered, passes, expansion_by, ref_allows, is_allowed, named, with_part}
use Rattle.rw_elimination.specs.declared.hypotheses.Hypothesis.{Hypothesis}
use Rattle.rw_elimination.specs.Hypotheses.{is_linear, is_equation_layer, is_equation, atoms_in, number_at, used_if, used_by, used_left, used_right, used}
use Rattle.rw_elimination.specs.Rows.{signed_by}
use Rattle.rw_elimination.specs.Writing.{is_row}
use Rattle.rw_finder_soundness.proofs.Opposites.{opposites}
use Rattle.rw_finder_soundness.proofs.Expanded.{difference_from, told}

are_both : (s t : Term) (p : List Summand) → less_of s t ≡ Polynomial p → are_polynomials s t ≡ true
are_both s t p e = let h = difference_from (expanded s) (expanded t) p e in (λ i. told s h.0 i && told t h.1 i)

are_strictly : (s t : Term) (p : List Summand) → strictly_less_of s t ≡ Polynomial p → are_polynomials s t ≡ true
are_strictly s t p e = let h = difference_from (less_of s t) (constant (pos 1)) p e in are_both s t h.0.of h.0.is

turned : (a b : Bool) → (a && b) ≡ true → (b && a) ≡ true
turned true true e = refl
turned true false e = e
turned false b e = absurd (true≢false (sym e))

with_sign : (m : ℤ) (b : Bool) → is_non_negative m ≡ true → b ≡ true → (is_non_negative m && b) ≡ true
with_sign m b h e = (λ i. h i && e i)

left_sure : (m : ℤ) (x : Formula-F Formula) (p : List Summand) → left_layer x ≡ Polynomial p → is_non_negative m ≡ true → left_allows_layer m x ≡ true
left_sure m (Formula-F.Eq s t) p e h = are_both s t p e
left_sure m (Formula-F.Less s t) p e h = with_sign m _ h (turned (is_polynomial t) (is_polynomial s) (are_strictly t s p e))
left_sure m (Formula-F.AtMost s t) p e h = with_sign m _ h (turned (is_polynomial t) (is_polynomial s) (are_both t s p e))
left_sure m Formula-F.True p e h = absurd (cc)
left_sure m Formula-F.False p e h = absurd (cc)
left_sure m (Formula-F.Not f) p e h = absurd (cc)
left_sure m (Formula-F.And f g) p e h = absurd (cc)
left_sure m (Formula-F.Or f g) p e h = absurd (cc)
left_sure m (Formula-F.Imp f g) p e h = absurd (cc)
left_sure m (Formula-F.All _ f) p e h = absurd (cc)
left_sure m (Formula-F.Any _ f) p e h = absurd (cc)
left_sure m (Formula-F.App _ args) p e h = absurd (cc)

left_equation : (m : ℤ) (x : Formula-F Formula) (p : List Summand) → left_layer x ≡ Polynomial p → is_equation_layer x ≡ true → left_allows_layer m x ≡ true
left_equation m (Formula-F.Eq s t) p e h = are_both s t p e
left_equation m (Formula-F.Less s t) p e h = absurd (true≢false (sym h))
left_equation m (Formula-F.AtMost s t) p e h = absurd (true≢false (sym h))
left_equation m Formula-F.True p e h = absurd (cc)
left_equation m Formula-F.False p e h = absurd (cc)
left_equation m (Formula-F.Not f) p e h = absurd (cc)
left_equation m (Formula-F.And f g) p e h = absurd (cc)
left_equation m (Formula-F.Or f g) p e h = absurd (cc)
left_equation m (Formula-F.Imp f g) p e h = absurd (cc)
left_equation m (Formula-F.All _ f) p e h = absurd (cc)
left_equation m (Formula-F.Any _ f) p e h = absurd (cc)
left_equation m (Formula-F.App _ args) p e h = absurd (cc)

right_sure : (m : ℤ) (x : Formula-F Formula) (p : List Summand) → right_layer x ≡ Polynomial p → is_non_negative m ≡ true → right_allows_layer m x ≡ true
right_sure m (Formula-F.Less s t) p e h = with_sign m _ h (are_both s t p e)
right_sure m (Formula-F.AtMost s t) p e h = with_sign m _ h (are_strictly s t p e)
right_sure m (Formula-F.Eq s t) p e h = absurd (cc)
right_sure m Formula-F.True p e h = absurd (cc)
right_sure m Formula-F.False p e h = absurd (cc)
right_sure m (Formula-F.Not f) p e h = absurd (cc)
right_sure m (Formula-F.And f g) p e h = absurd (cc)
right_sure m (Formula-F.Or f g) p e h = absurd (cc)
right_sure m (Formula-F.Imp f g) p e h = absurd (cc)
right_sure m (Formula-F.All _ f) p e h = absurd (cc)
right_sure m (Formula-F.Any _ f) p e h = absurd (cc)
right_sure m (Formula-F.App _ args) p e h = absurd (cc)

right_equation : (x : Formula-F Formula) (p : List Summand) → right_layer x ≡ Polynomial p → is_equation_layer x ≡ true → ⊥
right_equation (Formula-F.Eq s t) p e h = cc
right_equation (Formula-F.Less s t) p e h = true≢false (sym h)
right_equation (Formula-F.AtMost s t) p e h = true≢false (sym h)
right_equation Formula-F.True p e h = cc
right_equation Formula-F.False p e h = cc
right_equation (Formula-F.Not f) p e h = cc
right_equation (Formula-F.And f g) p e h = cc
right_equation (Formula-F.Or f g) p e h = cc
right_equation (Formula-F.Imp f g) p e h = cc
right_equation (Formula-F.All _ f) p e h = cc
right_equation (Formula-F.Any _ f) p e h = cc
right_equation (Formula-F.App _ args) p e h = cc

module _ (left right : List Formula) where
  -- what lines may do with a used hypothesis
  pub record Gives (h : Hypothesis) : Type 0 where
    pub named_is : (made : List (List Summand)) → named left right made h.of ≡ Polynomial h.summands
    pub allowed : (made : List (List Summand)) (m : ℤ) → is_non_negative m ≡ true → ref_allows left right made m h.of ≡ true
    pub equation : h.is_equation ≡ true → (made : List (List Summand)) (m : ℤ) → ref_allows left right made m h.of ≡ true
    pub no_row : (n : ℕ) → is_row n h.of ≡ false

  -- what lines make of a multiple of a row of a hypothesis
  pub record Backs (part : Part) (p : List Summand) : Type 0 where
    pub adds : (made : List (List Summand)) (m : ℤ) (so_far : List Summand) → with_part left right made so_far (record { times = signed_by part.times m; of = part.of }) ≡ with_multiples m p (Polynomial so_far)
    pub allowed : (made : List (List Summand)) (m : ℤ) → is_non_negative m ≡ true → is_allowed left right made (record { times = signed_by part.times m; of = part.of }) ≡ true
    pub itself : signed_by part.times (pos 1) ≡ part.times
    pub no_row : (n : ℕ) → is_row n part.of ≡ false

  pub backs_once : (h : Hypothesis) → Gives h → Backs (record { times = pos 1; of = h.of }) h.summands
  backs_once h g = record {
    adds = λ made m so_far. ap (λ x. and_then x (λ p. with_multiples m p (Polynomial so_far))) (g.named_is made);
    allowed = g.allowed;
    itself = refl;
    no_row = g.no_row;
  }

  pub backs_opposite : (h : Hypothesis) → Gives h → h.is_equation ≡ true → (q : List Summand) → map negated_summand h.summands ≡ q → Backs (record { times = negsuc 0; of = h.of }) q
  backs_opposite h g e q is = record {
    adds = λ made m so_far.
        ap (λ x. and_then x (λ p. with_multiples (neg_ℤ m) p (Polynomial so_far))) (g.named_is made) ∙ sym (opposites m h.summands (Polynomial so_far)) ∙ ap (λ p. with_multiples m p (Polynomial so_far)) is;
    allowed = λ made m k. g.equation e made (neg_ℤ m);
    itself = refl;
    no_row = g.no_row;
  }

  module _ (f : Formula) (n : ℕ) (p : List Summand) where
    pub left_gives : slice_get left n ≡ Some f → given_by_left f ≡ Polynomial p → Gives (record { of = Left (n + 1); is_equation = is_equation f; summands = p; atoms = atoms_in f })
    left_gives there e =
        let at = ap (numbered left) (add-one n) ∙ there in
        record {
          named_is = λ made. ap (expansion_by given_by_left) at ∙ e;
          allowed = λ made m h. ap (passes (left_allows m)) at ∙ left_sure m (out-Formula f) p e h;
          equation = λ h made m. ap (passes (left_allows m)) at ∙ left_equation m (out-Formula f) p e h;
          no_row = λ k. refl;
        }

    pub right_gives : slice_get right n ≡ Some f → given_by_right f ≡ Polynomial p → Gives (record { of = Right (n + 1); is_equation = is_equation f; summands = p; atoms = atoms_in f })
    right_gives there e =
        let at = ap (numbered right) (add-one n) ∙ there in
        record {
          named_is = λ made. ap (expansion_by given_by_right) at ∙ e;
          allowed = λ made m h. ap (passes (right_allows m)) at ∙ right_sure m (out-Formula f) p e h;
          equation = λ h made m. absurd (right_equation (out-Formula f) p e h);
          no_row = λ k. refl;
        }
