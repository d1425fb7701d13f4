-- Steps that go on from a polynomial, one for each summand of a list.
use Rattle.std.proofs.Common.{◌≡◌, ℕ, ◌+◌, ◌<◌, zero, suc, ℤ, Some, List, [], ◌∷◌, drop, length, get_or, refl, sym, ◌∙◌, ap, add-one, drop-cons}
use Rattle.std.specs.List.{slice_get, slice_set}
use Rattle.rw_arith.specs.declared.poly.Summand.{Summand}
use Rattle.rw_arith.specs.declared.poly.Expansion.{Expansion}
use Rattle.rw_arith.specs.declared.poly.Expansion.TheVariants.{Polynomial, Unfit, Wide}
use Rattle.rw_arith.specs.Polynomials.{and_then, times_set, for_each, with_product, with_products}

module _ (step : List Summand → Summand → Expansion) where
  unfit_stays : (ss : List Summand) → Unfit ≡ for_each step ss Unfit
  unfit_stays [] = refl
  unfit_stays (s ∷ ss) = unfit_stays ss

  wide_stays : (ss : List Summand) → Wide ≡ for_each step ss Wide
  wide_stays [] = refl
  wide_stays (s ∷ ss) = wide_stays ss

  -- the steps from an expansion are those from its polynomial
  pub steps_from : (ss : List Summand) (e : Expansion) → and_then e (λ p. for_each step ss (Polynomial p)) ≡ for_each step ss e
  steps_from ss (Polynomial p) = refl
  steps_from ss Unfit = unfit_stays ss
  steps_from ss Wide = wide_stays ss

-- one of the left summands more
pub one_step : (others ones : List Summand) (i : ℕ) (x : Summand) (e r : Expansion) → i < length ones → get_or ones i x ≡ x → r ≡ for_each (with_product x) others e →
    for_each (with_products others) (drop (i + 1) ones) r ≡ for_each (with_products others) (drop i ones) e
one_step others ones i x e r l is h =
    let rest : drop i ones ≡ x ∷ drop (i + 1) ones = drop-cons ones i x l ∙ (λ j. is j ∷ drop (sym (add-one i) j) ones) in
    ap (for_each (with_products others) (drop (i + 1) ones)) (h ∙ sym (steps_from (with_product x) others e))
    ∙ sym (ap (λ ss. for_each (with_products others) ss e) rest)

-- the summand at a place, read and put back with another coefficient
pub times_set_is : (p : List Summand) (at : ℕ) (s : Summand) (times : ℤ) → slice_get p at ≡ Some s → times_set p at times ≡ slice_set p at (record s { times = times })
times_set_is [] at s times e = refl
times_set_is (x ∷ p) zero s times e = let same : x ≡ s = cc in ap (λ (y : Summand). record y { times = times } ∷ p) same
times_set_is (x ∷ p) (suc at) s times e = ap (λ ss. x ∷ ss) (times_set_is p at s times e)
