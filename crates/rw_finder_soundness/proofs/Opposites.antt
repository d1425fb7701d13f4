-- Multiples of a polynomial whose signs are changed.
use Rattle.std.proofs.Common.{◌≡◌, ℤ, neg_ℤ, ◌*ℤ◌, Bool, true, false, cond, List, [], ◌∷◌, map, refl, sym, ap, ◌∙◌}
use Rattle.std.specs.List.{list_all}
use Rattle.std.proofs.Math.IntN.{*ℤ_comm}
use Rattle.rw_arith.specs.declared.poly.Summand.{Summand}
use Rattle.rw_arith.specs.declared.poly.Expansion.{Expansion}
use Rattle.rw_arith.specs.declared.poly.Expansion.TheVariants.{Polynomial, Unfit, Wide}
use Rattle.rw_arith.specs.Polynomials.{is_narrow, with_summand, and_then, for_each, is_negatable, negated_summand, negated, with_multiple, with_multiples}
use Rattle.rw_arith.proofs.Integers.{negates}

opposite_product : (a d : ℤ) → neg_ℤ a *ℤ d ≡ a *ℤ neg_ℤ d
opposite_product a d = negates a d ∙ ap neg_ℤ (*ℤ_comm a d) ∙ sym (negates d a) ∙ *ℤ_comm (neg_ℤ d) a

one_opposite : (d : ℤ) (p : List Summand) (s : Summand) → with_multiple d p (negated_summand s) ≡ with_multiple (neg_ℤ d) p s
one_opposite d p s = ap (λ z. cond (is_narrow z) (with_summand p (record { times = z; atoms = s.atoms })) Wide) (opposite_product s.times d)

then_one : (d : ℤ) (s : Summand) (x : Expansion) → and_then x (λ p. with_multiple d p (negated_summand s)) ≡ and_then x (λ p. with_multiple (neg_ℤ d) p s)
then_one d s (Polynomial p) = one_opposite d p s
then_one d s Unfit = refl
then_one d s Wide = refl

pub opposites : (d : ℤ) (ss : List Summand) (x : Expansion) → with_multiples d (map negated_summand ss) x ≡ with_multiples (neg_ℤ d) ss x
opposites d [] x = refl
opposites d (s ∷ ss) x = opposites d ss (and_then x (λ p. with_multiple d p (negated_summand s))) ∙ ap (for_each (with_multiple (neg_ℤ d)) ss) (then_one d s x)

negated_case : (b : Bool) (p q : List Summand) → cond b (Polynomial (map negated_summand p)) Wide ≡ Polynomial q → map negated_summand p ≡ q
negated_case true p q e = cc
negated_case false p q e = absurd (cc)

-- what a polynomial's negation is
pub negated_is : (p q : List Summand) → negated (Polynomial p) ≡ Polynomial q → map negated_summand p ≡ q
negated_is p q e = negated_case (list_all is_negatable p) p q e
