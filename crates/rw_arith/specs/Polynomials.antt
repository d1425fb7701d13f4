-- Polynomials: lists of summands, the constant first and left out where it is 0, and then the products in the order in which they first came.
use Rattle.std.specs.Prelude.{ℕ, zero, suc, ◌^◌, ◌+◌, Bool, true, false, cond, not, ◌&&◌, nat_eq, nat_lt, leb, ℤ, pos, negsuc, neg_ℤ, ◌+ℤ◌, ◌*ℤ◌, List, [], ◌∷◌, ◌++◌, map, length, count_by, remove, Option, Some, None}
use Rattle.std.specs.List.{list_all}
use Rattle.rw_terms.specs.declared.term.Term.{Term}
use Rattle.rw_arith.specs.declared.poly.Summand.{Summand}
use Rattle.rw_arith.specs.declared.poly.Expansion.{Expansion}
use Rattle.rw_arith.specs.declared.poly.Expansion.TheVariants.{Polynomial, Unfit, Wide}
use Rattle.rw_terms.specs.Same.{same_term}

-- within 128 bits
abbrev pub is_narrow : ℤ → Bool
is_narrow (pos n) = nat_lt n (2 ^ 127)
is_narrow (negsuc n) = nat_lt n (2 ^ 127)

-- it is 0
abbrev pub is_zero : ℤ → Bool
is_zero (pos zero) = true
is_zero (pos (suc n)) = false
is_zero (negsuc n) = false

-- how often an atom stands in a product
abbrev pub count : Term → List Term → ℕ
count t atoms = count_by (same_term t) atoms

-- an atom stands as often in one product as in the other
abbrev pub as_often : List Term → List Term → Term → Bool
as_often ones others t = nat_eq (count t ones) (count t others)

-- two products are one where they have the same atoms, each as often
abbrev pub is_one_product : List Term → List Term → Bool
is_one_product ones others = nat_eq (length ones) (length others) && list_all (as_often ones others) ones

-- what was found, so many places further
abbrev pub further : ℕ → Option (ℕ × ℤ) → Option (ℕ × ℤ)
further n None = None
further n (Some found) = Some (n + found.0, found.1)

-- where the product of these atoms stands, with its coefficient
abbrev pub place : List Term → List Summand → Option (ℕ × ℤ)
place atoms [] = None
place atoms (s ∷ ss) = cond (is_one_product s.atoms atoms) (Some (0, s.times)) (further 1 (place atoms ss))

-- there is an atom
abbrev pub has_atoms : List Term → Bool
has_atoms [] = false
has_atoms (t ∷ ts) = true

-- the constant is no product
abbrev pub is_product : Summand → Bool
is_product s = has_atoms s.atoms

-- a polynomial has at most 256 products
abbrev pub within_limit : List Summand → Expansion
within_limit p = cond (leb (count_by is_product p) 256) (Polynomial p) Unfit

-- the constant goes before the products, and a product behind those before it
abbrev pub put_by : List Term → List Summand → Summand → List Summand
put_by [] p new = new ∷ p
put_by (t ∷ ts) p new = p ++ new ∷ []

-- a summand whose product is not there; what has coefficient 0 is left out
abbrev pub put_in : List Summand → Summand → Expansion
put_in p new = within_limit (cond (is_zero new.times) p (put_by new.atoms p new))

-- another coefficient for the summand at a place
abbrev pub times_set : List Summand → ℕ → ℤ → List Summand
times_set [] at times = []
times_set (s ∷ ss) zero times = record s { times = times } ∷ ss
times_set (s ∷ ss) (suc at) times = s ∷ times_set ss at times

-- what gets coefficient 0 is taken out
abbrev pub changed_to : List Summand → ℕ → ℤ → List Summand
changed_to p at times = cond (is_zero times) (remove p at) (times_set p at times)

-- a coefficient added to that of the summand at a place
abbrev pub joined : List Summand → ℕ → ℤ → Summand → Expansion
joined p at times new = cond (is_narrow (times +ℤ new.times)) (within_limit (changed_to p at (times +ℤ new.times))) Wide

-- a summand more, from where its product stands
abbrev pub added : Option (ℕ × ℤ) → List Summand → Summand → Expansion
added None p new = put_in p new
added (Some found) p new = joined p found.0 found.1 new

-- one summand more: it is added to the coefficient of its product, or put in where that is not there
abbrev pub with_summand : List Summand → Summand → Expansion
with_summand p new = added (place new.atoms p) p new

-- a step from a polynomial, where there is one
abbrev pub and_then : Expansion → (List Summand → Expansion) → Expansion
and_then (Polynomial p) step = step p
and_then Unfit step = Unfit
and_then Wide step = Wide

-- a step for each summand of a list, in order
abbrev pub for_each : (List Summand → Summand → Expansion) → List Summand → Expansion → Expansion
for_each step [] e = e
for_each step (s ∷ ss) e = for_each step ss (and_then e (λ p. step p s))

-- a sum adds the right one's summands, one after the other, to the left one's
abbrev pub sum : Expansion → Expansion → Expansion
sum a b = and_then a (λ p. and_then b (λ q. for_each with_summand q (Polynomial p)))

-- its negation is within 128 bits
abbrev pub is_negatable : Summand → Bool
is_negatable s = is_narrow (neg_ℤ s.times)

-- the summand with the negated coefficient
abbrev pub negated_summand : Summand → Summand
negated_summand s = record s { times = neg_ℤ s.times }

-- each summand negated
abbrev pub negated_polynomial : List Summand → Expansion
negated_polynomial p = cond (list_all is_negatable p) (Polynomial (map negated_summand p)) Wide

-- a negation negates the summands
abbrev pub negated : Expansion → Expansion
negated a = and_then a negated_polynomial

-- a difference negates the right one's summands first and is then a sum
abbrev pub difference : Expansion → Expansion → Expansion
difference a b = sum a (negated b)

-- a product of two summands has the atoms of both
abbrev pub multiplied : Summand → Summand → Summand
multiplied l r = record { times = l.times *ℤ r.times; atoms = l.atoms ++ r.atoms }

-- the product of two summands more: its factors, of which there are at most 16, are counted before its coefficient is made
abbrev pub with_product : Summand → List Summand → Summand → Expansion
with_product l p r = cond (leb (length l.atoms + length r.atoms) 16) (cond (is_narrow (l.times *ℤ r.times)) (with_summand p (multiplied l r)) Wide) Unfit

-- the products of one summand with each of the right ones, added to the results before
abbrev pub with_products : List Summand → List Summand → Summand → Expansion
with_products q p l = for_each (with_product l) q (Polynomial p)

-- a product takes the left one's summands in order, and for each of them the right one's in order
abbrev pub product : Expansion → Expansion → Expansion
product a b = and_then a (λ p. and_then b (λ q. for_each (with_products q) p (Polynomial [])))

-- a multiple of a summand more
abbrev pub with_multiple : ℤ → List Summand → Summand → Expansion
with_multiple m p s = cond (is_narrow (s.times *ℤ m)) (with_summand p (record s { times = s.times *ℤ m })) Wide

-- the summands of a polynomial are multiplied in order, and each result is added to those before
abbrev pub with_multiples : ℤ → List Summand → Expansion → Expansion
with_multiples m q e = for_each (with_multiple m) q e
