-- Rows: inequalities whose products are atoms, and the sums of two of them.
use Rattle.std.specs.Prelude.{ℕ, ◌+◌, Bool, false, cond, ◌&&◌, ℤ, pos, negsuc, neg_ℤ, ◌+ℤ◌, ◌*ℤ◌, List, [], ◌∷◌, Option, Some, None}
use Rattle.std.specs.List.{list_all, flat_map}
use Rattle.rw_terms.specs.declared.term.Term.{Term}
use Rattle.rw_terms.specs.Same.{same_term}
use Rattle.rw_arith.specs.declared.line.Ref.TheVariants.{Line}
use Rattle.rw_arith.specs.declared.line.Part.{Part}
use Rattle.rw_arith.specs.declared.poly.Summand.{Summand}
use Rattle.rw_arith.specs.declared.poly.Expansion.{Expansion}
use Rattle.rw_arith.specs.declared.poly.Expansion.TheVariants as e
use Rattle.rw_arith.specs.Polynomials.{is_narrow, is_zero, negated, with_multiples}
use Rattle.rw_elimination.specs.declared.hypotheses.Hypothesis.{Hypothesis}
use Rattle.rw_elimination.specs.declared.row.Parts.{Parts}
use Rattle.rw_elimination.specs.declared.row.Parts.TheVariants.{One, Two}
use Rattle.rw_elimination.specs.declared.row.Lead.{Lead}
use Rattle.rw_elimination.specs.declared.row.Inequality.{Inequality}
use Rattle.rw_elimination.specs.declared.row.Row.{Row}
use Rattle.rw_elimination.specs.declared.row.Row.TheVariants.{Wide, Long, Fits}

-- the one factor is this atom
abbrev pub is_multiple_of : Term → List Term → Bool
is_multiple_of a [] = false
is_multiple_of a (t ∷ []) = same_term a t
is_multiple_of a (t ∷ u ∷ ts) = false

-- the coefficient of an atom
abbrev pub coefficient : Term → List Summand → ℤ
coefficient a [] = pos 0
coefficient a (s ∷ ss) = cond (is_multiple_of a s.atoms) s.times (coefficient a ss)

-- the constant, by the atoms of the first summand
abbrev pub constant_by : List Term → ℤ → ℤ → ℤ
constant_by [] times rest = times
constant_by (t ∷ ts) times rest = rest

-- the constant
abbrev pub constant : List Summand → ℤ
constant [] = pos 0
constant (s ∷ ss) = constant_by s.atoms s.times (constant ss)

-- the coefficient of the same product, of an atom or none
abbrev pub like : List Term → List Summand → ℤ
like [] p = constant p
like (t ∷ ts) p = coefficient t p

-- the first atom with a coefficient other than 0
abbrev pub lead : ℕ → List Term → List Summand → Option Lead
lead n [] p = None
lead n (a ∷ more) p = cond (is_zero (coefficient a p)) (lead (n + 1) more p) (Some (record { atom = n; times = coefficient a p }))

-- the row of these parts, whose sum is given
abbrev pub row_of : List Term → Parts → Expansion → Row
row_of atoms parts (e.Polynomial p) = Fits (record { parts = parts; summands = p; lead = lead 0 atoms p })
row_of atoms parts e.Unfit = Long
row_of atoms parts e.Wide = Wide

-- the multiples of a polynomial's coefficients are within 128 bits
abbrev pub multiples_fit : ℤ → List Summand → Bool
multiples_fit d p = list_all (λ s. is_narrow (s.times *ℤ d)) p

-- a polynomial of a hypothesis, whose coefficients are within 128 bits
abbrev pub fitting : Expansion → Expansion
fitting (e.Polynomial p) = cond (multiples_fit (pos 1) p) (e.Polynomial p) e.Wide
fitting e.Unfit = e.Unfit
fitting e.Wide = e.Wide

-- the row of a hypothesis once, or with the opposite sign
abbrev pub given_row : List Term → Hypothesis → ℤ → Expansion → Row
given_row atoms h times e = row_of atoms (One (record { times = times; of = h.of })) (fitting e)

-- an equation s = t gives s - t >= 0 and then t - s >= 0
abbrev pub given_rows : List Term → Hypothesis → List Row
given_rows atoms h = given_row atoms h (pos 1) (e.Polynomial h.summands) ∷ cond h.is_equation (given_row atoms h (negsuc 0) (negated (e.Polynomial h.summands)) ∷ []) []

-- the rows of all hypotheses, in order
abbrev pub all_given : List Term → List Hypothesis → List Row
all_given atoms hs = flat_map (given_rows atoms) hs

-- the multiple of a coefficient is, and its sum with that of the same product in another polynomial
abbrev pub sum_fits : ℤ → List Summand → ℤ → Summand → Bool
sum_fits d p c s = is_narrow (like s.atoms p *ℤ d) && (is_narrow (s.times *ℤ c) && is_narrow ((like s.atoms p *ℤ d) +ℤ (s.times *ℤ c)))

-- d times the first and c times the second; no coefficient of these two or of their sum may pass 128 bits
abbrev pub summed : ℤ → List Summand → ℤ → List Summand → Expansion
summed d p c q = cond (multiples_fit d p && list_all (sum_fits d p c) q) (with_multiples c q (with_multiples d p (e.Polynomial []))) e.Wide

-- the number, or its opposite where the sign is negative
abbrev pub signed_by : ℤ → ℤ → ℤ
signed_by (pos _) m = m
signed_by (negsuc _) m = neg_ℤ m

-- m times the row of number n, as a part of a line: a hypothesis stands for its rows, with the opposite multiple for the second one of an equation
abbrev pub named : ℤ → ℕ → Parts → Part
named m n (One part) = record { times = signed_by part.times m; of = part.of }
named m n (Two _ _) = record { times = m; of = Line n }

-- d times the first row and c times the second, where c is the first one's coefficient and -d the second one's
abbrev pub paired : List Term → ℕ → Inequality → ℤ → ℕ → Inequality → ℤ → Row
paired atoms k first c n second less =
    cond (is_narrow (neg_ℤ less))
    (row_of atoms (Two (named (neg_ℤ less) k first.parts) (named c n second.parts)) (summed (neg_ℤ less) first.summands c second.summands))
    Wide
