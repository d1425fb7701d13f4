-- What left and right formulas give to arithmetic lines: a polynomial that is 0, or at least 0.
use Rattle.std.specs.Prelude.{Bool, true, false, ◌&&◌, ℤ, pos, negsuc}
use Rattle.rw_terms.specs.declared.term.Term.{Term}
use Rattle.rw_terms.specs.declared.term.Formula.{Formula}
use Rattle.rw_terms.specs.declared.term.Formula.TheOpen.{Formula-F}
use Rattle.rw_terms.specs.declared.term.Formula.TheViews.{out-Formula}
use Rattle.rw_arith.specs.declared.poly.Expansion.{Expansion}
use Rattle.rw_arith.specs.declared.poly.Expansion.TheVariants.{Unfit}
use Rattle.rw_arith.specs.Polynomials.{difference}
use Rattle.rw_arith.specs.Expanded.{constant, is_polynomial, expanded}

-- at least 0
abbrev pub is_non_negative : ℤ → Bool
is_non_negative (pos n) = true
is_non_negative (negsuc n) = false

-- s - t
abbrev pub less_of : Term → Term → Expansion
less_of s t = difference (expanded s) (expanded t)

-- s - t - 1
abbrev pub strictly_less_of : Term → Term → Expansion
strictly_less_of s t = difference (less_of s t) (constant (pos 1))

-- of a left formula: `s = t` gives s - t, which is 0; `s < t` gives t - s - 1, and `s <= t` gives t - s, which are at least 0
abbrev pub left_layer : Formula-F Formula → Expansion
left_layer (Formula-F.Eq s t) = less_of s t
left_layer (Formula-F.Less s t) = strictly_less_of t s
left_layer (Formula-F.AtMost s t) = less_of t s
left_layer _ = Unfit

-- what a left formula gives; an equation of arrays is one too, whose array names are atoms
abbrev pub given_by_left : Formula → Expansion
given_by_left f = left_layer (out-Formula f)

-- of a right formula: `s < t` gives s - t, and `s <= t` gives s - t - 1, which are at least 0
abbrev pub right_layer : Formula-F Formula → Expansion
right_layer (Formula-F.Less s t) = less_of s t
right_layer (Formula-F.AtMost s t) = strictly_less_of s t
right_layer _ = Unfit

-- what a right formula gives
abbrev pub given_by_right : Formula → Expansion
given_by_right f = right_layer (out-Formula f)

-- both terms are polynomials but for the limits
abbrev pub are_polynomials : Term → Term → Bool
are_polynomials s t = is_polynomial s && is_polynomial t

-- the multiples that may be taken: of an inequality no negative one, and nothing where the terms are no polynomials
abbrev pub left_allows_layer : ℤ → Formula-F Formula → Bool
left_allows_layer m (Formula-F.Eq s t) = are_polynomials s t
left_allows_layer m (Formula-F.Less s t) = is_non_negative m && are_polynomials s t
left_allows_layer m (Formula-F.AtMost s t) = is_non_negative m && are_polynomials s t
left_allows_layer m _ = false

-- whether so many times what a left formula gives may be taken
abbrev pub left_allows : ℤ → Formula → Bool
left_allows m f = left_allows_layer m (out-Formula f)

-- the same of a right formula, which is an inequality
abbrev pub right_allows_layer : ℤ → Formula-F Formula → Bool
right_allows_layer m (Formula-F.Less s t) = is_non_negative m && are_polynomials s t
right_allows_layer m (Formula-F.AtMost s t) = is_non_negative m && are_polynomials s t
right_allows_layer m _ = false

-- whether so many times what a right formula gives may be taken
abbrev pub right_allows : ℤ → Formula → Bool
right_allows m f = right_allows_layer m (out-Formula f)
