-- Formulas joined by `and` and by `or`.
use Rattle.std.specs.Prelude.{◌≡◌, ◌+◌, min, max, List, [], ◌∷◌, Option, Some, None}
use Rattle.rw_terms.specs.declared.term.Term.{Term}
use Rattle.rw_terms.specs.declared.term.Formula.{Formula}
use Rattle.rw_terms.specs.declared.term.Formula.TheVariants.{True, False, And, Or}
use Rattle.rw_terms.specs.Size.{term_weight, term_depth, formula_weight, formula_depth}
use Rattle.rw_subst.specs.declared.size.Size.{Size}

-- a formula and the others behind it, joined from the left
abbrev pub conj_with : Formula → List Formula → Formula
conj_with f [] = f
conj_with f (g ∷ gs) = conj_with (And f g) gs

-- the formulas joined from the left; of none it is `true`
abbrev pub conj : List Formula → Formula
conj [] = True
conj (f ∷ fs) = conj_with f fs

-- a formula or one of the others behind it, joined from the left
abbrev pub disj_with : Formula → List Formula → Formula
disj_with f [] = f
disj_with f (g ∷ gs) = disj_with (Or f g) gs

-- one of the formulas, joined from the left; of none it is `false`
abbrev pub disj : List Formula → Formula
disj [] = False
disj (f ∷ fs) = disj_with f fs

-- its size, as far as a `u32` tells
abbrev pub formula_size : Formula → Size
formula_size f = record { weight = min (formula_weight f) 4294967295; depth = min (formula_depth f) 4294967295 }

-- the size of what is joined so far, if anything is, with one more formula behind it
abbrev pub size_and_also : Option Size → Size → Size
size_and_also None b = b
size_and_also (Some a) b = record { weight = min (a.weight + b.weight + 1) 4294967295; depth = min (max a.depth b.depth + 1) 4294967295 }

-- and with more formulas
abbrev pub sizes_joined : Option Size → List Formula → Option Size
sizes_joined so_far [] = so_far
sizes_joined so_far (f ∷ fs) = sizes_joined (Some (size_and_also so_far (formula_size f))) fs

abbrev pub size_or_one : Option Size → Size
size_or_one None = record { weight = 1; depth = 1 }
size_or_one (Some size) = size

-- the size of a term compared with a number
abbrev pub IsCompared : Term → Size → Type 0
IsCompared t size = (size.weight ≡ min (min (term_weight t) 4294967295 + 1 + 1) 4294967295) × (size.depth ≡ min (max (min (term_depth t) 4294967295) 1 + 1) 4294967295)
