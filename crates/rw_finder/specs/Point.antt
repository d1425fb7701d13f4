-- The point: a value of each atom, from the last atom back.
use Rattle.std.specs.Prelude.{ℕ, zero, suc, ◌+◌, ◌-◌, Bool, cond, ℤ, pos, neg_ℤ, List, [], ◌∷◌, drop, length, Option, Some, None}
use Rattle.rw_terms.specs.declared.term.Term.{Term}
use Rattle.rw_arith.specs.declared.poly.Summand.{Summand}
use Rattle.rw_arith.specs.Lines.{is_positive, is_negative}
use Rattle.rw_elimination.specs.declared.row.Row.{Row}
use Rattle.rw_elimination.specs.declared.row.Row.TheVariants.{Fits}
use Rattle.rw_elimination.specs.Rows.{coefficient, constant}
use Rattle.rw_elimination.specs.Elimination.{lead_by}
use Rattle.rw_finder.specs.declared.fraction.Fraction.{Fraction}
use Rattle.rw_finder.specs.Fractions.{narrow, if_some, times, plus, opposite, over, is_below}

-- the term of an atom added to a sum
abbrev pub with_term : List Summand → Term → Fraction → Fraction → Option Fraction
with_term p a v sum = if_some (times (coefficient a p) v) (plus sum)

-- the terms of atoms that have values, added in order
abbrev pub with_terms : List Summand → List Term → List Fraction → Fraction → Option Fraction
with_terms p [] values sum = Some sum
with_terms p (a ∷ more) [] sum = Some sum
with_terms p (a ∷ more) (v ∷ values) sum = if_some (with_term p a v sum) (with_terms p more values)

-- the sum from the constant on, with the terms of the atoms behind a place
abbrev pub reckoned : List Term → ℕ → List Fraction → List Summand → Option Fraction
reckoned atoms at values p = with_terms p (drop (at + 1) atoms) values (record { above = constant p; below = pos 1 })

-- a lower bound by a positive coefficient: the opposite of the sum, divided by it
abbrev pub lower_bound : ℤ → Fraction → Option Fraction
lower_bound c sum = if_some (opposite sum) (λ s. over s c)

-- an upper bound by a negative one: the sum divided by its opposite
abbrev pub upper_bound : ℤ → Fraction → Option Fraction
upper_bound c sum = if_some (narrow (neg_ℤ c)) (over sum)

-- the bound of one more row, taken where it is beyond the best one
abbrev pub better : (Fraction → Fraction → Bool) → Option Fraction → Fraction → Option Fraction
better beyond None bound = Some bound
better beyond (Some best) bound = cond (beyond bound best) (Some bound) (Some best)

-- what comes of a row's bound, where the row has one
abbrev pub with_bound : (Fraction → Fraction → Bool) → Option Fraction → Option Fraction → Option (Option Fraction)
with_bound beyond best None = None
with_bound beyond best (Some bound) = Some (better beyond best bound)

-- the greatest lower bound of the atom at a place, in order of rows
abbrev pub lower_in : List Term → ℕ → List Fraction → Option Fraction → Row → Option (Option Fraction)
lower_in atoms at values best (Fits i) =
    cond (is_positive (lead_by at i.lead)) (with_bound (λ f g. is_below g f) best (if_some (reckoned atoms at values i.summands) (lower_bound (lead_by at i.lead)))) (Some best)
lower_in atoms at values best row = Some best

-- of all rows
abbrev pub greatest_lower : List Term → ℕ → List Fraction → Option Fraction → List Row → Option (Option Fraction)
greatest_lower atoms at values best [] = Some best
greatest_lower atoms at values best (row ∷ rows) = if_some (lower_in atoms at values best row) (λ next. greatest_lower atoms at values next rows)

-- the least upper bound
abbrev pub upper_in : List Term → ℕ → List Fraction → Option Fraction → Row → Option (Option Fraction)
upper_in atoms at values best (Fits i) =
    cond (is_negative (lead_by at i.lead)) (with_bound is_below best (if_some (reckoned atoms at values i.summands) (upper_bound (lead_by at i.lead)))) (Some best)
upper_in atoms at values best row = Some best

-- of all rows
abbrev pub least_upper : List Term → ℕ → List Fraction → Option Fraction → List Row → Option (Option Fraction)
least_upper atoms at values best [] = Some best
least_upper atoms at values best (row ∷ rows) = if_some (upper_in atoms at values best row) (λ next. least_upper atoms at values next rows)

-- 0, where there is no bound
abbrev pub or_zero : Option Fraction → Fraction
or_zero None = record { above = pos 0; below = pos 1 }
or_zero (Some bound) = bound

-- the lower bound where there is one, else the upper one
abbrev pub or_upper : List Term → ℕ → List Fraction → List Row → Option Fraction → Option Fraction
or_upper atoms at values rows (Some bound) = Some bound
or_upper atoms at values rows None = if_some (least_upper atoms at values None rows) (λ best. Some (or_zero best))

-- an atom's value: the greatest lower bound, where there is none the least upper bound, and where there is none either 0
abbrev pub value_at : List Term → List Row → ℕ → List Fraction → Option Fraction
value_at atoms rows at values = if_some (greatest_lower atoms at values None rows) (or_upper atoms at values rows)

-- the values of so many last atoms
abbrev pub last_values : List Term → List Row → ℕ → Option (List Fraction)
last_values atoms rows zero = Some []
last_values atoms rows (suc n) = if_some (last_values atoms rows n) (λ values. if_some (value_at atoms rows ((length atoms - n) - 1) values) (λ value. Some (value ∷ values)))
