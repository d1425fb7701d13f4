-- Elimination: for each atom in order, each row with a positive coefficient is paired with each row with a negative one.
use Rattle.std.specs.Prelude.{ℕ, zero, suc, ◌+◌, leb, nat_eq, Bool, true, false, cond, not, ◌&&◌, ◌||◌, ℤ, pos, List, [], ◌∷◌, ◌++◌, length, Option, Some, None}
use Rattle.std.specs.Option.{option_to_list}
use Rattle.std.specs.List.{list_any}
use Rattle.rw_terms.specs.declared.term.Term.{Term}
use Rattle.rw_terms.specs.Same.{same_term}
use Rattle.rw_arith.specs.Polynomials.{is_zero}
use Rattle.rw_arith.specs.Lines.{is_positive, is_negative, is_contradiction}
use Rattle.rw_elimination.specs.declared.hypotheses.Hypothesis.{Hypothesis}
use Rattle.rw_elimination.specs.declared.row.Lead.{Lead}
use Rattle.rw_elimination.specs.declared.row.Inequality.{Inequality}
use Rattle.rw_elimination.specs.declared.row.Row.{Row}
use Rattle.rw_elimination.specs.declared.row.Row.TheVariants.{Wide, Long, Fits}
use Rattle.rw_elimination.specs.Rows.{coefficient, paired, all_given}

-- a used hypothesis has the atom with a coefficient other than 0
abbrev pub has_atom : Term → Hypothesis → Bool
has_atom a h = not (is_zero (coefficient a h.summands))

-- the atom behind those before it, unless it is there or no used hypothesis has it
abbrev pub with_atom : List Hypothesis → List Term → Term → List Term
with_atom used before a = cond (list_any (same_term a) before || not (list_any (has_atom a) used)) before (before ++ a ∷ [])

-- the atoms in order of their first occurrences in the text of the used hypotheses
abbrev pub with_atoms : List Hypothesis → List Term → List Term → List Term
with_atoms used before [] = before
with_atoms used before (a ∷ more) = with_atoms used (with_atom used before a) more

-- those of more hypotheses
abbrev pub occurring : List Hypothesis → List Term → List Hypothesis → List Term
occurring used before [] = before
occurring used before (h ∷ more) = occurring used (with_atoms used before h.atoms) more

-- those of all used hypotheses
abbrev pub atoms_of : List Hypothesis → List Term
atoms_of used = occurring used [] used

-- the coefficient of the atom at a place, where it is the first of the inequality
abbrev pub lead_by : ℕ → Option Lead → ℤ
lead_by at None = pos 0
lead_by at (Some l) = cond (nat_eq l.atom at) l.times (pos 0)

-- the row that two inequalities give, where the atom at a place is the first of both, and its coefficient positive in the first and negative in the second
abbrev pub pair_inequalities : List Term → ℕ → ℕ → Inequality → ℕ → Inequality → Option Row
pair_inequalities atoms at k first n second =
    cond (is_positive (lead_by at first.lead) && is_negative (lead_by at second.lead)) (Some (paired atoms k first (lead_by at first.lead) n second (lead_by at second.lead))) None

-- the row that two rows give
abbrev pub pair : List Term → ℕ → ℕ → Row → ℕ → Row → Option Row
pair atoms at k (Fits first) n (Fits second) = pair_inequalities atoms at k first n second
pair atoms at k first n second = None

-- the pairs of one row with those from a number on, in order
abbrev pub pairs_with : List Term → ℕ → ℕ → Row → ℕ → List Row → List Row
pairs_with atoms at k first n [] = []
pairs_with atoms at k first n (second ∷ rows) = option_to_list (pair atoms at k first n second) ++ pairs_with atoms at k first (n + 1) rows

-- the pairs of those from a number on with all rows, in order
abbrev pub pairs_from : List Term → ℕ → List Row → ℕ → List Row → List Row
pairs_from atoms at all k [] = []
pairs_from atoms at all k (first ∷ rows) = pairs_with atoms at k first 1 all ++ pairs_from atoms at all (k + 1) rows

-- the rows with those that the atom at a place gives; a row whose first atom it is has no part in what comes
abbrev pub with_pairs : List Term → ℕ → List Row → List Row
with_pairs atoms at rows = rows ++ pairs_from atoms at rows 1 rows

-- all rows after so many atoms
abbrev pub after_atoms : List Term → ℕ → List Row → List Row
after_atoms atoms zero rows = rows
after_atoms atoms (suc n) rows = with_pairs atoms n (after_atoms atoms n rows)

-- all rows that hypotheses give
abbrev pub eliminated : List Term → List Hypothesis → List Row
eliminated atoms used = after_atoms atoms (length atoms) (all_given atoms used)

-- a row with so many before it ends the elimination: it is too wide or too long, it is one too many, or it is a negative constant
abbrev pub ends_by : Bool → Row → Bool
ends_by full Wide = true
ends_by full Long = true
ends_by full (Fits i) = full || is_contradiction i.summands

-- at most 4096 rows
abbrev pub ends : ℕ → Row → Bool
ends before row = ends_by (leb 4096 before) row

-- one of the rows does
abbrev pub some_ends : ℕ → List Row → Bool
some_ends before [] = false
some_ends before (row ∷ rows) = ends before row || some_ends (before + 1) rows

-- the rows up to the first that does
abbrev pub until : ℕ → List Row → List Row
until before [] = []
until before (row ∷ rows) = row ∷ cond (ends before row) [] (until (before + 1) rows)
