-- What an elimination answers.
use Rattle.std.specs.Prelude.{leb, cond, List, [], ◌∷◌, length, Option, Some, None, slice_get}
use Rattle.rw_terms.specs.declared.term.Formula.{Formula}
use Rattle.rw_terms.specs.declared.term.Term.{Term}
use Rattle.rw_elimination.specs.declared.hypotheses.Hypothesis.{Hypothesis}
use Rattle.rw_elimination.specs.declared.row.Row.{Row}
use Rattle.rw_elimination.specs.declared.row.Row.TheVariants.{Wide, Long, Fits}
use Rattle.rw_elimination.specs.declared.ending.Elimination.{Elimination}
use Rattle.rw_elimination.specs.declared.ending.Elimination.TheVariants as e
use Rattle.rw_elimination.specs.declared.ending.Table.{Table}
use Rattle.rw_elimination.specs.Hypotheses.{used}
use Rattle.rw_elimination.specs.Elimination.{atoms_of, eliminated, some_ends, until}
use Rattle.rw_elimination.specs.Writing.{lines_of}

-- the last row
abbrev pub last : List Row → Option Row
last [] = None
last (row ∷ rows) = slice_get (row ∷ rows) (length rows)

-- the answer of a last row that is too wide, too long, one too many or a negative constant, the first that it is
abbrev pub answer_by : List Row → Option Row → Elimination
answer_by rows (Some Wide) = e.Wide (length rows)
answer_by rows (Some Long) = e.Many
answer_by rows (Some (Fits i)) = cond (leb (length rows) 4096) (e.Lines (lines_of rows)) e.Many
answer_by rows None = e.Many

-- the answer of the rows up to the first that ends the elimination
abbrev pub answer : List Row → Elimination
answer rows = answer_by rows (last rows)

-- the answer for the atoms and rows of hypotheses
abbrev pub answer_by_rows : List Term → List Row → Elimination
answer_by_rows atoms rows = cond (some_ends 0 rows) (answer (until 0 rows)) (e.Rows (record { atoms = atoms; rows = rows }))

-- the same for the hypotheses that are used
abbrev pub answer_by_used : List Hypothesis → Elimination
answer_by_used hs = answer_by_rows (atoms_of hs) (eliminated (atoms_of hs) hs)

-- what the elimination of all atoms answers
abbrev pub answer_of : List Formula → List Formula → Elimination
answer_of left right = answer_by_used (used left right)

-- P of the rows, where none ends the elimination
abbrev pub IfRows : Elimination → (Table → Type 0) → Type 0
IfRows (e.Lines lines) P = Unit {0}
IfRows (e.Wide k) P = Unit {0}
IfRows e.Many P = Unit {0}
IfRows (e.Rows t) P = P t
