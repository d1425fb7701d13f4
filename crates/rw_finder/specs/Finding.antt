-- What a finder of lines answers.
use Rattle.std.specs.Prelude.{ℕ, ◌+◌, List, [], ◌∷◌, length, Option, Some, None}
use Rattle.rw_terms.specs.declared.term.Term.{Term}
use Rattle.rw_terms.specs.declared.sequent.Sequent.{Sequent}
use Rattle.rw_elimination.specs.declared.ending.Elimination.{Elimination}
use Rattle.rw_elimination.specs.declared.ending.Elimination.TheVariants as e
use Rattle.rw_elimination.specs.Answer.{answer_of}
use Rattle.rw_finder.specs.declared.fraction.Fraction.{Fraction}
use Rattle.rw_finder.specs.declared.find.PointValue.{PointValue}
use Rattle.rw_finder.specs.declared.find.Found.{Found}
use Rattle.rw_finder.specs.declared.find.Found.TheVariants.{Lines, Point, Wide, Many}
use Rattle.rw_finder.specs.Point.{last_values}

-- the atoms with their values
abbrev pub point_of : List Term → List Fraction → List PointValue
point_of [] values = []
point_of (a ∷ atoms) [] = []
point_of (a ∷ atoms) (v ∷ values) = record { atom = a; above = v.above; below = v.below } ∷ point_of atoms values

-- the point, unless a number in its reckoning passes 128 bits
abbrev pub point_by : List Term → ℕ → Option (List Fraction) → Found
point_by atoms rows None = Wide (rows + 1)
point_by atoms rows (Some values) = Point (point_of atoms values)

-- of all atoms
abbrev pub found_by : Elimination → Found
found_by (e.Lines lines) = Lines lines
found_by (e.Wide k) = Wide k
found_by e.Many = Many
found_by (e.Rows t) = point_by t.atoms (length t.rows) (last_values t.atoms t.rows (length t.atoms))

-- what is found for a goal
abbrev pub found_of : Sequent → Found
found_of goal = found_by (answer_of goal.left goal.right)
