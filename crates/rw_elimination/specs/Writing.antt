-- The arithmetic lines of a row: the sums that it needs, in order of rows.
use Rattle.std.specs.Prelude.{ℕ, ◌+◌, nat_eq, Bool, true, false, cond, ◌&&◌, ◌||◌, List, [], ◌∷◌, Option, Some, None}
use Rattle.std.specs.List.{list_any}
use Rattle.rw_arith.specs.declared.line.Ref.{Ref}
use Rattle.rw_arith.specs.declared.line.Ref.TheVariants.{Left, Right, Line}
use Rattle.rw_arith.specs.declared.line.Part.{Part}
use Rattle.rw_arith.specs.declared.line.LinLine.{LinLine}
use Rattle.rw_arith.specs.declared.line.LinLine.TheVariants.{Sum}
use Rattle.rw_elimination.specs.declared.row.Parts.{Parts}
use Rattle.rw_elimination.specs.declared.row.Parts.TheVariants.{One, Two}
use Rattle.rw_elimination.specs.declared.row.Row.{Row}
use Rattle.rw_elimination.specs.declared.row.Row.TheVariants.{Wide, Long, Fits}
use Rattle.rw_elimination.specs.declared.writing.Written.{Written}

-- it is the row of this number
abbrev pub is_row : ℕ → Ref → Bool
is_row n (Left _) = false
is_row n (Right _) = false
is_row n (Line k) = nat_eq k n

-- the sum adds a multiple of the row of this number
abbrev pub adds : ℕ → Parts → Bool
adds n (One part) = false
adds n (Two first second) = is_row n first.of || is_row n second.of

-- what a row is a sum of
abbrev pub parts_of : Row → Option Parts
parts_of Wide = None
parts_of Long = None
parts_of (Fits i) = Some i.parts

-- no rows
abbrev pub is_none : List Row → Bool
is_none [] = true
is_none (_ ∷ _) = false

-- it is a sum of rows, and no hypothesis
abbrev pub is_sum : Parts → Bool
is_sum (One part) = false
is_sum (Two first second) = true

-- the row of this number before the needed ones, where it is the last, or a sum that one of them adds
abbrev pub needed_by : ℕ → Option Parts → Bool → List Written → List Written
needed_by n None last later = later
needed_by n (Some parts) last later = cond (last || (is_sum parts && list_any (λ (x : Written). adds n x.parts) later)) (record { number = n; parts = parts } ∷ later) later

-- the last row, and the sums that it needs, from a number on
abbrev pub needed : ℕ → List Row → List Written
needed n [] = []
needed n (row ∷ rows) = needed_by n (parts_of row) (is_none rows) (needed (n + 1) rows)

-- the line of the row of a number, behind so many lines
abbrev pub line_number : ℕ → ℕ → List Written → ℕ
line_number n before [] = 0
line_number n before (x ∷ more) = cond (nat_eq x.number n) (before + 1) (line_number n (before + 1) more)

-- a row is named by its line
abbrev pub lined : List Written → Ref → Ref
lined rows (Left n) = Left n
lined rows (Right n) = Right n
lined rows (Line n) = Line (line_number n 0 rows)

-- the same multiple
abbrev pub lined_part : List Written → Part → Part
lined_part rows part = record part { of = lined rows part.of }

-- the line that writes a row
abbrev pub line_by : List Written → Parts → LinLine
line_by rows (One part) = Sum (part ∷ [])
line_by rows (Two first second) = Sum (lined_part rows first ∷ lined_part rows second ∷ [])

-- the lines of the needed rows
abbrev pub lines_by : List Written → List Written → List LinLine
lines_by all [] = []
lines_by all (x ∷ more) = line_by all x.parts ∷ lines_by all more

-- the lines of the last row
abbrev pub lines_of : List Row → List LinLine
lines_of rows = lines_by (needed 1 rows) (needed 1 rows)
