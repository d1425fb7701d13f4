use Rattle.std.proofs.Common.{◌≡◌, drop, None}
use Rattle.rw_finder.specs.Point.{greatest_lower}
use Rattle.rw_finder.proofs.point.greatest_lower.Given as goal

abbrev pub invariant-loop-row : goal.invariant-loop-row
invariant-loop-row l = greatest_lower l.atoms l.at l.values l.best (drop l.row-index l.rows) ≡ greatest_lower l.atoms l.at l.values None l.rows
