use Rattle.std.proofs.Common.{◌≡◌, drop, None}
use Rattle.rw_finder.specs.Point.{least_upper}
use Rattle.rw_finder.proofs.point.least_upper.Given as goal

abbrev pub invariant-loop-row : goal.invariant-loop-row
invariant-loop-row l = least_upper l.atoms l.at l.values l.best (drop l.row-index l.rows) ≡ least_upper l.atoms l.at l.values None l.rows
