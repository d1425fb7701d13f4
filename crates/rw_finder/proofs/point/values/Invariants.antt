use Rattle.std.proofs.Common.{◌≡◌, Some}
use Rattle.rw_finder.specs.Point.{last_values}
use Rattle.rw_finder.proofs.point.values.Given as goal

abbrev pub invariant-loop-behind : goal.invariant-loop-behind
invariant-loop-behind l = last_values l.atoms l.rows l.behind ≡ Some l.values
