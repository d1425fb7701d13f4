use Rattle.std.proofs.Common.{◌≡◌, drop}
use Rattle.rw_elimination.specs.Rows.{coefficient}
use Rattle.rw_elimination.proofs.coefficients.coefficient.Given as goal

abbrev pub invariant-loop-summand : goal.invariant-loop-summand
invariant-loop-summand l = coefficient l.atom (drop l.summand-index l.summands) ≡ coefficient l.atom l.summands
