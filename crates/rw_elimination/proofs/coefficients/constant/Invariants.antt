use Rattle.std.proofs.Common.{◌≡◌, drop}
use Rattle.rw_elimination.specs.Rows.{constant}
use Rattle.rw_elimination.proofs.coefficients.constant.Given as goal

abbrev pub invariant-loop-summand : goal.invariant-loop-summand
invariant-loop-summand l = constant (drop l.summand-index l.summands) ≡ constant l.summands
