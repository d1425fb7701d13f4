use Rattle.std.proofs.Common.{◌≡◌, drop}
use Rattle.rw_elimination.specs.Rows.{multiples_fit}
use Rattle.rw_elimination.proofs.summing.multiples_fit.Given as goal

abbrev pub invariant-loop-summand : goal.invariant-loop-summand
invariant-loop-summand l = multiples_fit l.times (drop l.summand-index l.summands) ≡ multiples_fit l.times l.summands
