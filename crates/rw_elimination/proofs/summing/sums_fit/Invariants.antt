use Rattle.std.proofs.Common.{◌≡◌, drop}
use Rattle.std.specs.List.{list_all}
use Rattle.rw_elimination.specs.Rows.{sum_fits}
use Rattle.rw_elimination.proofs.summing.sums_fit.Given as goal

abbrev pub invariant-loop-summand : goal.invariant-loop-summand
invariant-loop-summand l = list_all (sum_fits l.times l.ones l.up) (drop l.summand-index l.others) ≡ list_all (sum_fits l.times l.ones l.up) l.others
