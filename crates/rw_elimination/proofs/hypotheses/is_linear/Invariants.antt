use Rattle.std.proofs.Common.{◌≡◌, drop}
use Rattle.std.specs.List.{list_all}
use Rattle.rw_elimination.specs.Hypotheses.{is_single}
use Rattle.rw_elimination.proofs.hypotheses.is_linear.Given as goal

abbrev pub invariant-loop-summand : goal.invariant-loop-summand
invariant-loop-summand l = list_all is_single (drop l.summand-index l.summands) ≡ list_all is_single l.summands
