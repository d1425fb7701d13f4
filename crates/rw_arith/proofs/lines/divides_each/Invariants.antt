use Rattle.std.proofs.Common.{◌≡◌, drop}
use Rattle.std.specs.List.{list_all}
use Rattle.rw_arith.specs.Lines.{divides}
use Rattle.rw_arith.proofs.lines.divides_each.Given as goal

abbrev pub invariant-loop-summand : goal.invariant-loop-summand
invariant-loop-summand l = list_all (divides l.by) (drop l.summand-index l.summands) ≡ list_all (divides l.by) l.summands
