use Rattle.std.proofs.Common.{◌≡◌, ◌++◌, drop}
use Rattle.rw_arith.specs.Lines.{quotients}
use Rattle.rw_arith.proofs.lines.quotients.Given as goal

abbrev pub invariant-loop-summand : goal.invariant-loop-summand
invariant-loop-summand l = l.quotients ++ quotients l.by (drop l.summand-index l.summands) ≡ quotients l.by l.summands
