use Rattle.std.proofs.Common.{◌≡◌, ◌+◌, ◌≤◌, min, drop}
use Rattle.rw_goals.specs.Weight.{formulas_weight}
use Rattle.rw_goals.proofs.room.weight_of.Given as goal

-- the sum so far and the formulas that are left
abbrev pub invariant-loop-formula : goal.invariant-loop-formula
invariant-loop-formula l = record {
  fits : l.sum ≤ 4294967295;
  is : min (l.sum + formulas_weight (drop l.formula-index l.formulas)) 4294967295 ≡ min (formulas_weight l.formulas) 4294967295;
}
