use Rattle.std.proofs.Common.{◌≡◌, ◌+◌, ◌≤◌, map, min, drop}
use Rattle.rw_trees.specs.Nodes.{total}
use Rattle.rw_derivation.specs.Weight.{formula_parts}
use Rattle.rw_derivation.proofs.weight.formulas_weight.Given as goal

abbrev pub invariant-loop-formula : goal.invariant-loop-formula
invariant-loop-formula l = record {
  fits : l.sum ≤ 18446744073709551615;
  is : min (l.sum + total (map formula_parts (drop l.formula-index l.formulas))) 18446744073709551615 ≡ min (total (map formula_parts l.formulas)) 18446744073709551615;
}
