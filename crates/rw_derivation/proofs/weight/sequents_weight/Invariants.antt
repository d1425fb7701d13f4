use Rattle.std.proofs.Common.{◌≡◌, ◌+◌, ◌≤◌, map, min, drop}
use Rattle.rw_trees.specs.Nodes.{total}
use Rattle.rw_derivation.specs.Weight.{sequent_parts}
use Rattle.rw_derivation.proofs.weight.sequents_weight.Given as goal

abbrev pub invariant-loop-sequent : goal.invariant-loop-sequent
invariant-loop-sequent l = record {
  fits : l.sum ≤ 18446744073709551615;
  is : min (l.sum + total (map sequent_parts (drop l.sequent-index l.sequents))) 18446744073709551615 ≡ min (total (map sequent_parts l.sequents)) 18446744073709551615;
}
