use Rattle.std.proofs.Common.{◌≡◌, ◌++◌, map, take, drop}
use Rattle.std.specs.List.{list_all}
use Rattle.rw_arith.specs.Polynomials.{is_negatable, negated_summand}
use Rattle.rw_arith.proofs.sums.negate_each.Given as goal

abbrev pub invariant-loop-i : goal.invariant-loop-i
invariant-loop-i l = record {
  done : l.summands ≡ map negated_summand (take l.i l.fn.summands) ++ drop l.i l.fn.summands;
  rest : list_all is_negatable (drop l.i l.fn.summands) ≡ list_all is_negatable l.fn.summands;
}
