use Rattle.std.proofs.Common.{◌≡◌, ◌+◌, ◌++◌, drop, length}
use Rattle.rw_elimination.specs.Elimination.{pairs_with, some_ends, until}
use Rattle.rw_elimination.proofs.eliminate.pair_with.Given as goal

abbrev pub invariant-loop-second : goal.invariant-loop-second
invariant-loop-second l = record {
  rows : l.made ++ until (length l.rows + length l.made) (pairs_with l.atoms l.at l.number l.fn.first (l.second + 1) (drop l.second l.rows)) ≡ l.fn.made ++ until (length l.rows + length l.fn.made) (pairs_with l.atoms l.at l.number l.fn.first 1 l.rows);
  ended : some_ends (length l.rows + length l.made) (pairs_with l.atoms l.at l.number l.fn.first (l.second + 1) (drop l.second l.rows)) ≡ some_ends (length l.rows + length l.fn.made) (pairs_with l.atoms l.at l.number l.fn.first 1 l.rows);
}
