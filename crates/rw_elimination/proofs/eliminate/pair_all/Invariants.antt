use Rattle.std.proofs.Common.{◌≡◌, ◌+◌, ◌++◌, drop, length}
use Rattle.rw_elimination.specs.Elimination.{pairs_from, some_ends, until}
use Rattle.rw_elimination.proofs.eliminate.pair_all.Given as goal

abbrev pub invariant-loop-first : goal.invariant-loop-first
invariant-loop-first l = record {
  rows : l.made ++ until (length l.rows + length l.made) (pairs_from l.atoms l.at l.rows (l.first + 1) (drop l.first l.rows)) ≡ until (length l.rows) (pairs_from l.atoms l.at l.rows 1 l.rows);
  ended : some_ends (length l.rows + length l.made) (pairs_from l.atoms l.at l.rows (l.first + 1) (drop l.first l.rows)) ≡ some_ends (length l.rows) (pairs_from l.atoms l.at l.rows 1 l.rows);
}
