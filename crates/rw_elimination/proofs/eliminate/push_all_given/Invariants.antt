use Rattle.std.proofs.Common.{◌≡◌, ◌++◌, drop, length}
use Rattle.rw_elimination.specs.Rows.{all_given}
use Rattle.rw_elimination.specs.Elimination.{some_ends, until}
use Rattle.rw_elimination.proofs.eliminate.push_all_given.Given as goal

abbrev pub invariant-loop-hypothesis : goal.invariant-loop-hypothesis
invariant-loop-hypothesis l = record {
  rows : l.rows ++ until (length l.rows) (all_given l.atoms (drop l.hypothesis-index l.used)) ≡ l.fn.rows ++ until (length l.fn.rows) (all_given l.atoms l.used);
  ended : some_ends (length l.rows) (all_given l.atoms (drop l.hypothesis-index l.used)) ≡ some_ends (length l.fn.rows) (all_given l.atoms l.used);
}
