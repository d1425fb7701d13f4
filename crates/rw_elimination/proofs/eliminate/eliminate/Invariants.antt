use Rattle.std.proofs.Common.{◌≡◌, false}
use Rattle.rw_elimination.specs.Rows.{all_given}
use Rattle.rw_elimination.specs.Elimination.{after_atoms, some_ends}
use Rattle.rw_elimination.proofs.eliminate.eliminate.Given as goal

abbrev pub invariant-loop-at : goal.invariant-loop-at
invariant-loop-at l = record {
  rows : l.rows ≡ after_atoms l.atoms l.at (all_given l.atoms l.used);
  goes_on : some_ends 0 l.rows ≡ false;
}
