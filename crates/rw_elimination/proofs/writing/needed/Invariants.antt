use Rattle.std.proofs.Common.{◌≡◌, ◌+◌, ◌-◌, ◌≤◌, drop, length}
use Rattle.rw_elimination.specs.Writing.{needed}
use Rattle.rw_elimination.proofs.writing.needed.Given as goal

abbrev pub invariant-loop-behind : goal.invariant-loop-behind
invariant-loop-behind l = record {
  value : l.needed ≡ needed ((length l.rows - l.behind) + 1) (drop (length l.rows - l.behind) l.rows);
  few : length l.needed ≤ l.behind;
}
