use Rattle.std.proofs.Common.{◌≡◌, ◌+◌, ◌≤◌, drop}
use Rattle.rw_machine.specs.Kept.{pick_of}
use Rattle.rw_evaluation.specs.Stored.{map_of}
use Rattle.rw_numbering.specs.Loops.{arms_loops}
use Rattle.rw_machine.proofs.picking.pick.Given as goal

abbrev pub invariant-loop-i : goal.invariant-loop-i
invariant-loop-i l = record {
  room : l.number + arms_loops (drop l.i l.arms) ≤ 18446744073709551615;
  is : pick_of l.number (drop l.i l.arms) (map_of l.store) ≡ pick_of l.first l.arms (map_of l.store);
}
