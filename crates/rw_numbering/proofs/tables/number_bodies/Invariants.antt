use Rattle.std.proofs.Common.{◌≡◌, ◌+◌, ◌++◌, drop}
use Rattle.rw_numbering.specs.Loops.{bodies_loops}
use Rattle.rw_numbering.specs.Tables.{bodies_from}
use Rattle.rw_numbering.proofs.tables.number_bodies.Given as goal

-- the bodies so far and those that are left
abbrev pub invariant-loop-entry : goal.invariant-loop-entry
invariant-loop-entry l = record {
  bodies : l.bodies ++ bodies_from l.next (drop l.entry-index l.procs) ≡ bodies_from l.fn.next l.procs;
  next : l.next + bodies_loops (drop l.entry-index l.procs) ≡ l.fn.next + bodies_loops l.procs;
}
