use Rattle.std.proofs.Common.{◌≡◌, ◌+◌, ◌++◌, drop}
use Rattle.rw_numbering.specs.Loops.{modules_loops}
use Rattle.rw_numbering.specs.Tables.{modules_from}
use Rattle.rw_numbering.proofs.tables.number_modules.Given as goal

-- the modules so far and those that are left
abbrev pub invariant-loop-owner : goal.invariant-loop-owner
invariant-loop-owner l = record {
  bodies : l.tallies ++ modules_from l.next (drop l.owner-index l.modules) ≡ modules_from l.fn.next l.modules;
  next : l.next + modules_loops (drop l.owner-index l.modules) ≡ l.fn.next + modules_loops l.modules;
}
