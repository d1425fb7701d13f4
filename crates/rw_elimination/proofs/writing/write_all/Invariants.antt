use Rattle.std.proofs.Common.{◌≡◌, ◌++◌, drop}
use Rattle.rw_elimination.specs.Writing.{lines_by}
use Rattle.rw_elimination.proofs.writing.write_all.Given as goal

abbrev pub invariant-loop-row : goal.invariant-loop-row
invariant-loop-row l = l.lines ++ lines_by l.rows (drop l.row-index l.rows) ≡ lines_by l.rows l.rows
