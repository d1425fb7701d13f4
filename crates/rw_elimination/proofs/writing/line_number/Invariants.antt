use Rattle.std.proofs.Common.{◌≡◌, drop}
use Rattle.rw_elimination.specs.Writing.{line_number}
use Rattle.rw_elimination.proofs.writing.line_number.Given as goal

abbrev pub invariant-loop-at : goal.invariant-loop-at
invariant-loop-at l = line_number l.number l.at (drop l.at l.rows) ≡ line_number l.number 0 l.rows
