use Rattle.std.proofs.Common.{◌≡◌, take}
use Rattle.rw_sequents.proofs.line.copied.Given as goal

abbrev pub invariant-loop-line : goal.invariant-loop-line
invariant-loop-line l = l.copies ≡ take l.line-index l.lines
