use Rattle.std.proofs.Common.{◌≡◌, pos, replicate}
use Rattle.rw_frames.proofs.frame.zero_cells.Given as goal

abbrev pub invariant-loop : goal.invariant-loop
invariant-loop l = l.cells ≡ replicate l.counter (pos 0)
