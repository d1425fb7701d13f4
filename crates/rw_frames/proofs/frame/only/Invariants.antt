use Rattle.std.proofs.Common.{◌≡◌, ◌-◌, drop, length}
use Rattle.rw_programs.specs.State.{names_of, only}
use Rattle.rw_evaluation.specs.Stored.{map_of}
use Rattle.rw_frames.proofs.frame.only.Given as goal

abbrev pub invariant-loop-back : goal.invariant-loop-back
invariant-loop-back l = map_of l.kept ≡ only (names_of (drop (length l.params - l.back) l.params)) (map_of l.store)
