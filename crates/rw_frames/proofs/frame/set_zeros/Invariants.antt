use Rattle.std.proofs.Common.{◌≡◌, ◌-◌, drop, length}
use Rattle.rw_programs.specs.State.{names_of, put_all}
use Rattle.rw_frames.specs.Bodies.{zeros}
use Rattle.rw_evaluation.specs.Stored.{map_of}
use Rattle.rw_frames.proofs.frame.set_zeros.Given as goal

abbrev pub invariant-loop-back : goal.invariant-loop-back
invariant-loop-back l = map_of l.store ≡ put_all (names_of (drop (length l.params - l.back) l.params)) (zeros (drop (length l.params - l.back) l.params)) (map_of l.fn.store)
