use Rattle.std.proofs.Common.{◌≡◌, drop}
use Rattle.rw_evaluation.specs.Stored.{further}
use Rattle.rw_frames.specs.Frames.{place_of_part}
use Rattle.rw_frames.proofs.modules.place_of_part.Given as goal

abbrev pub invariant-loop-i : goal.invariant-loop-i
invariant-loop-i l = further l.i (place_of_part l.name (drop l.i l.parts)) ≡ place_of_part l.name l.parts
