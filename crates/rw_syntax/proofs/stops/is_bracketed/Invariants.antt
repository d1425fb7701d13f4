use Rattle.std.proofs.Common.{◌≡◌, ◌-◌, drop, length}
use Rattle.rw_syntax.specs.Stops.{is_bracketed}
use Rattle.rw_syntax.proofs.stops.is_bracketed.Given as goal

abbrev pub invariant-frames : goal.invariant-frames
invariant-frames l = is_bracketed l.stack ≡ is_bracketed (drop l.depth l.stack)

abbrev pub decreases-frames : goal.decreases-frames
decreases-frames l = length l.stack - l.depth
