use Rattle.std.proofs.Common.{length, ◌-◌}
use Rattle.rw_frames.proofs.calling.+take_results.Given as goal

abbrev pub decreases-take_results : goal.decreases-take_results
decreases-take_results l = length l.names.now - l.at
