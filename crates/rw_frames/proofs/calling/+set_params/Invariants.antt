use Rattle.std.proofs.Common.{length, ◌-◌}
use Rattle.rw_frames.proofs.calling.+set_params.Given as goal

abbrev pub decreases-set_params : goal.decreases-set_params
decreases-set_params l = length l.params.now - l.at
