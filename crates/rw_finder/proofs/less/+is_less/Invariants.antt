use Rattle.std.proofs.Common.{◌+◌, unsigned_abs}
use Rattle.rw_finder.proofs.less.+is_less.Given as goal

abbrev pub decreases-is_less : goal.decreases-is_less
decreases-is_less l = unsigned_abs l.below + unsigned_abs l.other_below
