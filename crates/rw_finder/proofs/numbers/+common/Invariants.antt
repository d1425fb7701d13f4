use Rattle.std.proofs.Common.{unsigned_abs}
use Rattle.rw_finder.proofs.numbers.+common.Given as goal

abbrev pub decreases-common : goal.decreases-common
decreases-common l = unsigned_abs l.other
