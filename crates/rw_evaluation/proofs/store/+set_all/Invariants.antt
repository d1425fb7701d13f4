use Rattle.std.proofs.Common.{length, ◌-◌}
use Rattle.rw_evaluation.proofs.store.+set_all.Given as goal

abbrev pub decreases-set_all : goal.decreases-set_all
decreases-set_all l = length l.names.now - l.at
