use Rattle.std.proofs.Common.{◌≡◌, ◌-◌, drop, length, reverse}
use Rattle.rw_machine.proofs.run.copy_back.Given as goal

abbrev pub invariant-loop-back : goal.invariant-loop-back
invariant-loop-back l = reverse l.copies ≡ drop (length l.values - l.back) l.values
