use Rattle.std.proofs.Common.{◌≡◌, ◌++◌, drop}
use Rattle.rw_elimination.specs.Hypotheses.{used_left}
use Rattle.rw_elimination.proofs.hypotheses.use_left.Given as goal

abbrev pub invariant-loop-at : goal.invariant-loop-at
invariant-loop-at l = l.used ++ used_left l.at (drop l.at l.left) ≡ l.fn.used ++ used_left 0 l.left
