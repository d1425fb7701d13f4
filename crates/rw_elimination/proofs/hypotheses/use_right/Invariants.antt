use Rattle.std.proofs.Common.{◌≡◌, ◌++◌, drop}
use Rattle.rw_elimination.specs.Hypotheses.{used_right}
use Rattle.rw_elimination.proofs.hypotheses.use_right.Given as goal

abbrev pub invariant-loop-at : goal.invariant-loop-at
invariant-loop-at l = l.used ++ used_right l.at (drop l.at l.right) ≡ l.fn.used ++ used_right 0 l.right
