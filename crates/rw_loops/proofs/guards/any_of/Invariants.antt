use Rattle.std.proofs.Common.{◌≡◌, drop}
use Rattle.rw_subst.specs.Conj.{disj_with, disj}
use Rattle.rw_loops.proofs.guards.any_of.Given as goal

abbrev pub invariant-loop-at : goal.invariant-loop-at
invariant-loop-at l = disj_with l.any (drop l.at l.guards) ≡ disj l.guards
