use Rattle.std.proofs.Common.{◌≡◌, drop}
use Rattle.std.specs.List.{list_all}
use Rattle.rw_loops.specs.Limits.{sequent_within}
use Rattle.rw_loops.proofs.limits.sequents_within.Given as goal

abbrev pub invariant-loop-sequent : goal.invariant-loop-sequent
invariant-loop-sequent l = list_all sequent_within l.fn.sequents ≡ list_all sequent_within (drop l.sequent-index l.sequents)
