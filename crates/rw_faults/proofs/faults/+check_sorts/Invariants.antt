use Rattle.std.proofs.Common.{◌≡◌, map, drop}
use Rattle.rw_faults.specs.Faults.{any_bad, checked}
use Rattle.rw_faults.proofs.faults.+check_sorts.Given as goal

abbrev pub invariant-any_bad-loop-term : goal.invariant-any_bad-loop-term
invariant-any_bad-loop-term l =
    any_bad (map (checked l.scope l.binders) (drop l.term-index l.terms)) ≡ any_bad (map (checked l.scope l.binders) l.terms)
