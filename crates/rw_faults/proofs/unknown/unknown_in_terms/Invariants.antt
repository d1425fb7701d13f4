use Rattle.std.proofs.Common.{◌≡◌, map, drop}
use Rattle.rw_faults.specs.Faults.{first_of_names, unknown_in_term}
use Rattle.rw_faults.proofs.unknown.unknown_in_terms.Given as goal

abbrev pub invariant-loop-term : goal.invariant-loop-term
invariant-loop-term l =
    first_of_names (map (unknown_in_term l.scope) (drop l.term-index l.terms)) ≡ first_of_names (map (unknown_in_term l.scope) l.terms)
