use Rattle.std.proofs.Common.{◌≡◌, drop}
use Rattle.std.specs.List.{list_any}
use Rattle.rw_terms.specs.Same.{same_term}
use Rattle.rw_elimination.proofs.atoms.is_known.Given as goal

abbrev pub invariant-loop-other : goal.invariant-loop-other
invariant-loop-other l = list_any (same_term l.atom) (drop l.other-index l.atoms) ≡ list_any (same_term l.atom) l.atoms
