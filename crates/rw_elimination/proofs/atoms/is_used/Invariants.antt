use Rattle.std.proofs.Common.{◌≡◌, drop}
use Rattle.std.specs.List.{list_any}
use Rattle.rw_elimination.specs.Elimination.{has_atom}
use Rattle.rw_elimination.proofs.atoms.is_used.Given as goal

abbrev pub invariant-loop-hypothesis : goal.invariant-loop-hypothesis
invariant-loop-hypothesis l = list_any (has_atom l.atom) (drop l.hypothesis-index l.used) ≡ list_any (has_atom l.atom) l.used
