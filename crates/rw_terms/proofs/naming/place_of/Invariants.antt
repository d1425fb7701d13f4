use Rattle.std.proofs.Common.{◌≡◌, ◌++◌, take, drop}
use Rattle.rw_terms.specs.declared.term.Sort.{Sort}
use Rattle.rw_terms.specs.Naming.{placed}
use Rattle.rw_terms.proofs.naming.place_of.Given as goal

abbrev pub invariant-loop-i : goal.invariant-loop-i
invariant-loop-i l = (sort : Sort) → take l.i l.names ++ placed (l.name, sort) (drop l.i l.names) ≡ placed (l.name, sort) l.names
