use Rattle.std.proofs.Common.{◌≡◌, [], drop}
use Rattle.rw_elimination.specs.Elimination.{occurring}
use Rattle.rw_elimination.proofs.atoms.atoms_of.Given as goal

abbrev pub invariant-loop-hypothesis : goal.invariant-loop-hypothesis
invariant-loop-hypothesis l = occurring l.used l.atoms (drop l.hypothesis-index l.used) ≡ occurring l.used [] l.used
