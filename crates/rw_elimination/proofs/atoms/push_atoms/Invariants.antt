use Rattle.std.proofs.Common.{◌≡◌, drop}
use Rattle.rw_elimination.specs.Elimination.{with_atoms}
use Rattle.rw_elimination.proofs.atoms.push_atoms.Given as goal

abbrev pub invariant-loop-atom : goal.invariant-loop-atom
invariant-loop-atom l = with_atoms l.used l.atoms (drop l.atom-index l.more) ≡ with_atoms l.used l.fn.atoms l.more
