use Rattle.std.proofs.Common.{◌≡◌, drop}
use Rattle.rw_elimination.specs.Rows.{lead}
use Rattle.rw_elimination.proofs.coefficients.lead.Given as goal

abbrev pub invariant-loop-atom : goal.invariant-loop-atom
invariant-loop-atom l = lead l.atom (drop l.atom l.atoms) l.summands ≡ lead 0 l.atoms l.summands
