use Rattle.std.proofs.Common.{◌≡◌, drop}
use Rattle.rw_anew.specs.Uses.{marked_cites}
use Rattle.rw_anew.proofs.uses.marked_cites.Given as goal

abbrev pub invariant-loop-i : goal.invariant-loop-i
invariant-loop-i l = marked_cites l.name (drop l.i l.marks) (drop l.i l.proofs) ≡ marked_cites l.name l.marks l.proofs
