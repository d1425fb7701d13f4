use Rattle.std.proofs.Common.{◌≡◌, drop}
use Rattle.rw_lemmas.specs.States.{proof_from}
use Rattle.rw_lemmas.proofs.table.proof_from.Given as goal

abbrev pub invariant-loop-i : goal.invariant-loop-i
invariant-loop-i l = proof_from l.proofs l.i (drop l.i l.entries) l.name ≡ proof_from l.proofs 0 l.entries l.name
