use Rattle.std.proofs.Common.{◌≡◌, drop}
use Rattle.rw_lemmas.specs.Refusals.{user_from}
use Rattle.rw_lemmas.proofs.refusal.user_of.Given as goal

abbrev pub invariant-loop-i : goal.invariant-loop-i
invariant-loop-i l = user_from l.name l.place l.proofs l.i (drop l.i l.entries) ≡ user_from l.name l.place l.proofs 0 l.entries
