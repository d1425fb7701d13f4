use Rattle.std.proofs.Common.{◌≡◌, drop}
use Rattle.rw_lemmas.specs.States.{status_from}
use Rattle.rw_lemmas.proofs.table.status_from.Given as goal

abbrev pub invariant-loop-i : goal.invariant-loop-i
invariant-loop-i l = status_from l.statuses l.i (drop l.i l.entries) l.name ≡ status_from l.statuses 0 l.entries l.name
