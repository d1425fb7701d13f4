use Rattle.std.proofs.Common.{◌≡◌, ◌+◌, drop}
use Rattle.rw_anew.specs.Anew.{pending_from}
use Rattle.rw_anew.proofs.anew.pending.Given as goal

abbrev pub invariant-loop-need : goal.invariant-loop-need
invariant-loop-need l = record { number : l.number ≡ l.need-index + 1; rest : pending_from l.number (drop l.need-index l.needs) ≡ pending_from 1 l.needs }
