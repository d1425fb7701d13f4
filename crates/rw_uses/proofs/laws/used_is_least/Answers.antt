use Rattle.std.proofs.Common.{length}
use Rattle.rw_uses.specs.Uses.{main_uses, entry_uses, used}
use Rattle.rw_uses.proofs.Rounds.{settled_at_last, taken_pass}
use Rattle.rw_uses.proofs.laws.used_is_least.Goals as goal

pub returns-clause-closed : goal.returns-clause-closed
unfolding used
returns-clause-closed c parts = settled_at_last (main_uses parts) (entry_uses parts) parts.order

pub returns-clause-least : goal.returns-clause-least
unfolding used
returns-clause-least c parts p on = taken_pass (main_uses parts) (entry_uses parts) parts.order p on.own on.turn (length parts.order)
