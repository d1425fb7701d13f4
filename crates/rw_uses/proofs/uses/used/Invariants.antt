use Rattle.std.proofs.Common.{◌≡◌}
use Rattle.rw_uses.specs.Rounds.{taken_after}
use Rattle.rw_uses.specs.Uses.{main_uses, entry_uses}
use Rattle.rw_uses.proofs.uses.used.Given as goal

abbrev pub invariant-loop-round : goal.invariant-loop-round
invariant-loop-round l = l.names ≡ taken_after (main_uses l.parts) (entry_uses l.parts) l.parts.order l._round
