use Rattle.std.proofs.Common.{◌≡◌, ◌++◌, drop, filter}
use Rattle.rw_uses.specs.Rounds.{is_reached}
use Rattle.rw_uses.specs.Uses.{main_uses, entry_uses}
use Rattle.rw_uses.proofs.uses.reached.Given as goal

abbrev pub invariant-loop-name : goal.invariant-loop-name
invariant-loop-name l = l.next ++ filter (is_reached (main_uses l.parts) (entry_uses l.parts) l.names) (drop l.name-index l.parts.order) ≡ filter (is_reached (main_uses l.parts) (entry_uses l.parts) l.names) l.parts.order
