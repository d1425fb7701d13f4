use Rattle.std.proofs.Common.{◌≡◌, drop}
use Rattle.std.specs.List.{list_any}
use Rattle.rw_uses.specs.Uses.{entry_uses}
use Rattle.rw_uses.proofs.uses.any_uses.Given as goal

abbrev pub invariant-loop-entry : goal.invariant-loop-entry
invariant-loop-entry l = list_any (entry_uses l.parts l.name) (drop l.entry-index l.names) ≡ list_any (entry_uses l.parts l.name) l.names
