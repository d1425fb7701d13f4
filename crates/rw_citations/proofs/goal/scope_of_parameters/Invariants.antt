use Rattle.std.proofs.Common.{◌≡◌, map, take}
use Rattle.rw_citations.specs.Goal.{parameter_entry}
use Rattle.rw_citations.proofs.goal.scope_of_parameters.Given as goal

abbrev pub invariant-loop-name : goal.invariant-loop-name
invariant-loop-name l = l.entries ≡ map parameter_entry (take l.name-index l.params)
