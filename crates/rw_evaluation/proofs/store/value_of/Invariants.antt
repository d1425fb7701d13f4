use Rattle.std.proofs.Common.{◌≡◌, drop}
use Rattle.rw_evaluation.specs.Stored.{map_of}
use Rattle.rw_evaluation.proofs.store.value_of.Given as goal

abbrev pub invariant-loop-binding : goal.invariant-loop-binding
invariant-loop-binding l = map_of (drop l.binding-index l.store) l.name ≡ map_of l.store l.name
