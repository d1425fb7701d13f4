use Rattle.std.proofs.Common.{◌≡◌, drop}
use Rattle.rw_goals.specs.Library.{parameters_of}
use Rattle.rw_goals.proofs.library.parameters_of.Given as goal

abbrev pub invariant-loop-entry : goal.invariant-loop-entry
invariant-loop-entry l = parameters_of (drop l.entry-index l.entries) l.predicate ≡ parameters_of l.entries l.predicate
