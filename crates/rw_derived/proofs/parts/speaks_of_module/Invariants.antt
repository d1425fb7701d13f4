use Rattle.std.proofs.Common.{◌≡◌, drop}
use Rattle.rw_derived.specs.Causes.{speaks_of_module}
use Rattle.rw_derived.proofs.parts.speaks_of_module.Given as goal

abbrev pub invariant-loop-entry : goal.invariant-loop-entry
invariant-loop-entry l = speaks_of_module l.entry-items l.term ≡ speaks_of_module (drop l.entry-index l.entry-items) l.term
