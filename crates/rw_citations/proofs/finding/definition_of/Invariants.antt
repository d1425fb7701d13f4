use Rattle.std.proofs.Common.{◌≡◌, drop}
use Rattle.rw_citations.specs.Cited.{definition_of}
use Rattle.rw_citations.proofs.finding.definition_of.Given as goal

abbrev pub invariant-loop-entry : goal.invariant-loop-entry
invariant-loop-entry l = definition_of (drop l.entry-index l.entries) l.predicate ≡ definition_of l.entries l.predicate
