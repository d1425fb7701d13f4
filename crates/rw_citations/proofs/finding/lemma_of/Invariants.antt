use Rattle.std.proofs.Common.{◌≡◌, drop}
use Rattle.rw_citations.specs.Cited.{lemma_of}
use Rattle.rw_citations.proofs.finding.lemma_of.Given as goal

abbrev pub invariant-loop-entry : goal.invariant-loop-entry
invariant-loop-entry l = lemma_of (drop l.entry-index l.entries) l.name ≡ lemma_of l.entries l.name
