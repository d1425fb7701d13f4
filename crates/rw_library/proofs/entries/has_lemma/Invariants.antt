use Rattle.std.proofs.Common.{◌≡◌, drop}
use Rattle.rw_library.specs.Entries.{has_lemma}
use Rattle.rw_library.proofs.entries.has_lemma.Given as goal

abbrev pub invariant-loop-entry : goal.invariant-loop-entry
invariant-loop-entry l = has_lemma l.name (drop l.entry-index l.entries) ≡ has_lemma l.name l.entries
