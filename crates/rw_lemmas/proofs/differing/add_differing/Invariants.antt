use Rattle.std.proofs.Common.{take}
use Rattle.rw_terms.specs.Validity.{Each}
use Rattle.rw_lemmas.specs.Differing.{Same, Covers, Keeps}
use Rattle.rw_lemmas.proofs.differing.add_differing.Given as goal

abbrev pub invariant-loop-entry : goal.invariant-loop-entry
invariant-loop-entry l = record {
  kept : Keeps l.fn.names l.names;
  told : Covers (Same l.kind l.old l.new) l.names (take l.entry-index l.entries);
  each : Each (λ x. Same l.kind l.old l.new x → ⊥) l.fn.names → Each (λ x. Same l.kind l.old l.new x → ⊥) l.names;
}
