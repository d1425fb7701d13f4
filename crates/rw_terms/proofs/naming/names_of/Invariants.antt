use Rattle.std.proofs.Common.{◌≡◌, drop}
use Rattle.std.specs.Prelude.{◌||◌}
use Rattle.rw_terms.specs.Mentions.{formulas_mention}
use Rattle.rw_terms.specs.Naming.{gathered, names_of}
use Rattle.rw_terms.proofs.naming.names_of.Given as goal

abbrev pub invariant-loop-entry : goal.invariant-loop-entry
invariant-loop-entry l =
    gathered (λ x. formulas_mention x l.left || formulas_mention x l.right) l.names (drop l.entry-index l.entry-items) ≡ names_of l.entry-items l.left l.right
