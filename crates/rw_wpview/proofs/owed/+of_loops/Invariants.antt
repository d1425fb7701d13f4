use Rattle.std.proofs.Common.{◌≡◌, ◌++◌, List, drop}
use Rattle.rw_terms.specs.declared.term.Formula.{Formula}
use Rattle.rw_terms.specs.declared.sequent.Sequent.{Sequent}
use Rattle.rw_wpview.specs.Kept.{kept, Answers}
use Rattle.rw_wpview.specs.Arms.{of_arms}
use Rattle.rw_wpview.proofs.owed.+of_loops.Given as goal

-- what is answered so far, and what is left makes the whole of it
abbrev pub invariant-of_arms-loop-arm : goal.invariant-of_arms-loop-arm
invariant-of_arms-loop-arm l = (f : Formula) → l.after ≡ kept f → (v : List Sequent) × Answers v l.owed × (v ++ of_arms l.scope l.number (drop l.arm-index l.arms) f ≡ of_arms l.scope l.fn.number l.arms f)
