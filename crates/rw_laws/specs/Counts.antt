-- How many kids and obligations a step has.
use Rattle.std.specs.Prelude.{◌≡◌, ℕ, length, List}
use Rattle.rw_terms.specs.declared.scope.Head.{Head}
use Rattle.rw_programs.specs.declared.prog.Spec.{Spec}
use Rattle.rw_programs.specs.declared.applied.Context.{Context}
use Rattle.rw_programs.specs.declared.applied.Applied.{Applied}
use Rattle.rw_laws.specs.declared.step.BasicStep.{BasicStep}
use Rattle.rw_laws.specs.declared.step.BasicStep.TheVariants as step
use Rattle.rw_laws.specs.declared.counts.StepCounts.{StepCounts}
use Rattle.rw_laws.specs.Laws.{Law, fits, law_of}

abbrev pub counted : ℕ → ℕ → StepCounts
counted kids obligations = record { kids = kids; obligations = obligations }

abbrev pub counts : BasicStep → StepCounts
counts step.Skip = counted 0 1
counts (step.Weaken f) = counted 1 1
counts (step.Strengthen f) = counted 1 1
counts (step.Assign names terms) = counted 0 2
counts (step.Follow names terms) = counted 1 0
counts (step.Seq f) = counted 2 0
counts (step.SeqCon names f) = counted 2 0
counts (step.Con x t) = counted 1 0
counts (step.Contract names) = counted 1 0
counts (step.Expand names) = counted 1 0

-- where the law of a step fits, it makes so many kids and obligations
abbrev pub CountsAreExact : Type 0
CountsAreExact =
    (context : Context) (heads : List Head) (w : Spec) (s : BasicStep) (a : Applied) → law_of context heads w s ≡ fits a →
    (length a.children ≡ (counts s).kids) × (length a.obligations ≡ (counts s).obligations)
