-- How many kids and obligations a step has.
use Rattle.std.specs.Prelude.{◌≡◌, ℕ, List, [], length}
use Rattle.rw_terms.specs.declared.term.Formula.{Formula}
use Rattle.rw_terms.specs.declared.scope.Head.{Head}
use Rattle.rw_programs.specs.declared.prog.Spec.{Spec}
use Rattle.rw_programs.specs.declared.applied.Context.{Context}
use Rattle.rw_programs.specs.declared.applied.Applied.{Applied}
use Rattle.rw_laws.specs.declared.counts.StepCounts.{StepCounts}
use Rattle.rw_laws.specs.Counts.{counted}
use Rattle.rw_laws.specs.Laws.{fits}
use Rattle.rw_loops.specs.Laws.{law_of}
use Rattle.rw_loops.specs.declared.step.LoopStep.{LoopStep}
use Rattle.rw_loops.specs.declared.step.LoopStep.TheVariants as step

abbrev pub guards_of : LoopStep → List Formula
guards_of (step.If guards) = guards
guards_of (step.Do variant guards) = guards
guards_of (step.Block x sort) = []

-- one kid for each guard, and one in a block
abbrev pub kids_of : LoopStep → ℕ
kids_of (step.If guards) = length guards
kids_of (step.Do variant guards) = length guards
kids_of (step.Block x sort) = 1

abbrev pub obligations_of : LoopStep → ℕ
obligations_of (step.If guards) = 2
obligations_of (step.Do variant guards) = 1
obligations_of (step.Block x sort) = 0

abbrev pub counts : LoopStep → StepCounts
counts step = counted (kids_of step) (obligations_of step)

-- Where the law of a step fits, there are as many kids and obligations as these numbers say.
abbrev pub CountsAreExact : Type 0
CountsAreExact =
    (context : Context) (heads : List Head) (w : Spec) (step : LoopStep) (a : Applied) → law_of context heads w step ≡ fits a →
    (length a.children ≡ kids_of step) × (length a.obligations ≡ obligations_of step)
