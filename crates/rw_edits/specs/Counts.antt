-- How many kids and how many obligations steps have.
use Rattle.std.specs.Prelude.{ℕ, Option, Some, None}
use Rattle.rw_heads.specs.declared.step.ModStep.TheVariants as module_step
use Rattle.rw_laws.specs.Counts.{counts as basic_counts}
use Rattle.rw_loops.specs.Counts.{kids_of as loop_kids, obligations_of as loop_obligations}
use Rattle.rw_edits.specs.declared.edit.Step.{Step}
use Rattle.rw_edits.specs.declared.edit.Step.TheVariants as step

-- how many kids and how many obligations a step has
abbrev pub counts : Step → ℕ × ℕ
counts (step.Basic s) = ((basic_counts s).kids, (basic_counts s).obligations)
counts (step.Loop s) = (loop_kids s, loop_obligations s)
counts (step.Call s) = (0, 3)
counts (step.Module (module_step.Open m)) = (1, 0)
counts (step.Module (module_step.Op m o args results)) = (0, 3)

abbrev pub kids_of : Step → ℕ
kids_of s = (counts s).0

abbrev pub obligations_of : Step → ℕ
obligations_of s = (counts s).1

abbrev pub kids_in : Option Step → ℕ
kids_in None = 0
kids_in (Some s) = kids_of s

abbrev pub obligations_in : Option Step → ℕ
obligations_in None = 0
obligations_in (Some s) = obligations_of s
