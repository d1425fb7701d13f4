-- The turns of loops stay within their variants.
use Rattle.std.specs.Prelude.{◌≡◌, ℕ, true, ◌≤◌, List, [], Ok}
use Rattle.rw_terms.specs.declared.term.Term.{Term}
use Rattle.rw_terms.specs.State.{whole}
use Rattle.rw_terms.specs.Value.{value}
use Rattle.rw_terms.specs.Validity.{Each}
use Rattle.rw_programs.specs.declared.prog.Param.{Param}
use Rattle.rw_programs.specs.declared.prog.Code.{Code}
use Rattle.rw_programs.specs.State.{State}
use Rattle.rw_programs.specs.Meaning.{at_least_0}
use Rattle.rw_machine.specs.Machine.{Entered, Config}
use Rattle.rw_machine.specs.Outcome.{steps, trace, first}
use Rattle.rw_machine.specs.CodeFits.{CodeFits}
use Rattle.rw_runs.specs.Ends.{MainSure}

-- how many turns a variant allows from a state
abbrev pub allowed : Term → State → ℕ
allowed v s = at_least_0 (whole (value s.own s.own [] v))

-- the turns begun are at most the larger of 0 and the variant's value at entry
abbrev pub IsWithin : Entered → Type 0
IsWithin e = e.turns ≤ allowed e.variant e.start

-- Where main is sure with loops that go by their variants, each entry in the trace of a run has begun at most as many turns as the
-- variant allows at entry, however far the run has come.
abbrev pub TurnsStayWithin : Type 0
TurnsStayWithin = (code : Code) (globals : List Param) → CodeFits code globals → (s : State) → MainSure true code s
    → (n : ℕ) (c : Config) → steps code n (first code s) ≡ Ok c → Each IsWithin (trace c)
