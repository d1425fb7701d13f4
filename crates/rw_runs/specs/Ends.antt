-- What holds of each run of code that fits.
use Rattle.std.specs.Prelude.{◌≡◌, ℕ, Bool, true, ◌≤◌, ◌<◌, List, [], ◌∷◌}
use Rattle.rw_programs.specs.declared.prog.Param.{Param}
use Rattle.rw_programs.specs.declared.prog.Code.{Code}
use Rattle.rw_programs.specs.State.{State}
use Rattle.rw_programs.specs.Tables.{Table, past}
use Rattle.rw_programs.specs.Meaning.{MayEnd, Sure}
use Rattle.rw_evaluation.specs.declared.stop.AbortCause.{AbortCause}
use Rattle.rw_evaluation.specs.declared.stop.Stop.TheVariants.{TooWide, Aborted}
use Rattle.rw_machine.specs.Machine.{Config}
use Rattle.rw_machine.specs.Outcome.{Outcome, Ended, Halted, Limited, outcome}
use Rattle.rw_machine.specs.CodeFits.{CodeFits}

-- what the bodies of the code are read by, whether or not loops go by their variants; code has no predicate
abbrev pub table_of : Bool → Code → Table
table_of by code = record { library = []; is_concrete = true; by_variant = by; procs = code.procs; modules = code.modules }

-- t is an end of main from s
abbrev pub MainEnds : Bool → Code → State → State → Type 0
MainEnds by code s t = MayEnd (table_of by code) (past (table_of by code)) 0 code.main s t

-- from s every way of main comes to an end
abbrev pub MainSure : Bool → Code → State → Type 0
MainSure by code s = Sure (table_of by code) (past (table_of by code)) 0 code.main s

-- the run ended within so many steps, or was too wide
abbrev pub IsOver : Outcome → ℕ → Type 0
IsOver (Ended c k) n = k ≤ n
IsOver (Halted w k) n = (w ≡ TooWide) × (k < n)
IsOver Limited n = ⊥

-- a run that has ended stands in an end of main
abbrev pub EndedIsEnd : Type 0
EndedIsEnd = (by : Bool) (code : Code) (globals : List Param) → CodeFits code globals → (s : State) (limit k : ℕ) (c : Config) → outcome code s limit ≡ Ended c k
    → (t : State) × (c.stack ≡ t ∷ []) × MainEnds by code s t

-- from where main is sure no run aborts
abbrev pub NeverAborts : Type 0
NeverAborts = (by : Bool) (code : Code) (globals : List Param) → CodeFits code globals → (s : State) → MainSure by code s
    → (limit k : ℕ) (cause : AbortCause) → ¬ (outcome code s limit ≡ Halted (Aborted cause) k)

-- from where main is sure there is a number of steps within which every run that may take as many ends or is too wide
abbrev pub ComesToEnd : Type 0
ComesToEnd = (by : Bool) (code : Code) (globals : List Param) → CodeFits code globals → (s : State) → MainSure by code s
    → (n : ℕ) × ((limit : ℕ) → n ≤ limit → IsOver (outcome code s limit) n)

-- where main is sure it has an end
abbrev pub SureHasEnd : Type 0
SureHasEnd = (by : Bool) (code : Code) (globals : List Param) → CodeFits code globals → (s : State) → MainSure by code s → (t : State) × MainEnds by code s t
