-- What is said of runs.
use Rattle.std.specs.Prelude.{◌≡◌, ◌+◌, ◌≤◌, [], ℕ, true, is_some, List, ◌∷◌, Ok}
use Rattle.rw_programs.specs.declared.prog.Param.{Param}
use Rattle.rw_programs.specs.declared.prog.Code.{Code}
use Rattle.rw_programs.specs.State.{Name, State, is_in, names_of}
use Rattle.rw_evaluation.specs.declared.value.Value.{Value as RunValue}
use Rattle.rw_numbering.specs.Loops.{loops, all_loops}
use Rattle.rw_machine.specs.Machine.{Command, Run, Again, Begin, Config}
use Rattle.rw_machine.specs.Outcome.{count_of, trace, steps, first, start_of}
use Rattle.rw_machine.specs.CodeFits.{CodeFits, StartFits}

-- the loops of each command's program have numbers of the code
abbrev pub Numbered : Code → List Command → Type 0
Numbered code [] = Unit {0}
Numbered code (Run n c ∷ cs) = (n + loops c ≤ all_loops code) × Numbered code cs
Numbered code (Again e c ∷ cs) = (e.loop + loops c ≤ all_loops code) × Numbered code cs
Numbered code (Begin m n c ∷ cs) = (n + loops c ≤ all_loops code) × Numbered code cs
Numbered code (c ∷ cs) = Numbered code cs

-- in each configuration of a run the loops have numbers of the code
abbrev pub NumbersHold : Type 0
NumbersHold = (code : Code) (s : State) (n : ℕ) (c : Config) → steps code n (first code s) ≡ Ok c → Numbered code c.commands

-- No count of a loop passes the number of steps.
abbrev pub CountsAreFew : Type 0
CountsAreFew = (code : Code) (s : State) (n : ℕ) (c : Config) → steps code n (first code s) ≡ Ok c → (i : ℕ)
    → ((count_of i (trace c)).entries ≤ n) × ((count_of i (trace c)).turns ≤ n) × ((count_of i (trace c)).most ≤ n)

-- Where a run of code that fits has ended, one state is left, in which each global has a value.
abbrev pub EndsHaveValues : Type 0
EndsHaveValues = (code : Code) (globals : List Param) → CodeFits code globals → (vs : List RunValue) → StartFits globals vs
    → (n : ℕ) (c : Config) → steps code n (first code (start_of globals vs)) ≡ Ok c → c.commands ≡ []
    → (s : State) × (c.stack ≡ s ∷ []) × ((x : Name) → is_in x (names_of globals) ≡ true → is_some (s.own x) ≡ true)
