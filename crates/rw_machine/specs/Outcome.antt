-- What a run comes to, and what its loops did.
use Rattle.std.specs.Prelude.{◌≡◌, ◌<◌, ℕ, zero, suc, ◌+◌, max, cond, nat_eq, List, [], ◌∷◌, ◌++◌, length, slice_get, Some, Ok, Err}
use Rattle.rw_programs.specs.declared.prog.Param.{Param}
use Rattle.rw_programs.specs.declared.prog.Code.{Code}
use Rattle.rw_programs.specs.State.{State, alone, empty, put_all, names_of, read_all}
use Rattle.rw_evaluation.specs.declared.stop.Stop.{Stop}
use Rattle.rw_evaluation.specs.declared.stop.Stop.TheVariants.{TooWide, Aborted}
use Rattle.rw_evaluation.specs.declared.value.Value.{Value as RunValue}
use Rattle.rw_evaluation.specs.Stored.{all_meant}
use Rattle.rw_machine.specs.declared.outcome.LoopCount.{LoopCount}
use Rattle.rw_machine.specs.declared.outcome.RunEnd.{RunEnd}
use Rattle.rw_machine.specs.declared.outcome.RunEnd.TheVariants as run_end
use Rattle.rw_evaluation.specs.Evaluation.{one}
use Rattle.rw_machine.specs.Machine.{Entered, Command, Run, Again, Config, config, Stepped, step}
use Rattle.rw_numbering.specs.Loops.{all_loops}

-- at most so many steps
abbrev pub steps : Code → ℕ → Config → Stepped
steps code zero c = Ok c
steps code (suc n) c = one (step code c) (steps code n)

-- the entries that are not over, as the commands have them
abbrev pub pending : List Command → List Entered
pending [] = []
pending (Again e c ∷ cs) = e ∷ pending cs
pending (c ∷ cs) = pending cs

-- each entry of a loop so far, with the turns begun
abbrev pub trace : Config → List Entered
trace c = pending c.commands ++ c.over

-- what a run of main begins with
abbrev pub first : Code → State → Config
first code s = config (Run 0 code.main ∷ []) (s ∷ []) []

-- what a run comes to: its last configuration, or why it stopped, with the number of steps completed, or the limit
pub data Outcome : Type 0 where
  Ended : Config → ℕ → Outcome
  Halted : Stop → ℕ → Outcome
  Limited : Outcome

abbrev pub if_over : List Command → Outcome → Outcome → Outcome
if_over [] a b = a
if_over (c ∷ cs) a b = b

abbrev pub go_on : Stepped → ℕ → (Config → Outcome) → Outcome
go_on (Ok c) done f = f c
go_on (Err e) done f = Halted e done

-- so many steps are left, and so many are completed
abbrev pub outcome_in : Code → (left done : ℕ) → Config → Outcome
outcome_in code zero done c = if_over c.commands (Ended c done) Limited
outcome_in code (suc left) done c = if_over c.commands (Ended c done) (go_on (step code c) done (outcome_in code left (suc done)))

abbrev pub outcome : Code → State → ℕ → Outcome
outcome code s limit = outcome_in code limit 0 (first code s)

-- the state in which the globals have these values, in order
abbrev pub start_of : List Param → List RunValue → State
start_of globals vs = alone (put_all (names_of globals) (all_meant vs) empty)

abbrev pub no_count : LoopCount
no_count = record { entries = 0; turns = 0; most = 0 }

abbrev pub with_entry : Entered → LoopCount → LoopCount
with_entry e c = record { entries = suc c.entries; turns = e.turns + c.turns; most = max e.turns c.most }

-- the entries of the loop of this number, their turns in all, and the most turns of one entry
abbrev pub count_of : ℕ → List Entered → LoopCount
count_of i [] = no_count
count_of i (e ∷ es) = cond (nat_eq e.loop i) (with_entry e (count_of i es)) (count_of i es)

-- one count for each loop, in the order of their numbers
abbrev pub Counts : Code → List Entered → List LoopCount → Type 0
Counts code es counts = (length counts ≡ all_loops code) × ((i : ℕ) → i < all_loops code → slice_get counts i ≡ Some (count_of i es))

-- The end of a run tells its outcome: the values of the globals in the last state, the steps completed, and the counts of the trace.
abbrev pub Tells : Code → List Param → (limit : ℕ) → Outcome → RunEnd → Type 0
Tells code globals limit (Ended c k) (run_end.Ended told n counts) =
    (s : State) × (c.stack ≡ s ∷ []) × (all_meant told.values ≡ read_all (names_of globals) s.own) × (n ≡ k) × Counts code (trace c) counts
Tells code globals limit (Halted TooWide k) (run_end.TooWide n) = n ≡ k
Tells code globals limit (Halted (Aborted cause) k) (run_end.Aborted why n) = (why ≡ cause) × (n ≡ k)
Tells code globals limit Limited (run_end.StepLimit n) = n ≡ limit
Tells code globals limit o r = ⊥
