-- What the machine of the code stands for. An entry of a loop is known by the number of the loop and the turns begun.
use Rattle.std.specs.Prelude.{◌≡◌, ℕ, ◌+◌, ◌≤◌, Option, Some, None, Result, Ok, Err, List, [], ◌∷◌, map, reverse, pos}
use Rattle.rw_numbering.specs.declared.part.Part.{Part}
use Rattle.rw_terms.specs.declared.term.Term.TheVariants as term
use Rattle.rw_terms.specs.State.{Value, State as Map, value_in}
use Rattle.rw_programs.specs.declared.prog.Prog.{Prog}
use Rattle.rw_programs.specs.State.{State, empty, alone}
use Rattle.rw_frames.specs.declared.frame.Frame.{Frame}
use Rattle.rw_frames.specs.Frames.{state_of}
use Rattle.rw_machine.specs.declared.machine.Command.{Command as Kept}
use Rattle.rw_machine.specs.declared.machine.Command.TheVariants as kept
use Rattle.rw_machine.specs.declared.machine.Machine.{Machine}
use Rattle.rw_programs.specs.declared.prog.Arm.{Arm}
use Rattle.rw_programs.specs.declared.prog.Param.{Param}
use Rattle.rw_programs.specs.declared.prog.Code.{Code}
use Rattle.rw_machine.specs.declared.outcome.LoopCount.{LoopCount}
use Rattle.rw_machine.specs.declared.outcome.RunEnd.{RunEnd}
use Rattle.rw_machine.specs.declared.outcome.RunEnd.TheVariants as run_end
use Rattle.rw_evaluation.specs.Stored.{all_meant}
use Rattle.rw_numbering.specs.Loops.{all_loops, loops}
use Rattle.rw_machine.specs.Outcome.{steps, first}
use Rattle.rw_evaluation.specs.declared.stop.AbortCause.TheVariants.{NoGuard}
use Rattle.rw_evaluation.specs.declared.stop.Stop.{Stop}
use Rattle.rw_evaluation.specs.declared.stop.Stop.TheVariants.{TooWide, Aborted}
use Rattle.rw_evaluation.specs.Evaluation.{tested}
use Rattle.rw_machine.specs.Machine.{Stepped, Pick, Took, None_true, Stopped, pick_by, Entered, Command, Run, Again, Leave, Return, Give_back, Begin, Close, Config, step, step_by}

-- an entry whose state and variant are not kept
abbrev pub counted : ℕ → ℕ → Entered
counted n k = record { loop = n; variant = term.Lit (pos 0); start = alone empty; turns = k }

-- a command of the machine with what is kept of it
abbrev pub bare : Command → Command
bare (Again e c) = Again (counted e.loop e.turns) c
bare c = c

-- what a kept command is
abbrev pub shown : Kept → Command
shown (kept.Run n c) = Run n c
shown (kept.Again n k c) = Again (counted n k) c
shown (kept.Leave x) = Leave x.now
shown (kept.Return f names) = Return f.now names.now
shown (kept.GiveBack m o names) = Give_back m.now o.now names.now
shown (kept.Begin m n c) = Begin m.now n c
shown (kept.Close m) = Close m.now

abbrev pub commands_of : Machine → List Command
commands_of m = map shown (reverse m.commands)

abbrev pub stack_of : Machine → List State
stack_of m = map state_of (reverse m.stack)

-- the guards of a list in order, up to the first true one
abbrev pub pick_of : ℕ → List Arm → Map → Pick
pick_of n [] m = None_true
pick_of n (a ∷ arms) m = pick_by (tested m a.guard) n a.body (pick_of (n + loops a.body) arms m)

-- what was picked
abbrev pub picked_of : Result (Option (ℕ × Part)) Stop → Pick
picked_of (Ok None) = None_true
picked_of (Ok (Some p)) = Took p.0 p.1
picked_of (Err w) = Stopped w

-- what comes of a step with what is kept of it
abbrev pub bare_step : Stepped → Result (List Command × List State) Stop
bare_step (Ok c) = Ok (map bare c.commands, c.stack)
bare_step (Err w) = Err w

-- what comes of a step of the code, with what the machine then holds
abbrev pub kept_step : Result (Unit {0}) Stop → Machine → Result (List Command × List State) Stop
kept_step (Ok u) m = Ok (commands_of m, stack_of m)
kept_step (Err w) m = Err w

-- what the machine holds
abbrev pub kept_of : Machine → List Command × List State
kept_of m = (commands_of m, stack_of m)

-- the body that was picked in an alternation goes in front
abbrev pub choice_of : Pick → List Command → List State → Result (List Command × List State) Stop
choice_of (Took n c) cs ss = Ok (Run n c ∷ cs, ss)
choice_of None_true cs ss = Err (Aborted NoGuard)
choice_of (Stopped w) cs ss = Err w

-- goes on with what is there
abbrev pub kept_some : {A : Type 0} → Option A → (A → Result (List Command × List State) Stop) → Result (List Command × List State) Stop
kept_some None go = Err (Aborted NoGuard)
kept_some (Some a) go = go a

-- goes on with the state below, if there is one
abbrev pub kept_below : List State → (State → List State → Result (List Command × List State) Stop) → Result (List Command × List State) Stop
kept_below [] go = Err (Aborted NoGuard)
kept_below (s ∷ ss) go = go s ss

-- the body that was picked goes in front, and the loop behind it, or the loop is over
abbrev pub loop_of : Pick → (n k : ℕ) → Prog → List Command → List State → Result (List Command × List State) Stop
loop_of (Took i c) n k loop cs ss = Ok (Run i c ∷ Again (counted n (k + 1)) loop ∷ cs, ss)
loop_of None_true n k loop cs ss = Ok (cs, ss)
loop_of (Stopped w) n k loop cs ss = Err w

-- a state taken from the stack, and what is left of it
abbrev pub opened_of : Result Frame Stop → Machine → Result (State × List State) Stop
opened_of (Ok f) m = Ok (state_of f, stack_of m)
opened_of (Err w) m = Err w

abbrev pub opened_below : List State → (State → List State → Result (State × List State) Stop) → Result (State × List State) Stop
opened_below [] go = Err (Aborted NoGuard)
opened_below (s ∷ ss) go = go s ss

abbrev pub opened_some : {A : Type 0} → Option A → (A → Result (State × List State) Stop) → Result (State × List State) Stop
opened_some None go = Err (Aborted NoGuard)
opened_some (Some a) go = go a

-- the loops of the command's program have numbers of the code, and one turn more can be counted
abbrev pub CommandFits : Code → Command → Type 0
CommandFits code (Run n c) = n + loops c ≤ all_loops code
CommandFits code (Again e c) = (e.loop + loops c ≤ all_loops code) × (e.turns + 1 ≤ 4294967295)
CommandFits code (Begin m n c) = n + loops c ≤ all_loops code
CommandFits code c = Unit {0}

-- so for the first command, if there is one
abbrev pub FirstFits : Code → List Command → Type 0
FirstFits code [] = Unit {0}
FirstFits code (c ∷ cs) = CommandFits code c

-- As long as the steps can be counted, a step of the code may be asked for.
abbrev pub StepsMayGoOn : Type 0
StepsMayGoOn = (code : Code) (s : State) (n : ℕ) (c : Config) → steps code n (first code s) ≡ Ok c → n + 1 ≤ 4294967295 → FirstFits code (map bare c.commands)

-- A step of what is kept of a configuration is what is kept of its step.
abbrev pub StepOfKept : Type 0
StepOfKept = (code : Code) (c : Config) → bare_step (step code c) ≡ bare_step (step_by code (map bare c.commands) c.stack [])

-- the values of the globals, and 0 where one has none
abbrev pub values_in : Map → List Param → List (Option Value)
values_in m globals = map (λ p. Some (value_in m p.name)) globals

-- the end tells the values of the globals in the first of the states, the steps and the counts
abbrev pub ToldEnd : List Param → List State → ℕ → List LoopCount → RunEnd → Type 0
ToldEnd globals ss k counts (run_end.Ended told n loops) =
    ((s : State) (rest : List State) → ss ≡ s ∷ rest → all_meant told.values ≡ values_in s.own globals) × (n ≡ k) × (loops ≡ counts)
ToldEnd globals ss k counts r = ⊥

-- the end that tells why a step was not made
abbrev pub told_halt : Stop → ℕ → RunEnd
told_halt TooWide k = run_end.TooWide k
told_halt (Aborted cause) k = run_end.Aborted cause k
