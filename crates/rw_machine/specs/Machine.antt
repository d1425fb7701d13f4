-- The machine: a list of commands and a stack of states.
use Rattle.std.specs.Prelude.{ℕ, suc, ◌+◌, Bool, true, false, List, [], ◌∷◌, Option, Some, None, Result, Ok, Err}
use Rattle.rw_terms.specs.declared.term.Term.{Term}
use Rattle.rw_programs.specs.declared.prog.Code.{Code}
use Rattle.rw_programs.specs.declared.prog.Prog.{Prog, Spec, Kid, Skip, Assign, If', Do', Call, OpCall, Row_of-Arm, end_of-Arm, more_of-Arm}
use Rattle.rw_programs.specs.Made.{Seq, Block, Con, ModBlock}
use Rattle.rw_programs.specs.State.{Name, State, empty, with_own, put, put_all}
use Rattle.rw_programs.specs.Tables.{find_proc, find_module, returned, held, hold}
use Rattle.rw_evaluation.specs.declared.stop.AbortCause.TheVariants.{NoGuard}
use Rattle.rw_evaluation.specs.declared.stop.Stop.{Stop}
use Rattle.rw_evaluation.specs.declared.stop.Stop.TheVariants.{Aborted}
use Rattle.rw_evaluation.specs.Evaluation.{one, all_seen, tested}
use Rattle.rw_frames.specs.Bodies.{zero_of, begun, started}
use Rattle.rw_numbering.specs.Loops.{loops, first_in_proc, first_in_start, first_in_operation}

-- an entry of a loop: the number of the loop, its variant, the state at entry, and the turns begun
pub record Entered : Type 0 where
  pub loop : ℕ
  pub variant : Term
  pub start : State
  pub turns : ℕ

abbrev pub entered : ℕ → Term → State → Entered
entered n v s = record { loop = n; variant = v; start = s; turns = 0 }

-- one turn more is begun
abbrev pub one_more : Entered → Entered
one_more e = record { loop = e.loop; variant = e.variant; start = e.start; turns = suc e.turns }

pub data Command : Type 0 where
  -- the program, whose first loop has this number
  Run : ℕ → Prog → Command
  -- the next turn of the loop, which was entered so
  Again : Entered → Prog → Command
  -- the end of the block of a local
  Leave : Name → Command
  -- the return from a procedure: the names get its results
  Return : Name → List Name → Command
  -- the return from an operation of a module: the module's state is written back, too
  Give_back : Name → Name → List Name → Command
  -- the body of a module's block, behind the start, whose state is on top; the body's first loop has this number
  Begin : Name → ℕ → Prog → Command
  -- the end of the block of a module
  Close : Name → Command

-- what is to be done, the states with that of the running body on top, and the entries of loops that are over, the last one first
pub record Config : Type 0 where
  pub commands : List Command
  pub stack : List State
  pub over : List Entered

abbrev pub config : List Command → List State → List Entered → Config
config cs ss done = record { commands = cs; stack = ss; over = done }

-- what comes of a step
abbrev pub Stepped : Type 0
Stepped = Result Config Stop

-- There is no step: code that fits never comes here.
abbrev pub stuck : Stepped
stuck = Err (Aborted NoGuard)

-- what is picked of guards: the body behind the first true one, with the number of its first loop
pub data Pick : Type 0 where
  Took : ℕ → Prog → Pick
  None_true : Pick
  Stopped : Stop → Pick

abbrev pub pick_by : Result Bool Stop → ℕ → Prog → Pick → Pick
pick_by (Ok true) n c rest = Took n c
pick_by (Ok false) n c rest = rest
pick_by (Err e) n c rest = Stopped e

-- the guards in order, up to the first true one
abbrev pub pick : {m : _} → ℕ → Row_of-Arm m → State → Pick
pick n end_of-Arm s = None_true
pick n (more_of-Arm g c rest) s = pick_by (tested s.own g) n c (pick (n + loops c) rest s)

-- the body that was picked goes in front
abbrev pub chosen : Pick → List Command → List State → List Entered → Stepped
chosen (Took n c) cs ss done = Ok (config (Run n c ∷ cs) ss done)
chosen None_true cs ss done = Err (Aborted NoGuard)
chosen (Stopped e) cs ss done = Err e

-- a turn of the loop, which is then behind the body, or its end
abbrev pub turned : Pick → Entered → Prog → List Command → List State → List Entered → Stepped
turned (Took n c) e loop cs ss done = Ok (config (Run n c ∷ Again (one_more e) loop ∷ cs) ss done)
turned None_true e loop cs ss done = Ok (config cs ss (e ∷ done))
turned (Stopped h) e loop cs ss done = Err h

abbrev pub some_of : {A : Type 0} → Option A → (A → Stepped) → Stepped
some_of None go = stuck
some_of (Some a) go = go a

module _ (code : Code) where
  -- the step of a program whose first loop has the number n
  abbrev pub step_run : ℕ → Prog → List Command → State → List State → List Entered → Stepped
  step_run n (Spec w) cs s ss done = stuck
  step_run n (Kid k) cs s ss done = stuck
  step_run n Skip cs s ss done = Ok (config cs (s ∷ ss) done)
  -- evaluates all terms, then sets all names
  step_run n (Assign names terms) cs s ss done = one (all_seen s.own terms) (λ vs. Ok (config cs (with_own s (put_all names vs s.own) ∷ ss) done))
  step_run n (Seq c d) cs s ss done = Ok (config (Run n c ∷ Run (n + loops c) d ∷ cs) (s ∷ ss) done)
  step_run n (If' shape arms) cs s ss done = chosen (pick n arms s) cs (s ∷ ss) done
  -- the variant is not evaluated
  step_run n (Do' variant shape arms) cs s ss done = turned (pick (suc n) arms s) (entered n variant s) (Do' variant shape arms) cs (s ∷ ss) done
  step_run n (Block x sort c) cs s ss done = Ok (config (Run n c ∷ Leave x ∷ cs) (with_own s (put x (Some (zero_of sort)) s.own) ∷ ss) done)
  step_run n (Con pins c) cs s ss done = stuck
  step_run n (Call f args names) cs s ss done =
      one (all_seen s.own args) (λ vs. some_of (find_proc f code.procs) (λ e.
      Ok (config (Run (first_in_proc code f) e.body ∷ Return f names ∷ cs) (begun empty e vs ∷ s ∷ ss) done)))
  step_run n (OpCall m o args names) cs s ss done =
      one (all_seen s.own args) (λ vs. some_of (find_module m code.modules) (λ d. some_of (find_proc o d.operations) (λ e.
      Ok (config (Run (first_in_operation code m d o) e.body ∷ Give_back m o names ∷ cs) (begun (held true d s) e vs ∷ s ∷ ss) done))))
  -- the start runs on a state of its own, which becomes the module's part as the body begins
  step_run n (ModBlock m c) cs s ss done =
      some_of (find_module m code.modules) (λ d.
      Ok (config (Run (first_in_start code m) d.start ∷ Begin m n c ∷ Close m ∷ cs) (started d ∷ s ∷ ss) done))

  -- the step of a loop that was entered
  abbrev pub step_again : Entered → Prog → List Command → State → List State → List Entered → Stepped
  step_again e (Do' variant shape arms) cs s ss done = turned (pick (suc e.loop) arms s) e (Do' variant shape arms) cs (s ∷ ss) done
  step_again e _ cs s ss done = stuck

  -- the step of the first command
  abbrev pub step_on : Command → List Command → List State → List Entered → Stepped
  step_on (Run n c) cs (s ∷ ss) done = step_run n c cs s ss done
  step_on (Again e c) cs (s ∷ ss) done = step_again e c cs s ss done
  step_on (Leave x) cs (s ∷ ss) done = Ok (config cs (with_own s (put x None s.own) ∷ ss) done)
  step_on (Return f names) cs (t ∷ s ∷ ss) done = some_of (find_proc f code.procs) (λ e. Ok (config cs (returned e names t s ∷ ss) done))
  step_on (Give_back m o names) cs (t ∷ s ∷ ss) done =
      some_of (find_module m code.modules) (λ d. some_of (find_proc o d.operations) (λ e.
      Ok (config cs (hold true d t.own (returned e names t s) ∷ ss) done)))
  step_on (Begin m n c) cs (t ∷ s ∷ ss) done = some_of (find_module m code.modules) (λ d. step_run n c cs (hold true d t.own s) ss done)
  step_on (Close m) cs (s ∷ ss) done = some_of (find_module m code.modules) (λ d. Ok (config cs (hold true d empty s ∷ ss) done))
  step_on c cs ss done = stuck

  -- Each step takes the first command; where there is none, nothing changes.
  abbrev pub step_by : List Command → List State → List Entered → Stepped
  step_by [] ss done = Ok (config [] ss done)
  step_by (c ∷ cs) ss done = step_on c cs ss done

  abbrev pub step : Config → Stepped
  step c = step_by c.commands c.stack c.over
