-- The numbers of loops in a run.
use Rattle.std.proofs.Common.{◌≡◌, refl, subst, ℕ, zero, suc, ◌+◌, ◌≤◌, Bool, true, false, cond, if◌then◌else◌, List, [], ◌∷◌, Option, Some, None, arith}
use Rattle.std.specs.Prelude.{bytes_eq, Result, Ok, Err}
use Rattle.rw_programs.specs.declared.prog.ProcCode.{ProcCode}
use Rattle.rw_programs.specs.declared.prog.Code.{Code}
use Rattle.rw_programs.specs.declared.prog.Prog.{Prog, Spec, Kid, Skip, Assign, If', Do', Call, OpCall, Row_of-Arm, end_of-Arm, more_of-Arm}
use Rattle.rw_programs.specs.Made.{Seq, Block, Con, ModBlock}
use Rattle.rw_programs.specs.State.{Name, State}
use Rattle.rw_programs.specs.Tables.{find_proc, find_module, hold}
use Rattle.rw_evaluation.specs.declared.stop.Stop.{Stop}
use Rattle.rw_evaluation.specs.Evaluation.{one, all_seen, tested}
use Rattle.rw_numbering.specs.Loops.{loops, row_loops, loops_before, bodies_loops, all_loops}
use Rattle.rw_machine.specs.Machine.{Entered, Command, Run, Again, Leave, Return, Give_back, Begin, Close, Config, Stepped, Pick, Took, None_true, Stopped, pick_by, pick, chosen, turned, entered, some_of, step_run, step_again, step_by, step}
use Rattle.rw_machine.specs.Outcome.{steps, first}
use Rattle.rw_machine.specs.Runs.{Numbered, NumbersHold}
use Rattle.rw_numbering.proofs.Numbers.{module_within}

-- the loops of what is found are among those of the bodies
body_within : (f : Name) (es : List ProcCode) (e : ProcCode) → find_proc f es ≡ Some e → loops_before f es + loops e.body ≤ bodies_loops es
body_within f [] e i = absurd (cc)
body_within f (a ∷ es) e i = go (bytes_eq a.name f) i (body_within f es e)
  where
    go : (b : Bool) → (if b then Some a else find_proc f es) ≡ Some e → (find_proc f es ≡ Some e → loops_before f es + loops e.body ≤ bodies_loops es)
        → cond b 0 (loops a.body + loops_before f es) + loops e.body ≤ loops a.body + bodies_loops es
    go true i h = let j : a ≡ e = cc in subst (λ x. 0 + loops x.body ≤ loops a.body + bodies_loops es) j (omega arith)
    go false i h = let k = h i in omega (arith, k)

module _ (code : Code) where
  abbrev After : Stepped → Type 0
  After (Ok c) = Numbered code c.commands
  After (Err w) = Unit {0}

  abbrev Picked : Pick → Type 0
  Picked (Took i c) = i + loops c ≤ all_loops code
  Picked None_true = Unit {0}
  Picked (Stopped w) = Unit {0}

  picked : {m : _} (n : ℕ) (arms : Row_of-Arm m) (s : State) → n + row_loops arms ≤ all_loops code → Picked (pick n arms s)
  picked n end_of-Arm s h = tt
  picked n (more_of-Arm g c rest) s h = go (tested s.own g) (omega (arith, h)) (pick (n + loops c) rest s) (picked (n + loops c) rest s (omega (arith, h)))
    where
      go : (x : Result Bool Stop) → n + loops c ≤ all_loops code → (y : Pick) → Picked y → Picked (pick_by x n c y)
      go (Ok true) k y r = k
      go (Ok false) k y r = r
      go (Err w) k y r = tt

  after_one : {A : Type 0} (x : Result A Stop) (k : A → Stepped) → ((a : A) → After (k a)) → After (one x k)
  after_one (Ok a) k f = f a
  after_one (Err w) k f = tt

  after_some : {A : Type 0} (o : Option A) (k : A → Stepped) → ((a : A) → o ≡ Some a → After (k a)) → After (some_of o k)
  after_some None k f = tt
  after_some (Some a) k f = f a refl

  turned_after : (y : Pick) (e : Entered) (loop : Prog) (cs : List Command) (ss : List State) (done : List Entered) → Picked y → e.loop + loops loop ≤ all_loops code → Numbered code cs
      → After (turned y e loop cs ss done)
  turned_after (Took i c) e loop cs ss done r h k = (r, (h, k))
  turned_after None_true e loop cs ss done r h k = k
  turned_after (Stopped w) e loop cs ss done r h k = tt

  run_after : (n : ℕ) (c : Prog) (cs : List Command) (s : State) (ss : List State) (done : List Entered) → n + loops c ≤ all_loops code → Numbered code cs → After (step_run code n c cs s ss done)
  run_after n (Spec w) cs s ss done h k = tt
  run_after n (Kid j) cs s ss done h k = tt
  run_after n Skip cs s ss done h k = k
  run_after n (Assign names terms) cs s ss done h k = after_one (all_seen s.own terms) _ (λ vs. k)
  run_after n (Seq c d) cs s ss done h k = (omega (arith, h), (omega (arith, h), k))
  run_after n (If' shape arms) cs s ss done h k = go (pick n arms s) (picked n arms s h)
    where
      go : (y : Pick) → Picked y → After (chosen y cs (s ∷ ss) done)
      go (Took i c) r = (r, k)
      go None_true r = tt
      go (Stopped w) r = tt
  run_after n (Do' v shape arms) cs s ss done h k = turned_after (pick (suc n) arms s) (entered n v s) (Do' v shape arms) cs (s ∷ ss) done (picked (suc n) arms s (omega (arith, h))) h k
  run_after n (Block x sort c) cs s ss done h k = (h, k)
  run_after n (Con pins c) cs s ss done h k = tt
  run_after n (Call f args names) cs s ss done h k =
      after_one (all_seen s.own args) _ (λ vs. after_some (find_proc f code.procs) _ (λ e i. let b = body_within f code.procs e i in (omega (arith, b), k)))
  run_after n (OpCall m o args names) cs s ss done h k =
      after_one (all_seen s.own args) _ (λ vs. after_some (find_module m code.modules) _ (λ d i. after_some (find_proc o d.operations) _ (λ e j.
      let a = module_within m code.modules d i in let b = body_within o d.operations e j in (omega (arith, a, b), k))))
  run_after n (ModBlock m c) cs s ss done h k =
      after_some (find_module m code.modules) _ (λ d i. let a = module_within m code.modules d i in (omega (arith, a), (h, k)))

  again_after : (e : Entered) (c : Prog) (cs : List Command) (s : State) (ss : List State) (done : List Entered) → e.loop + loops c ≤ all_loops code → Numbered code cs → After (step_again code e c cs s ss done)
  again_after e (Do' v shape arms) cs s ss done h k = turned_after (pick (suc e.loop) arms s) e (Do' v shape arms) cs (s ∷ ss) done (picked (suc e.loop) arms s (omega (arith, h))) h k
  again_after e c cs s ss done h k = tt

  step_after : (cs : List Command) (ss : List State) (done : List Entered) → Numbered code cs → After (step_by code cs ss done)
  step_after [] ss done h = tt
  step_after (Run n c ∷ cs) (s ∷ ss) done h = run_after n c cs s ss done h.0 h.1
  step_after (Run n c ∷ cs) [] done h = tt
  step_after (Again e c ∷ cs) (s ∷ ss) done h = again_after e c cs s ss done h.0 h.1
  step_after (Again e c ∷ cs) [] done h = tt
  step_after (Leave x ∷ cs) (s ∷ ss) done h = h
  step_after (Leave x ∷ cs) [] done h = tt
  step_after (Return f names ∷ cs) (t ∷ s ∷ ss) done h = after_some (find_proc f code.procs) _ (λ e i. h)
  step_after (Return f names ∷ cs) (t ∷ []) done h = tt
  step_after (Return f names ∷ cs) [] done h = tt
  step_after (Give_back m o names ∷ cs) (t ∷ s ∷ ss) done h = after_some (find_module m code.modules) _ (λ d i. after_some (find_proc o d.operations) _ (λ e j. h))
  step_after (Give_back m o names ∷ cs) (t ∷ []) done h = tt
  step_after (Give_back m o names ∷ cs) [] done h = tt
  step_after (Begin m n c ∷ cs) (t ∷ s ∷ ss) done h = after_some (find_module m code.modules) _ (λ d i. run_after n c cs (hold true d t.own s) ss done h.0 h.1)
  step_after (Begin m n c ∷ cs) (t ∷ []) done h = tt
  step_after (Begin m n c ∷ cs) [] done h = tt
  step_after (Close m ∷ cs) (s ∷ ss) done h = after_some (find_module m code.modules) _ (λ d i. h)
  step_after (Close m ∷ cs) [] done h = tt

  steps_after : (n : ℕ) (c : Config) → Numbered code c.commands → After (steps code n c)
  steps_after zero c h = h
  steps_after (suc n) c h = go (step code c) (step_after c.commands c.stack c.over h) (λ d. steps_after n d)
    where
      go : (x : Stepped) → After x → ((d : Config) → Numbered code d.commands → After (steps code n d)) → After (one x (steps code n))
      go (Ok d) h more = more d h
      go (Err w) h more = tt

pub numbers_hold : NumbersHold
numbers_hold code s n c e = subst (After code) e (steps_after code n (first code s) (omega arith, tt))
