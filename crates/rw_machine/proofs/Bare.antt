-- A step looks at no state at entry, no variant of an entry, and no entry that is over.
use Rattle.std.proofs.Common.{◌≡◌, refl, sym, ap, ◌∙◌, ℕ, suc, true, List, [], ◌∷◌, map, Option, Some, None}
use Rattle.std.specs.Prelude.{Result, Ok, Err}
use Rattle.rw_programs.specs.declared.prog.Code.{Code}
use Rattle.rw_programs.specs.declared.prog.Prog.{Prog, Spec, Kid, Skip, Assign, If', Do', Call, OpCall}
use Rattle.rw_programs.specs.Made.{Seq, Block, Con, ModBlock}
use Rattle.rw_programs.specs.State.{State}
use Rattle.rw_programs.specs.Tables.{find_proc, find_module, hold}
use Rattle.rw_evaluation.specs.declared.stop.Stop.{Stop}
use Rattle.rw_evaluation.specs.Evaluation.{one, all_seen}
use Rattle.rw_machine.specs.Machine.{Entered, entered, Command, Run, Again, Leave, Return, Give_back, Begin, Close, config, Stepped, Pick, Took, None_true, Stopped, pick, chosen, turned, some_of, step_run, step_again, step_by}
use Rattle.rw_machine.specs.Kept.{counted, bare, bare_step}

bare_twice : (cs : List Command) → map bare (map bare cs) ≡ map bare cs
bare_twice [] = refl
bare_twice (Run n c ∷ cs) = ap (λ l. Run n c ∷ l) (bare_twice cs)
bare_twice (Again e c ∷ cs) = ap (λ l. Again (counted e.loop e.turns) c ∷ l) (bare_twice cs)
bare_twice (Leave x ∷ cs) = ap (λ l. Leave x ∷ l) (bare_twice cs)
bare_twice (Return f names ∷ cs) = ap (λ l. Return f names ∷ l) (bare_twice cs)
bare_twice (Give_back m o names ∷ cs) = ap (λ l. Give_back m o names ∷ l) (bare_twice cs)
bare_twice (Begin m n c ∷ cs) = ap (λ l. Begin m n c ∷ l) (bare_twice cs)
bare_twice (Close m ∷ cs) = ap (λ l. Close m ∷ l) (bare_twice cs)

one_bare : {A : Type 0} (x : Result A Stop) (k j : A → Stepped) → ((a : A) → bare_step (k a) ≡ bare_step (j a)) → bare_step (one x k) ≡ bare_step (one x j)
one_bare (Ok a) k j f = f a
one_bare (Err w) k j f = refl

some_bare : {A : Type 0} (o : Option A) (k j : A → Stepped) → ((a : A) → bare_step (k a) ≡ bare_step (j a)) → bare_step (some_of o k) ≡ bare_step (some_of o j)
some_bare None k j f = refl
some_bare (Some a) k j f = f a

module _ (code : Code) (cs : List Command) (done : List Entered) where
  -- with the commands left and these in front
  in_front : (front : List Command → List Command) → ((l : List Command) → map bare (front l) ≡ front (map bare l)) → map bare (front cs) ≡ map bare (front (map bare cs))
  in_front front f = f cs ∙ (ap front (sym (bare_twice cs)) ∙ sym (f (map bare cs)))

  with_front : (front : List Command → List Command) (ss : List State) → ((l : List Command) → map bare (front l) ≡ front (map bare l))
      → bare_step (Ok (config (front cs) ss done)) ≡ bare_step (Ok (config (front (map bare cs)) ss []))
  with_front front ss f = ap (λ l. Ok (l, ss)) (in_front front f)

  chosen_bare : (y : Pick) (ss : List State) → bare_step (chosen y cs ss done) ≡ bare_step (chosen y (map bare cs) ss [])
  chosen_bare (Took n c) ss = with_front (λ l. Run n c ∷ l) ss (λ l. refl)
  chosen_bare None_true ss = refl
  chosen_bare (Stopped w) ss = refl

  turned_bare : (y : Pick) (e f : Entered) → counted e.loop e.turns ≡ counted f.loop f.turns → counted e.loop (suc e.turns) ≡ counted f.loop (suc f.turns) → (loop : Prog) (ss : List State)
      → bare_step (turned y e loop cs ss done) ≡ bare_step (turned y f loop (map bare cs) ss [])
  turned_bare (Took n c) e f i j loop ss = ap (λ l. Ok (Run n c ∷ Again (counted e.loop (suc e.turns)) loop ∷ l, ss)) (sym (bare_twice cs)) ∙ ap (λ x. Ok (Run n c ∷ Again x loop ∷ map bare (map bare cs), ss)) j
  turned_bare None_true e f i j loop ss = with_front (λ l. l) ss (λ l. refl)
  turned_bare (Stopped w) e f i j loop ss = refl

  run_bare : (n : ℕ) (c : Prog) (s : State) (ss : List State) → bare_step (step_run code n c cs s ss done) ≡ bare_step (step_run code n c (map bare cs) s ss [])
  run_bare n (Spec w) s ss = refl
  run_bare n (Kid k) s ss = refl
  run_bare n Skip s ss = with_front (λ l. l) _ (λ l. refl)
  run_bare n (Assign names terms) s ss = one_bare (all_seen s.own terms) _ _ (λ vs. with_front (λ l. l) _ (λ l. refl))
  run_bare n (Seq c d) s ss = with_front (λ l. Run n c ∷ Run _ d ∷ l) _ (λ l. refl)
  run_bare n (If' shape arms) s ss = chosen_bare (pick n arms s) (s ∷ ss)
  run_bare n (Do' v shape arms) s ss = turned_bare (pick (suc n) arms s) (entered n v s) (entered n v s) refl refl (Do' v shape arms) (s ∷ ss)
  run_bare n (Block x sort c) s ss = with_front (λ l. Run n c ∷ Leave x ∷ l) _ (λ l. refl)
  run_bare n (Con pins c) s ss = refl
  run_bare n (Call f args names) s ss = one_bare (all_seen s.own args) _ _ (λ vs. some_bare (find_proc f code.procs) _ _ (λ e. with_front (λ l. Run _ e.body ∷ Return f names ∷ l) _ (λ l. refl)))
  run_bare n (OpCall m o args names) s ss = one_bare (all_seen s.own args) _ _ (λ vs. some_bare (find_module m code.modules) _ _ (λ d. some_bare (find_proc o d.operations) _ _
      (λ e. with_front (λ l. Run _ e.body ∷ Give_back m o names ∷ l) _ (λ l. refl))))
  run_bare n (ModBlock m c) s ss = some_bare (find_module m code.modules) _ _ (λ d. with_front (λ l. Run _ d.start ∷ Begin m n c ∷ Close m ∷ l) _ (λ l. refl))

  again_bare : (e : Entered) (c : Prog) (s : State) (ss : List State) → bare_step (step_again code e c cs s ss done) ≡ bare_step (step_again code (counted e.loop e.turns) c (map bare cs) s ss [])
  again_bare e (Do' v shape arms) s ss = turned_bare (pick (suc e.loop) arms s) e (counted e.loop e.turns) refl refl (Do' v shape arms) (s ∷ ss)
  again_bare e c s ss = refl

pub step_bare : (code : Code) (cs : List Command) (ss : List State) (done : List Entered) → bare_step (step_by code cs ss done) ≡ bare_step (step_by code (map bare cs) ss [])
step_bare code [] ss done = refl
step_bare code (Run n c ∷ cs) (s ∷ ss) done = run_bare code cs done n c s ss
step_bare code (Run n c ∷ cs) [] done = refl
step_bare code (Again e c ∷ cs) (s ∷ ss) done = again_bare code cs done e c s ss
step_bare code (Again e c ∷ cs) [] done = refl
step_bare code (Leave x ∷ cs) (s ∷ ss) done = with_front code cs done (λ l. l) _ (λ l. refl)
step_bare code (Leave x ∷ cs) [] done = refl
step_bare code (Return f names ∷ cs) (t ∷ s ∷ ss) done = some_bare (find_proc f code.procs) _ _ (λ e. with_front code cs done (λ l. l) _ (λ l. refl))
step_bare code (Return f names ∷ cs) (t ∷ []) done = refl
step_bare code (Return f names ∷ cs) [] done = refl
step_bare code (Give_back m o names ∷ cs) (t ∷ s ∷ ss) done =
    some_bare (find_module m code.modules) _ _ (λ d. some_bare (find_proc o d.operations) _ _ (λ e. with_front code cs done (λ l. l) _ (λ l. refl)))
step_bare code (Give_back m o names ∷ cs) (t ∷ []) done = refl
step_bare code (Give_back m o names ∷ cs) [] done = refl
step_bare code (Begin m n c ∷ cs) (t ∷ s ∷ ss) done = some_bare (find_module m code.modules) _ _ (λ d. run_bare code cs done n c (hold true d t.own s) ss)
step_bare code (Begin m n c ∷ cs) (t ∷ []) done = refl
step_bare code (Begin m n c ∷ cs) [] done = refl
step_bare code (Close m ∷ cs) (s ∷ ss) done = some_bare (find_module m code.modules) _ _ (λ d. with_front code cs done (λ l. l) _ (λ l. refl))
step_bare code (Close m ∷ cs) [] done = refl
