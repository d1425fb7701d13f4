-- From a sure state the machine comes to an end, or meets a number that is too wide.
use Rattle.std.proofs.Common.{◌≡◌, refl, sym, ap, subst, ◌∙◌, ℕ, zero, suc, ◌+◌, Bool, true, false, ◌&&◌, ◌≤◌, List, [], ◌∷◌, length, Option, Some, None, IsSomeAnd, inl, inr, arith, pos}
use Rattle.std.specs.Prelude.{Result, Ok, Err}
use lib.ListN.{length-replicate}
use Rattle.rw_terms.specs.declared.term.Sort.{Sort}
use Rattle.rw_terms.specs.declared.term.Sort.TheVariants.{Int, Array}
use Rattle.rw_terms.specs.declared.term.Term.{Term}
use Rattle.rw_terms.specs.declared.term.Formula.{Formula}
use Rattle.rw_terms.specs.State.{Value, HasSort, State as Map}
use Rattle.rw_terms.specs.Defined.{GuardDefined}
use Rattle.rw_programs.specs.declared.prog.Param.{Param}
use Rattle.rw_programs.specs.declared.prog.ProcCode.{ProcCode}
use Rattle.rw_programs.specs.declared.prog.Code.{Code}
use Rattle.rw_programs.specs.declared.prog.Prog.{Prog, Spec, Kid, Skip, Assign, If', Do', Call, OpCall, Row_of-Arm, end_of-Arm, more_of-Arm}
use Rattle.rw_programs.specs.Made.{Seq, Block, Con, ModBlock}
use Rattle.rw_programs.specs.State.{Name, State, empty, Holds, put, put_all, ValuesFor, with_own}
use Rattle.rw_programs.specs.Tables.{Table, find_proc, find_module, Begins, returned, held, hold}
use Rattle.rw_programs.specs.CodeTest.{is_plain, is_guard, is_code, are_code}
use Rattle.rw_programs.specs.Meaning.{values, AllDefined, NoGuard, GuardsDefined, Chain, Bodies, either, own_bodies, bodies_before, bodies, ends_by, sure_by, arm_ends, arms_sure, MayEnd, Sure}
use Rattle.rw_evaluation.specs.declared.stop.Stop.{Stop}
use Rattle.rw_evaluation.specs.declared.stop.Stop.TheVariants.{TooWide}
use Rattle.rw_evaluation.specs.Evaluation.{one, all_seen, tested}
use Rattle.rw_runs.specs.Ends.{table_of}
use Rattle.rw_numbering.specs.Loops.{loops, first_in_proc, first_in_start, first_in_operation}
use Rattle.rw_machine.specs.Machine.{Entered, entered, one_more, Command, Run, Again, Leave, Return, Give_back, Begin, Close, Config, config, Stepped, Pick, Took, None_true, Stopped, pick_by, pick, chosen, turned, some_of, step_run, step_on, step}
use Rattle.rw_frames.specs.Bodies.{zero_of, zeros, begun, started}
use Rattle.rw_machine.specs.Outcome.{steps}
use Rattle.rw_runs.proofs.Landing.{BodiesAreCode, Lands}
use Rattle.rw_evaluation.specs.Laws.{TestRight}
use Rattle.rw_evaluation.proofs.Evaluations.{guard_right, AllRight, terms_right, both_true}

pub zero_has_sort : (sort : Sort) → HasSort (zero_of sort) sort
zero_has_sort Int = tt
zero_has_sort (Array n) = length-replicate n (pos 0)

pub zeros_fit : (ps : List Param) → ValuesFor ps (zeros ps)
zeros_fit [] = tt
zeros_fit (p ∷ ps) = (zero_has_sort p.sort, zeros_fit ps)

pub some_is : {A : Type 0} (P : A → Type 0) (o : Option A) (a : A) → o ≡ Some a → P a → IsSomeAnd o P
some_is P o a e h = subst (λ o. IsSomeAnd o P) (sym e) h

-- a body begins with its results at 0
pub begun_begins : (h : Map) (e : ProcCode) (vs ws : List (Option Value)) → vs ≡ ws → Begins h e ws (begun h e vs)
begun_begins h e vs ws i = (zeros e.results, zeros_fit e.results, ap (λ vs. begun h e vs) i)

module _ (by : Bool) (code : Code) where
  abbrev E : Table
  E = table_of by code

  abbrev Steps : ℕ → Config → Stepped
  Steps = steps code

  -- from c the run lands so after some number of steps
  abbrev pub Comes : Config → List Command → List State → (State → Type 0) → Type 0
  Comes c cs ss Q = (n : ℕ) × Lands (Steps n c) cs ss Q

  pub steps_add : (n m : ℕ) (c : Config) → Steps (n + m) c ≡ one (Steps n c) (Steps m)
  steps_add zero m c = let e : zero + m ≡ m = omega arith in ap (λ k. Steps k c) e
  steps_add (suc n) m c = let e : suc n + m ≡ suc (n + m) = omega arith in ap (λ k. Steps k c) e ∙ on (step code c) (λ d. steps_add n m d)
    where
      on : (x : Stepped) → ((d : Config) → Steps (n + m) d ≡ one (Steps n d) (Steps m)) → one x (Steps (n + m)) ≡ one (one x (Steps n)) (Steps m)
      on (Ok d) ih = ih d
      on (Err e) ih = refl

  -- one landing after another
  then_comes : (c : Config) (cs cs' : List Command) (ss ss' : List State) (Q Q' : State → Type 0) → Comes c cs ss Q
      → ((t : State) (done : List Entered) → Q t → Comes (config cs (t ∷ ss) done) cs' ss' Q') → Comes c cs' ss' Q'
  then_comes c cs cs' ss ss' Q Q' a f = go (Steps a.0 c) refl a.1
    where
      go : (x : Stepped) → Steps a.0 c ≡ x → Lands x cs ss Q → Comes c cs' ss' Q'
      go (Ok d) e l =
          let r = f l.0 l.1 l.2 in
          (a.0 + r.0, subst (λ x. Lands x cs' ss' Q') (sym (steps_add a.0 r.0 c ∙ ap (λ x. one x (Steps r.0)) e ∙ ap (Steps r.0) l.3)) r.1)
      go (Err w) e l = (a.0, subst (λ x. Lands x cs' ss' Q') (sym e) l)

  module _ (c : Config) (cs : List Command) (ss : List State) (Q : State → Type 0) where
    -- a step that goes on
    after_step : (d : Config) → step code c ≡ Ok d → Comes d cs ss Q → Comes c cs ss Q
    after_step d e a = (suc a.0, subst (λ x. Lands (one x (Steps a.0)) cs ss Q) (sym e) a.1)

    -- a step that is the last
    in_one : (t : State) (done : List Entered) → step code c ≡ Ok (config cs (t ∷ ss) done) → Q t → Comes c cs ss Q
    in_one t done e q = after_step _ e (0, (t, done, q, refl))

    too_wide : (w : Stop) → step code c ≡ Err w → w ≡ TooWide → Comes c cs ss Q
    too_wide w e i = (1, subst (λ x. Lands (one x (Steps 0)) cs ss Q) (sym e) i)

    -- one configuration goes on as another
    same_step : (d : Config) (x : Command) → step code c ≡ step code d → d.commands ≡ x ∷ cs → Comes d cs ss Q → Comes c cs ss Q
    same_step d x e i (zero, l) = let k : length d.commands ≡ length cs = ap (λ c. length c.commands) l.3 in let j : length d.commands ≡ suc (length cs) = ap length i in absurd (omega (arith, k, j))
    same_step d x e i (suc n, l) = (suc n, subst (λ x. Lands (one x (Steps n)) cs ss Q) (sym e) l)

    -- a step that evaluates terms first
    with_values : (k : List (Option Value) → Stepped) (s : State) (ts : List Term) → step code c ≡ one (all_seen s.own ts) k → AllDefined ts s
        → ((vs : List (Option Value)) → vs ≡ values ts s → step code c ≡ k vs → Comes c cs ss Q) → Comes c cs ss Q
    with_values k s ts st def f = go (all_seen s.own ts) refl (terms_right s ts)
      where
        go : (x : Result (List (Option Value)) Stop) → all_seen s.own ts ≡ x → AllRight x (values ts s) (AllDefined ts s) → Comes c cs ss Q
        go (Ok vs) e r = f vs r (st ∙ ap (λ x. one x k) e)
        go (Err w) e r = too_wide w (st ∙ ap (λ x. one x k) e) (r def)

    -- a step that looks something up
    with_some : {A : Type 0} (k : A → Stepped) (P : A → Type 0) (o : Option A) → step code c ≡ some_of o k → IsSomeAnd o P
        → ((a : A) → o ≡ Some a → P a → step code c ≡ k a → Comes c cs ss Q) → Comes c cs ss Q
    with_some k P None st h f = absurd h
    with_some k P (Some a) st h f = f a refl h st

  -- what a program does from a state: whatever is behind it
  abbrev pub Does : Prog → State → (State → Type 0) → Type 0
  Does c s Q = (n : ℕ) (cs : List Command) (ss : List State) (done : List Entered) → Comes (config (Run n c ∷ cs) (s ∷ ss) done) cs ss Q

  does_as : (c : Prog) (s : State) (Q Q' : State → Type 0) → ((t : State) → Q t → Q' t) → Does c s Q → Does c s Q'
  does_as c s Q Q' f d n cs ss done = let a = d n cs ss done in (a.0, go (Steps a.0 (config (Run n c ∷ cs) (s ∷ ss) done)) a.1)
    where
      go : (x : Stepped) → Lands x cs ss Q → Lands x cs ss Q'
      go (Ok c) l = (l.0, l.1, f l.0 l.2, l.3)
      go (Err w) l = l

  abbrev RunsBodies : Bodies → Type 0
  RunsBodies b = (q : ℕ) (c : Prog) (s : State) → is_code c ≡ true → b.sure q c s → Does c s (λ t. b.ends q c s t)

  module _ (coded : BodiesAreCode code) (calls before : Bodies) (run_calls : RunsBodies calls) (run_before : RunsBodies before) where
    abbrev S : Prog → State → Type 0
    S = sure_by E calls before

    abbrev N : Prog → State → State → Type 0
    N = ends_by E calls before

    -- what is picked: a body that runs to an end of the choice, or nothing where no guard holds
    abbrev PickRuns : {m : _} → Row_of-Arm m → State → Pick → Type 0
    PickRuns arms s (Took n c) = Does c s (λ t. arm_ends E calls before arms s t)
    PickRuns arms s None_true = NoGuard E.library arms s
    PickRuns arms s (Stopped w) = w ≡ TooWide

    arm_runs : {m : _} (g : Formula) (c : Prog) (rest : Row_of-Arm m) (n k : ℕ) (s : State) → (Holds E.library g s s → Does c s (N c s)) → GuardDefined s.own s.own g → is_guard g ≡ true
        → PickRuns rest s (pick k rest s) → PickRuns (more_of-Arm g c rest) s (pick_by (tested s.own g) n c (pick k rest s))
    arm_runs g c rest n k s run def ig more = go (tested s.own g) (guard_right E.library s.own g ig) (pick k rest s) more
      where
        go : (x : Result Bool Stop) → TestRight x (Holds E.library g s s) (GuardDefined s.own s.own g) → (y : Pick) → PickRuns rest s y → PickRuns (more_of-Arm g c rest) s (pick_by x n c y)
        go (Ok true) h y r = does_as c s _ _ (λ t e. inl (h, e)) (run h)
        go (Ok false) h (Took j d) r = does_as d s _ _ (λ t e. inr e) r
        go (Ok false) h None_true r = (h, r)
        go (Ok false) h (Stopped w) r = r
        go (Err w) h y r = h def

    if_run : {m : _} (arms : Row_of-Arm m) (s : State) (c : Prog)
        → ((n : ℕ) (cs : List Command) (ss : List State) (done : List Entered) → step_run code n c cs s ss done ≡ chosen (pick n arms s) cs (s ∷ ss) done)
        → ¬ (NoGuard E.library arms s) → ((n : ℕ) → PickRuns arms s (pick n arms s)) → Does c s (arm_ends E calls before arms s)
    if_run arms s c st some r n cs ss done = go (pick n arms s) refl (r n)
      where
        go : (y : Pick) → pick n arms s ≡ y → PickRuns arms s y → Comes (config (Run n c ∷ cs) (s ∷ ss) done) cs ss (arm_ends E calls before arms s)
        go (Took k d) e r = after_step _ cs ss _ _ (st n cs ss done ∙ ap (λ y. chosen y cs (s ∷ ss) done) e) (r k cs ss done)
        go None_true e r = absurd (some r)
        go (Stopped w) e r = too_wide _ cs ss _ w (st n cs ss done ∙ ap (λ y. chosen y cs (s ∷ ss) done) e) r

    seq_run : (c d : Prog) (s : State) → Does c s (N c s) → ((m : State) → N c s m → Does d m (N d m)) → Does (Seq c d) s (N (Seq c d) s)
    seq_run c d s rc rd n cs ss done =
        after_step _ cs ss _ (config (Run n c ∷ Run (n + loops c) d ∷ cs) (s ∷ ss) done) refl
        (then_comes _ (Run (n + loops c) d ∷ cs) cs ss ss _ _ (rc n (Run (n + loops c) d ∷ cs) ss done)
        (λ m more e. does_as d m _ _ (λ t x. (m, e, x)) (rd m e) (n + loops c) cs ss more))

    block_run : (x : Name) (sort : Sort) (c : Prog) (s : State) → ((v : Value) → HasSort v sort → Does c (with_own s (put x (Some v) s.own)) (N c (with_own s (put x (Some v) s.own))))
        → Does (Block x sort c) s (N (Block x sort c) s)
    block_run x sort c s r n cs ss done =
        let v = zero_of sort in
        let s1 = with_own s (put x (Some v) s.own) in
        after_step _ cs ss _ (config (Run n c ∷ Leave x ∷ cs) (s1 ∷ ss) done) refl
        (then_comes _ (Leave x ∷ cs) cs ss ss _ _ (r v (zero_has_sort sort) n (Leave x ∷ cs) ss done)
        (λ m more e. in_one _ cs ss _ (with_own m (put x None m.own)) more refl (v, m, zero_has_sort sort, e, refl)))

    assign_run : (xs : List Name) (es : List Term) (s : State) → AllDefined es s → Does (Assign xs es) s (N (Assign xs es) s)
    assign_run xs es s def n cs ss done =
        with_values _ cs ss _ (λ vs. Ok (config cs (with_own s (put_all xs vs s.own) ∷ ss) done)) s es refl def
        (λ vs e st. in_one _ cs ss _ (with_own s (put_all xs vs s.own)) done st (ap (λ vs. with_own s (put_all xs vs s.own)) e))

    call_run : (f : Name) (args : List Term) (names : List Name) (s : State) → S (Call f args names) s → Does (Call f args names) s (N (Call f args names) s)
    call_run f args names s h n cs ss done =
        with_values _ cs ss _ _ s args refl h.0
        (λ vs i st. with_some _ cs ss _ _ _ (find_proc f code.procs) st h.1
        (λ e found sure go. after_step _ cs ss _ (config (Run (first_in_proc code f) e.body ∷ Return f names ∷ cs) (begun empty e vs ∷ s ∷ ss) done) go
        (let begins = begun_begins empty e vs (values args s) i in
        then_comes _ (Return f names ∷ cs) cs (s ∷ ss) ss _ _
        (run_calls e.place e.body (begun empty e vs) (coded.procs f e found) (sure (begun empty e vs) begins) (first_in_proc code f) (Return f names ∷ cs) (s ∷ ss) done)
        (λ b more x. in_one _ cs ss _ (returned e names b s) more (ap (λ o. some_of o (λ e. Ok (config cs (returned e names b s ∷ ss) more))) found) (some_is _ (find_proc f code.procs) e found (begun empty e vs, b, begins, x, refl))))))

    op_run : (m o : Name) (args : List Term) (names : List Name) (s : State) → S (OpCall m o args names) s → Does (OpCall m o args names) s (N (OpCall m o args names) s)
    op_run m o args names s h n cs ss done =
        with_values _ cs ss _ _ s args refl h.0
        (λ vs i st. with_some _ cs ss _ _ _ (find_module m code.modules) st h.1
        (λ d is inside st. with_some _ cs ss _ _ _ (find_proc o d.operations) st inside
        (λ e found sure go. after_step _ cs ss _ (config (Run (first_in_operation code m d o) e.body ∷ Give_back m o names ∷ cs) (begun (held true d s) e vs ∷ s ∷ ss) done) go
        (let begins = begun_begins (held true d s) e vs (values args s) i in
        then_comes _ (Give_back m o names ∷ cs) cs (s ∷ ss) ss _ _
        (run_before d.place e.body (begun (held true d s) e vs) (coded.operations m d is o e found) (sure (begun (held true d s) e vs) begins) (first_in_operation code m d o) (Give_back m o names ∷ cs) (s ∷ ss) done)
        (λ b more x. in_one _ cs ss _ (hold true d b.own (returned e names b s)) more
        (ap (λ z. some_of z (λ d. some_of (find_proc o d.operations) (λ e. Ok (config cs (hold true d b.own (returned e names b s) ∷ ss) more)))) is
        ∙ ap (λ z. some_of z (λ e. Ok (config cs (hold true d b.own (returned e names b s) ∷ ss) more))) found)
        (some_is _ (find_module m code.modules) d is (some_is _ (find_proc o d.operations) e found (begun (held true d s) e vs, b, begins, x, refl))))))))

    module_run : (m : Name) (c : Prog) (s : State) → S (ModBlock m c) s → ((t : State) → S c t → Does c t (N c t)) → Does (ModBlock m c) s (N (ModBlock m c) s)
    module_run m c s h run n cs ss done =
        with_some _ cs ss _ _ _ (find_module m code.modules) refl h
        (λ d is inside go. after_step _ cs ss _ (config (Run (first_in_start code m) d.start ∷ Begin m n c ∷ Close m ∷ cs) (started d ∷ s ∷ ss) done) go
        (let begin = inside (zeros d.state) (zeros_fit d.state) in
        then_comes _ (Begin m n c ∷ Close m ∷ cs) cs (s ∷ ss) ss _ _
        (run_before d.place d.start (started d) (coded.starts m d is) begin.0 (first_in_start code m) (Begin m n c ∷ Close m ∷ cs) (s ∷ ss) done)
        (λ a more x. then_comes _ (Close m ∷ cs) cs ss ss _ _
        (same_step _ (Close m ∷ cs) ss _ (config (Run n c ∷ Close m ∷ cs) (hold true d a.own s ∷ ss) more) (Run n c) (ap (λ z. some_of z (λ d. step_run code n c (Close m ∷ cs) (hold true d a.own s) ss more)) is) refl (run (hold true d a.own s) (begin.1 a x) n (Close m ∷ cs) ss more))
        (λ b last y. in_one _ cs ss _ (hold true d empty b) last (ap (λ z. some_of z (λ d. Ok (config cs (hold true d empty b ∷ ss) last))) is)
        (some_is _ (find_module m code.modules) d is (zeros d.state, a, b, zeros_fit d.state, x, y, refl))))))

    module _ {m : _} (arms : Row_of-Arm m) (loop : Prog) (s : State)
        (bound : (n : ℕ) × ((k : ℕ) (t : State) → Chain (arm_ends E calls before arms) k s t → k ≤ n))
        (runs : (k : ℕ) (t : State) → Chain (arm_ends E calls before arms) k s t → (n : ℕ) → PickRuns arms t (pick n arms t))
        (cs : List Command) (ss : List State) where
      abbrev A : State → State → Type 0
      A = arm_ends E calls before arms

      -- an end of the loop
      abbrev Last : State → Type 0
      Last t = ((n : ℕ) × Chain A n s t) × NoGuard E.library arms t

      -- in the state t the command x is a turn of the loop in the entry e, or its end
      abbrev IsTurn : Command → Entered → State → Type 0
      IsTurn x e t = (done : List Entered) → step_on code x cs (t ∷ ss) done ≡ turned (pick (suc e.loop) arms t) e loop cs (t ∷ ss) done

      turn : (x : Command) (e : Entered) (k : ℕ) (t : State) (done : List Entered) → IsTurn x e t → Chain A k s t
          → ((u : State) (more : List Entered) → A t u → Comes (config (Again (one_more e) loop ∷ cs) (u ∷ ss) more) cs ss Last) → Comes (config (x ∷ cs) (t ∷ ss) done) cs ss Last
      turn x e k t done st ch again = go (pick (suc e.loop) arms t) refl (runs k t ch (suc e.loop))
        where
          go : (y : Pick) → pick (suc e.loop) arms t ≡ y → PickRuns arms t y → Comes (config (x ∷ cs) (t ∷ ss) done) cs ss Last
          go (Took j c) i r = after_step _ cs ss _ (config (Run j c ∷ Again (one_more e) loop ∷ cs) (t ∷ ss) done)
              (st done ∙ ap (λ y. turned y e loop cs (t ∷ ss) done) i)
              (then_comes _ (Again (one_more e) loop ∷ cs) cs ss ss _ _ (r j (Again (one_more e) loop ∷ cs) ss done) again)
          go None_true i r = in_one _ cs ss _ t (e ∷ done) (st done ∙ ap (λ y. turned y e loop cs (t ∷ ss) done) i) ((k, ch), r)
          go (Stopped w) i r = too_wide _ cs ss _ w (st done ∙ ap (λ y. turned y e loop cs (t ∷ ss) done) i) r

      -- r turns are left at most
      turns : ((e : Entered) (t : State) → IsTurn (Again e loop) e t) → (r k : ℕ) (x : Command) (e : Entered) (t : State) (done : List Entered) → IsTurn x e t
          → k + r ≡ bound.0 → Chain A k s t → Comes (config (x ∷ cs) (t ∷ ss) done) cs ss Last
      turns st zero k x e t done is i ch = turn x e k t done is ch (λ u more y. let l = bound.1 (suc k) u (t, ch, y) in absurd (omega (arith, l, i)))
      turns st (suc r) k x e t done is i ch = turn x e k t done is ch (λ u more y. turns st r (suc k) (Again (one_more e) loop) (one_more e) u more (st (one_more e) u) (omega (arith, i)) (t, ch, y))

    mutual
      run_prog : (c : Prog) → is_code c ≡ true → (s : State) → S c s → Does c s (N c s)
      run_prog (Spec w) i s h = absurd (cc)
      run_prog (Kid n) i s h = absurd (cc)
      run_prog Skip i s h = λ n cs ss done. in_one _ cs ss _ s done refl refl
      run_prog (Assign xs es) i s h = assign_run xs es s h
      run_prog (Seq c d) i s h = let j = both_true (is_code c) (is_code d) i in seq_run c d s (run_prog c j.0 s h.0) (λ m e. run_prog d j.1 m (h.1 m e))
      run_prog (If' shape arms) i s h = if_run arms s (If' shape arms) (λ n cs ss done. refl) h.1 (λ n. run_arms arms i s h.0 h.2 n)
      run_prog (Do' v shape arms) i s h = λ n cs ss done.
          turns arms (Do' v shape arms) s (h.0.0, h.0.1) (λ k t ch. run_arms arms (both_true (is_plain v) (are_code arms) i).1 t (h.1 k t ch).0 (h.1 k t ch).1) cs ss
          (λ e t done. refl) h.0.0 0 (Run n (Do' v shape arms)) (entered n v s) s done (λ done. refl) (omega arith) refl
      run_prog (Block x sort c) i s h = block_run x sort c s (λ v hv. run_prog c i _ (h v hv))
      run_prog (Con pins c) i s h = absurd (cc)
      run_prog (Call f args names) i s h = call_run f args names s h
      run_prog (OpCall m o args names) i s h = op_run m o args names s h
      run_prog (ModBlock m c) i s h = module_run m c s h (λ t. run_prog c i t)

      run_arms : {m : _} (arms : Row_of-Arm m) → are_code arms ≡ true → (s : State) → GuardsDefined arms s → arms_sure E calls before arms s → (n : ℕ) → PickRuns arms s (pick n arms s)
      run_arms end_of-Arm i s d h n = tt
      run_arms (more_of-Arm g c rest) i s d h n =
          let j = both_true (is_guard g) (is_code c && are_code rest) i in
          let k = both_true (is_code c) (are_code rest) j.1 in
          arm_runs g c rest n (n + loops c) s (λ hg. run_prog c k.0 s (h.0 hg)) d.0 j.0 (run_arms rest k.1 s d.1 h.1 (n + loops c))

  module _ (coded : BodiesAreCode code) where
    either_run : (a b : Bodies) → RunsBodies a → RunsBodies b → RunsBodies (either a b)
    either_run a b ra rb q c s i (inl h) = does_as c s _ _ (λ t e. inl e) (ra q c s i h)
    either_run a b ra rb q c s i (inr h) = does_as c s _ _ (λ t e. inr e) (rb q c s i h)

    own_run : (p : ℕ) → RunsBodies (bodies_before E p) → (k : ℕ) → RunsBodies (own_bodies E (bodies_before E p) p k)
    own_run p rb zero q c s i h = absurd h
    own_run p rb (suc k) q c s i h = does_as c s _ _ (λ t e. (h.0, e))
        (run_prog coded (bodies E p k) (bodies_before E p) (either_run _ _ (own_run p rb k) rb) rb c i s h.1)

    before_run : (p : ℕ) → RunsBodies (bodies_before E p)
    before_run zero q c s i h = absurd h
    before_run (suc p) q c s i (inl h) = does_as c s _ _ (λ t e. inl e) (before_run p q c s i h)
    before_run (suc p) q c s i (inr h) = does_as c s _ _ (λ t e. inr (h.0, (h.1.0, e)))
        (run_prog coded (bodies E p h.1.0) (bodies_before E p) (either_run _ _ (own_run p (before_run p) h.1.0) (before_run p)) (before_run p) c i s h.1.1)

    -- from a sure state a program runs to an end
    pub sure_runs : (p k : ℕ) (c : Prog) → is_code c ≡ true → (s : State) → Sure E p k c s → Does c s (MayEnd E p k c s)
    sure_runs p k c i s h = run_prog coded (bodies E p k) (bodies_before E p) (either_run _ _ (own_run p (before_run p) k) (before_run p)) (before_run p) c i s h
