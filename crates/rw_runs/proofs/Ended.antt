-- A run that has ended stands at an end of the program, whether or not it was sure.
use Rattle.std.proofs.Common.{◌≡◌, refl, sym, ap, subst, ◌∙◌, ℕ, zero, suc, ◌+◌, ◌≤◌, ◌<◌, Bool, true, false, ◌&&◌, List, [], ◌∷◌, Option, Some, None, inl, inr, arith}
use Rattle.std.specs.Prelude.{Result, Ok, Err}
use Rattle.rw_terms.specs.declared.term.Sort.{Sort}
use Rattle.rw_terms.specs.declared.term.Term.{Term}
use Rattle.rw_terms.specs.State.{Value}
use Rattle.rw_terms.specs.Defined.{GuardDefined}
use Rattle.rw_programs.specs.declared.prog.Code.{Code}
use Rattle.rw_programs.specs.declared.prog.Prog.{Prog, Spec, Kid, Skip, Assign, If', Do', Call, OpCall, Row_of-Arm, end_of-Arm, more_of-Arm}
use Rattle.rw_programs.specs.Made.{Seq, Block, Con, ModBlock}
use Rattle.rw_programs.specs.State.{Name, State, empty, Holds, put, put_all, with_own}
use Rattle.rw_programs.specs.Tables.{Table, find_proc, find_module, returned, held, hold}
use Rattle.rw_programs.specs.CodeTest.{is_plain, is_guard, is_code, are_code}
use Rattle.rw_programs.specs.Meaning.{values, AllDefined, NoGuard, Chain, bodies, bodies_before, arm_ends, MayEnd}
use Rattle.rw_meaning.proofs.Grow.{ends_before}
use Rattle.rw_evaluation.specs.declared.stop.Stop.{Stop}
use Rattle.rw_evaluation.specs.Evaluation.{one, all_seen, tested}
use Rattle.rw_runs.specs.Ends.{table_of}
use Rattle.rw_numbering.specs.Loops.{loops, first_in_proc, first_in_start, first_in_operation}
use Rattle.rw_machine.specs.Machine.{Entered, entered, one_more, Command, Run, Again, Leave, Return, Give_back, Begin, Close, Config, config, Stepped, Pick, Took, None_true, Stopped, pick_by, pick, chosen, turned, some_of, step_run, step}
use Rattle.rw_frames.specs.Bodies.{zero_of, zeros, begun, started}
use Rattle.rw_machine.specs.Outcome.{steps}
use Rattle.rw_runs.proofs.Landing.{BodiesAreCode, CallsBelow, ArmsCallBelow, BodiesInOrder}
use Rattle.rw_evaluation.specs.Laws.{TestRight}
use Rattle.rw_evaluation.proofs.Evaluations.{guard_right, AllRight, terms_right, both_true}
use Rattle.rw_runs.proofs.Runs.{zero_has_sort, zeros_fit, some_is, begun_begins}

chain_front : (R : State → State → Type 0) (k : ℕ) (s t u : State) → R s t → Chain R k t u → Chain R (suc k) s u
chain_front R zero s t u r e = (s, refl, subst (R s) e r)
chain_front R (suc k) s t u r e = (e.0, chain_front R k s t e.0 r e.1, e.2)

-- told apart by what is left to do
abbrev HasNone : List Command → Type 0
HasNone [] = Unit {0}
HasNone (c ∷ cs) = ⊥

abbrev IsDone : Stepped → Type 0
IsDone (Ok c) = HasNone c.commands
IsDone (Err e) = ⊥

abbrev stack_of : Stepped → List State
stack_of (Ok c) = c.stack
stack_of (Err w) = []

module _ (by : Bool) (code : Code) (coded : BodiesAreCode code) (order : BodiesInOrder code) where
  abbrev E : Table
  E = table_of by code

  abbrev Steps : ℕ → Config → Stepped
  Steps = steps code

  abbrev Ends : Stepped → List State → List Entered → Type 0
  Ends x f g = x ≡ Ok (config [] f g)

  -- within n steps the program behind the first command was begun, at an end of the first
  record Split (n p : ℕ) (c : Prog) (s : State) (cs : List Command) (ss f : List State) (g : List Entered) : Type 0 where
    left : ℕ
    at : State
    over : List Entered
    fewer : left < n
    ended : MayEnd E p 0 c s at
    rest : Ends (Steps left (config cs (at ∷ ss) over)) f g

  not_done : {A : Type 0} (x : Stepped) (f : List State) (g : List Entered) → (IsDone x → ⊥) → Ends x f g → A
  not_done x f g never e = absurd (never (subst IsDone (sym e) tt))

  -- what is left has a first step
  first : (m : ℕ) (c : Command) (cs : List Command) (ss f : List State) (done g : List Entered) → Ends (Steps m (config (c ∷ cs) ss done)) f g
      → (n : ℕ) × (m ≡ suc n) × Ends (one (step code (config (c ∷ cs) ss done)) (Steps n)) f g
  first zero c cs ss f done g e = not_done _ f g (λ h. h) e
  first (suc n) c cs ss f done g e = (n, refl, e)

  -- what was picked
  abbrev Chose : {m : _} → ℕ → Row_of-Arm m → State → Pick → Type 0
  Chose p arms s (Took i c) = (is_code c ≡ true) × CallsBelow code p c × ((t : State) → MayEnd E p 0 c s t → arm_ends E (bodies E p 0) (bodies_before E p) arms s t)
  Chose p arms s None_true = NoGuard E.library arms s
  Chose p arms s (Stopped w) = Unit {0}

  chose : {m : _} (p i : ℕ) (arms : Row_of-Arm m) (s : State) → are_code arms ≡ true → ArmsCallBelow code p arms → Chose p arms s (pick i arms s)
  chose p i end_of-Arm s ic l = tt
  chose p i (more_of-Arm g c rest) s ic l = go (tested s.own g) (guard_right E.library s.own g both.0) (pick (i + loops c) rest s) (chose p (i + loops c) rest s parts.1 l.1)
    where
      both : (is_guard g ≡ true) × ((is_code c && are_code rest) ≡ true)
      both = both_true (is_guard g) (is_code c && are_code rest) ic

      parts : (is_code c ≡ true) × (are_code rest ≡ true)
      parts = both_true (is_code c) (are_code rest) both.1

      go : (x : Result Bool Stop) → TestRight x (Holds E.library g s s) (GuardDefined s.own s.own g) → (y : Pick) → Chose p rest s y → Chose p (more_of-Arm g c rest) s (pick_by x i c y)
      go (Ok true) h y r = (parts.0, l.0, λ t n. inl (h, n))
      go (Ok false) h (Took j d) r = (r.0, r.1, λ t n. inr (r.2 t n))
      go (Ok false) h None_true r = (h, r)
      go (Ok false) h (Stopped w) r = tt
      go (Err w) h y r = tt

  abbrev RunSplits : ℕ → Type 0
  RunSplits n = (p i : ℕ) (c : Prog) (s : State) (cs : List Command) (ss f : List State) (done g : List Entered) → is_code c ≡ true → CallsBelow code p c
      → Ends (Steps n (config (Run i c ∷ cs) (s ∷ ss) done)) f g → Split n p c s cs ss f g

  abbrev LoopSplits : ℕ → Type 0
  LoopSplits n = (p : ℕ) (e : Entered) (c : Prog) (s : State) (cs : List Command) (ss f : List State) (done g : List Entered) → is_code c ≡ true → CallsBelow code p c
      → Ends (Steps n (config (Again e c ∷ cs) (s ∷ ss) done)) f g → Split n p c s cs ss f g

  -- one step more, where all shorter runs split
  module _ (n : ℕ) (shorter : (m : ℕ) → m ≤ n → RunSplits m × LoopSplits m) (p : ℕ) where
    evaluated_split : (c : Prog) (s : State) (cs : List Command) (ss f : List State) (g : List Entered) (ts : List Term) (k : List (Option Value) → Stepped)
        → Ends (one (one (all_seen s.own ts) k) (Steps n)) f g → ((vs : List (Option Value)) → vs ≡ values ts s → Ends (one (k vs) (Steps n)) f g → Split (suc n) p c s cs ss f g) → Split (suc n) p c s cs ss f g
    evaluated_split c s cs ss f g ts k e go = on (all_seen s.own ts) (terms_right s ts) e
      where
        on : (x : Result (List (Option Value)) Stop) → AllRight x (values ts s) (AllDefined ts s) → Ends (one (one x k) (Steps n)) f g → Split (suc n) p c s cs ss f g
        on (Ok vs) r e = go vs r e
        on (Err w) r e = not_done _ f g (λ h. h) e

    some_split : {A : Type 0} (c : Prog) (s : State) (cs : List Command) (ss f : List State) (g : List Entered) (o : Option A) (k : A → Stepped)
        → Ends (one (some_of o k) (Steps n)) f g → ((a : A) → o ≡ Some a → Ends (one (k a) (Steps n)) f g → Split (suc n) p c s cs ss f g) → Split (suc n) p c s cs ss f g
    some_split c s cs ss f g None k e go = not_done _ f g (λ h. h) e
    some_split c s cs ss f g (Some a) k e go = go a refl e

    seq_split : (i : ℕ) (c d : Prog) (s : State) (cs : List Command) (ss f : List State) (done g : List Entered) → (is_code c ≡ true) × (is_code d ≡ true) → CallsBelow code p c × CallsBelow code p d
        → Ends (Steps n (config (Run i c ∷ Run (i + loops c) d ∷ cs) (s ∷ ss) done)) f g → Split (suc n) p (Seq c d) s cs ss f g
    seq_split i c d s cs ss f done g ic l e =
        let a = (shorter n (omega arith)).0 p i c s (Run (i + loops c) d ∷ cs) ss f done g ic.0 l.0 e in
        let b = (shorter a.left (omega (arith, a.fewer))).0 p (i + loops c) d a.at cs ss f a.over g ic.1 l.1 a.rest in
        record { left = b.left; at = b.at; over = b.over; fewer = omega (arith, a.fewer, b.fewer); ended = (a.at, a.ended, b.ended); rest = b.rest }

    if_split : {m : _} (c : Prog) (arms : Row_of-Arm m) (s : State) (cs : List Command) (ss f : List State) (done g : List Entered)
        → ((t : State) → arm_ends E (bodies E p 0) (bodies_before E p) arms s t → MayEnd E p 0 c s t) → (y : Pick) → Chose p arms s y
        → Ends (one (chosen y cs (s ∷ ss) done) (Steps n)) f g → Split (suc n) p c s cs ss f g
    if_split c arms s cs ss f done g to (Took i d) r e =
        let a = (shorter n (omega arith)).0 p i d s cs ss f done g r.0 r.1 e in
        record { left = a.left; at = a.at; over = a.over; fewer = omega (arith, a.fewer); ended = to a.at (r.2 a.at a.ended); rest = a.rest }
    if_split c arms s cs ss f done g to None_true r e = not_done _ f g (λ h. h) e
    if_split c arms s cs ss f done g to (Stopped w) r e = not_done _ f g (λ h. h) e

    do_split : {m : _} (loop : Prog) (arms : Row_of-Arm m) (e : Entered) (s : State) (cs : List Command) (ss f : List State) (done g : List Entered)
        → is_code loop ≡ true → CallsBelow code p loop
        → ((s t : State) → ((k : ℕ) × Chain (arm_ends E (bodies E p 0) (bodies_before E p) arms) k s t) × NoGuard E.library arms t → MayEnd E p 0 loop s t)
        → ((s t : State) → MayEnd E p 0 loop s t → ((k : ℕ) × Chain (arm_ends E (bodies E p 0) (bodies_before E p) arms) k s t) × NoGuard E.library arms t)
        → (y : Pick) → Chose p arms s y → Ends (one (turned y e loop cs (s ∷ ss) done) (Steps n)) f g → Split (suc n) p loop s cs ss f g
    do_split loop arms e s cs ss f done g ic l to from (Took i c) r h =
        let a = (shorter n (omega arith)).0 p i c s (Again (one_more e) loop ∷ cs) ss f done g r.0 r.1 h in
        let b = (shorter a.left (omega (arith, a.fewer))).1 p (one_more e) loop a.at cs ss f a.over g ic l a.rest in
        let more = from a.at b.at b.ended in
        record {
          left = b.left;
          at = b.at;
          over = b.over;
          fewer = omega (arith, a.fewer, b.fewer);
          ended = to s b.at ((suc more.0.0, chain_front _ more.0.0 s a.at b.at (r.2 a.at a.ended) more.0.1), more.1);
          rest = b.rest;
        }
    do_split loop arms e s cs ss f done g ic l to from None_true r h = record { left = n; at = s; over = e ∷ done; fewer = omega arith; ended = to s s ((0, refl), r); rest = h }
    do_split loop arms e s cs ss f done g ic l to from (Stopped w) r h = not_done _ f g (λ h. h) h

    block_split : (i : ℕ) (x : Name) (sort : Sort) (c : Prog) (s : State) (cs : List Command) (ss f : List State) (done g : List Entered) → is_code c ≡ true → CallsBelow code p c
        → Ends (Steps n (config (Run i c ∷ Leave x ∷ cs) (with_own s (put x (Some (zero_of sort)) s.own) ∷ ss) done)) f g → Split (suc n) p (Block x sort c) s cs ss f g
    block_split i x sort c s cs ss f done g ic l e =
        let a = (shorter n (omega arith)).0 p i c _ (Leave x ∷ cs) ss f done g ic l e in
        let b = first a.left (Leave x) cs (a.at ∷ ss) f a.over g a.rest in
        record {
          left = b.0;
          at = with_own a.at (put x None a.at.own);
          over = a.over;
          fewer = omega (arith, a.fewer, b.1);
          ended = (zero_of sort, a.at, zero_has_sort sort, a.ended, refl);
          rest = b.2;
        }

    call_split : (h : Name) (args : List Term) (names : List Name) (s : State) (cs : List Command) (ss f : List State) (done g : List Entered) → CallsBelow code p (Call h args names)
        → Ends (one (one (all_seen s.own args) (λ vs. some_of (find_proc h code.procs) (λ e. Ok (config (Run (first_in_proc code h) e.body ∷ Return h names ∷ cs) (begun empty e vs ∷ s ∷ ss) done)))) (Steps n)) f g
        → Split (suc n) p (Call h args names) s cs ss f g
    call_split h args names s cs ss f done g l run =
        evaluated_split _ s cs ss f g args _ run
        (λ vs i run. some_split _ s cs ss f g (find_proc h code.procs) _ run
        (λ e found run.
        let a = (shorter n (omega arith)).0 e.place (first_in_proc code h) e.body _ (Return h names ∷ cs) (s ∷ ss) f done g (coded.procs h e found) (order.procs h e found) run in
        let b = first a.left (Return h names) cs (a.at ∷ s ∷ ss) f a.over g a.rest in
        record {
          left = b.0;
          at = returned e names a.at s;
          over = a.over;
          fewer = omega (arith, a.fewer, b.1);
          ended = some_is _ (find_proc h code.procs) e found (begun empty e vs, a.at, begun_begins empty e vs (values args s) i, inr (ends_before E p e.place e.body _ a.at (l e found) (0, a.ended)), refl);
          rest = subst (λ z. Ends (one (some_of z (λ e. Ok (config cs (returned e names a.at s ∷ ss) a.over))) (Steps b.0)) f g) found b.2;
        }))

    op_split : (m o : Name) (args : List Term) (names : List Name) (s : State) (cs : List Command) (ss f : List State) (done g : List Entered) → CallsBelow code p (OpCall m o args names)
        → Ends (one (one (all_seen s.own args) (λ vs. some_of (find_module m code.modules) (λ d. some_of (find_proc o d.operations) (λ e.
        Ok (config (Run (first_in_operation code m d o) e.body ∷ Give_back m o names ∷ cs) (begun (held true d s) e vs ∷ s ∷ ss) done))))) (Steps n)) f g
        → Split (suc n) p (OpCall m o args names) s cs ss f g
    op_split m o args names s cs ss f done g l run =
        evaluated_split _ s cs ss f g args _ run
        (λ vs i run. some_split _ s cs ss f g (find_module m code.modules) _ run
        (λ d is run. some_split _ s cs ss f g (find_proc o d.operations) _ run
        (λ e found run.
        let a = (shorter n (omega arith)).0 d.place (first_in_operation code m d o) e.body _ (Give_back m o names ∷ cs) (s ∷ ss) f done g (coded.operations m d is o e found) (order.operations m d is o e found) run in
        let b = first a.left (Give_back m o names) cs (a.at ∷ s ∷ ss) f a.over g a.rest in
        record {
          left = b.0;
          at = hold true d a.at.own (returned e names a.at s);
          over = a.over;
          fewer = omega (arith, a.fewer, b.1);
          ended = some_is _ (find_module m code.modules) d is (some_is _ (find_proc o d.operations) e found
              (begun (held true d s) e vs, a.at, begun_begins (held true d s) e vs (values args s) i, ends_before E p d.place e.body _ a.at (l d is) (0, a.ended), refl));
          rest = subst (λ z. Ends (one (some_of z (λ e. Ok (config cs (hold true d a.at.own (returned e names a.at s) ∷ ss) a.over))) (Steps b.0)) f g) found
              (subst (λ z. Ends (one (some_of z (λ d. some_of (find_proc o d.operations) (λ e. Ok (config cs (hold true d a.at.own (returned e names a.at s) ∷ ss) a.over)))) (Steps b.0)) f g) is b.2);
        })))

    module_split : (i : ℕ) (m : Name) (c : Prog) (s : State) (cs : List Command) (ss f : List State) (done g : List Entered) → is_code c ≡ true → CallsBelow code p (ModBlock m c)
        → Ends (one (some_of (find_module m code.modules) (λ d. Ok (config (Run (first_in_start code m) d.start ∷ Begin m i c ∷ Close m ∷ cs) (started d ∷ s ∷ ss) done))) (Steps n)) f g
        → Split (suc n) p (ModBlock m c) s cs ss f g
    module_split i m c s cs ss f done g ic l run =
        some_split _ s cs ss f g (find_module m code.modules) _ run
        (λ d is run.
        let a = (shorter n (omega arith)).0 d.place (first_in_start code m) d.start _ (Begin m i c ∷ Close m ∷ cs) (s ∷ ss) f done g (coded.starts m d is) (order.starts m d is) run in
        let b = first a.left (Begin m i c) (Close m ∷ cs) (a.at ∷ s ∷ ss) f a.over g a.rest in
        let k = (shorter (suc b.0) (omega (arith, a.fewer, b.1))).0 p i c (hold true d a.at.own s) (Close m ∷ cs) ss f a.over g ic l.1 (subst (λ z. Ends (one (some_of z (λ d. step_run code i c (Close m ∷ cs) (hold true d a.at.own s) ss a.over)) (Steps b.0)) f g) is b.2) in
        let z = first k.left (Close m) cs (k.at ∷ ss) f k.over g k.rest in
        record {
          left = z.0;
          at = hold true d empty k.at;
          over = k.over;
          fewer = omega (arith, a.fewer, b.1, k.fewer, z.1);
          ended = some_is _ (find_module m code.modules) d is (zeros d.state, a.at, k.at, zeros_fit d.state, ends_before E p d.place d.start _ a.at (l.0 d is) (0, a.ended), k.ended, refl);
          rest = subst (λ o. Ends (one (some_of o (λ d. Ok (config cs (hold true d empty k.at ∷ ss) k.over))) (Steps z.0)) f g) is z.2;
        })

  one_more_run : (n : ℕ) → ((m : ℕ) → m ≤ n → RunSplits m × LoopSplits m) → RunSplits (suc n)
  one_more_run n shorter p i (Spec w) s cs ss f done g ic l e = absurd (cc)
  one_more_run n shorter p i (Kid k) s cs ss f done g ic l e = absurd (cc)
  one_more_run n shorter p i Skip s cs ss f done g ic l e = record { left = n; at = s; over = done; fewer = omega arith; ended = refl; rest = e }
  one_more_run n shorter p i (Assign xs es) s cs ss f done g ic l e =
      evaluated_split n shorter p _ s cs ss f g es _ e
      (λ vs j e. record { left = n; at = with_own s (put_all xs vs s.own); over = done; fewer = omega arith; ended = ap (λ vs. with_own s (put_all xs vs s.own)) j; rest = e })
  one_more_run n shorter p i (Seq c d) s cs ss f done g ic l e = seq_split n shorter p i c d s cs ss f done g (both_true (is_code c) (is_code d) ic) l e
  one_more_run n shorter p i (If' shape arms) s cs ss f done g ic l e = if_split n shorter p (If' shape arms) arms s cs ss f done g (λ t h. h) (pick i arms s) (chose p i arms s ic l) e
  one_more_run n shorter p i (Do' v shape arms) s cs ss f done g ic l e =
      do_split n shorter p (Do' v shape arms) arms (entered i v s) s cs ss f done g ic l (λ s t h. h) (λ s t h. h) (pick (suc i) arms s) (chose p (suc i) arms s (both_true (is_plain v) (are_code arms) ic).1 l) e
  one_more_run n shorter p i (Block x sort c) s cs ss f done g ic l e = block_split n shorter p i x sort c s cs ss f done g ic l e
  one_more_run n shorter p i (Con pins c) s cs ss f done g ic l e = absurd (cc)
  one_more_run n shorter p i (Call h args names) s cs ss f done g ic l e = call_split n shorter p h args names s cs ss f done g l e
  one_more_run n shorter p i (OpCall m o args names) s cs ss f done g ic l e = op_split n shorter p m o args names s cs ss f done g l e
  one_more_run n shorter p i (ModBlock m c) s cs ss f done g ic l e = module_split n shorter p i m c s cs ss f done g ic l e

  one_more_again : (n : ℕ) → ((m : ℕ) → m ≤ n → RunSplits m × LoopSplits m) → LoopSplits (suc n)
  one_more_again n shorter p en (Do' v shape arms) s cs ss f done g ic l e =
      do_split n shorter p (Do' v shape arms) arms en s cs ss f done g ic l (λ s t h. h) (λ s t h. h) (pick (suc en.loop) arms s) (chose p (suc en.loop) arms s (both_true (is_plain v) (are_code arms) ic).1 l) e
  one_more_again n shorter p en c s cs ss f done g ic l e = not_done _ f g (λ h. h) e

  splits : (bound m : ℕ) → m ≤ bound → RunSplits m × LoopSplits m
  splits bound zero le = (λ p i c s cs ss f done g ic l e. not_done _ f g (λ h. h) e, λ p en c s cs ss f done g ic l e. not_done _ f g (λ h. h) e)
  splits zero (suc m) le = absurd (omega (arith, le))
  splits (suc bound) (suc m) le =
      let shorter : (k : ℕ) → k ≤ m → RunSplits k × LoopSplits k = λ k lk. splits bound k (omega (arith, le, lk)) in
      (one_more_run m shorter, one_more_again m shorter)

  stays : (n : ℕ) (ss : List State) (done : List Entered) → Steps n (config [] ss done) ≡ Ok (config [] ss done)
  stays zero ss done = refl
  stays (suc n) ss done = stays n ss done

  pub ended_is_end : (p i : ℕ) (c : Prog) (s : State) (n : ℕ) (f : List State) (g : List Entered) → is_code c ≡ true → CallsBelow code p c
      → Ends (Steps n (config (Run i c ∷ []) (s ∷ []) [])) f g → (t : State) × MayEnd E p 0 c s t × (f ≡ t ∷ [])
  ended_is_end p i c s n f g ic l e =
      let a = (splits n n (omega arith)).0 p i c s [] [] f [] g ic l e in
      (a.at, a.ended, ap stack_of (sym a.rest ∙ stays a.left (a.at ∷ []) a.over))
