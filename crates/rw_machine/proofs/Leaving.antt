-- In each configuration of a run the names that a body is to leave with values have values, and as many states stand as are to.
use Rattle.std.proofs.Common.{◌≡◌, refl, sym, ap, subst, ◌∙◌, ℕ, zero, suc, ◌+◌, Bool, true, false, true≢false, ◌||◌, if◌then◌else◌, List, [], ◌∷◌, length, Option, Some, None, arith}
use Rattle.std.specs.Prelude.{bytes_eq, is_some, Result, Ok, Err}
use Rattle.rw_terms.specs.declared.term.Term.{Term}
use Rattle.rw_terms.specs.State.{Value, State as Map}
use Rattle.rw_programs.specs.declared.prog.Param.{Param}
use Rattle.rw_programs.specs.declared.prog.ProcCode.{ProcCode}
use Rattle.rw_programs.specs.declared.prog.ModCode.{ModCode}
use Rattle.rw_programs.specs.declared.prog.Code.{Code}
use Rattle.rw_programs.specs.declared.prog.Prog.{Prog, Spec, Kid, Skip, Assign, If', Do', Call, OpCall, Row_of-Arm, end_of-Arm, more_of-Arm}
use Rattle.rw_programs.specs.Made.{Seq, Block, Con, ModBlock}
use Rattle.rw_programs.specs.State.{Name, State, empty, is_in, put, put_all, read_all, names_of}
use Rattle.rw_programs.specs.Tables.{find_proc, find_module, returned, held, hold}
use Rattle.rw_meaning.proofs.Tests.{same_bytes, bytes_same}
use Rattle.rw_evaluation.specs.declared.stop.Stop.{Stop}
use Rattle.rw_evaluation.specs.Evaluation.{Seen, one, two, seen, all_seen, tested}
use Rattle.rw_numbering.specs.Loops.{loops}
use Rattle.rw_machine.specs.Machine.{Entered, entered, Command, Run, Again, Leave, Return, Give_back, Begin, Close, Config, Stepped, Pick, Took, None_true, Stopped, pick_by, pick, chosen, turned, some_of, step_run, step_again, step_by, step}
use Rattle.rw_frames.specs.Bodies.{zero_of, zeros, begun}
use Rattle.rw_machine.specs.Outcome.{steps}

-- each of the names has a value
abbrev pub Has : List Name → Map → Type 0
Has xs m = (x : Name) → is_in x xs ≡ true → is_some (m x) ≡ true

-- each is there
abbrev pub AllThere : List (Option Value) → Type 0
AllThere [] = Unit {0}
AllThere (Some v ∷ vs) = AllThere vs
AllThere (None ∷ vs) = ⊥

put_has : (xs : List Name) (x : Name) (v : Value) (m : Map) → Has xs m → Has xs (put x (Some v) m)
put_has xs x v m h y i = go (bytes_eq y x) (h y i)
  where
    go : (b : Bool) → is_some (m y) ≡ true → is_some (if b then Some v else m y) ≡ true
    go true k = refl
    go false k = k

gone_has : (xs : List Name) (x : Name) (m : Map) → is_in x xs ≡ false → Has xs m → Has xs (put x None m)
gone_has xs x m out h y i = go (bytes_eq y x) refl (h y i)
  where
    go : (b : Bool) → bytes_eq y x ≡ b → is_some (m y) ≡ true → is_some (if b then None else m y) ≡ true
    go true e k = absurd (true≢false (sym i ∙ ap (λ z. is_in z xs) (same_bytes y x e) ∙ out))
    go false e k = k

all_has : (xs names : List Name) (vs : List (Option Value)) (m : Map) → length names ≡ length vs → AllThere vs → Has xs m → Has xs (put_all names vs m)
all_has xs [] vs m l t h = h
all_has xs (n ∷ names) [] m l t h = absurd (omega (arith, l))
all_has xs (n ∷ names) (Some v ∷ vs) m l t h = put_has xs n v (put_all names vs m) (all_has xs names vs m (omega (arith, l)) t h)
all_has xs (n ∷ names) (None ∷ vs) m l t h = absurd t

pub set_has : (names : List Name) (vs : List (Option Value)) (m : Map) → length names ≡ length vs → AllThere vs → Has names (put_all names vs m)
set_has [] vs m l t y i = absurd (true≢false (sym i))
set_has (n ∷ names) [] m l t y i = absurd (omega (arith, l))
set_has (n ∷ names) (Some v ∷ vs) m l t y i = go (bytes_eq y n) i (set_has names vs m (omega (arith, l)) t y)
  where
    go : (b : Bool) → (b || is_in y names) ≡ true → (is_in y names ≡ true → is_some (put_all names vs m y) ≡ true) → is_some (if b then Some v else put_all names vs m y) ≡ true
    go true i f = refl
    go false i f = f i
set_has (n ∷ names) (None ∷ vs) m l t y i = absurd t

-- what is read of names that have values is there
read_there : (ps : List Param) (m : Map) → Has (names_of ps) m → AllThere (read_all (names_of ps) m)
read_there [] m h = tt
read_there (p ∷ ps) m h = go (m p.name) (h p.name (own p.name (names_of ps))) (read_there ps m (λ x i. h x (more x p.name (names_of ps) i)))
  where
    own : (x : Name) (xs : List Name) → is_in x (x ∷ xs) ≡ true
    own x xs = ap (λ b. b || is_in x xs) (bytes_same x x refl)

    more : (x y : Name) (xs : List Name) → is_in x xs ≡ true → is_in x (y ∷ xs) ≡ true
    more x y xs i = or (bytes_eq x y) i
      where
        or : (b : Bool) → is_in x xs ≡ true → (b || is_in x xs) ≡ true
        or true i = refl
        or false i = i

    go : (o : Option Value) → is_some o ≡ true → AllThere (read_all (names_of ps) m) → AllThere (o ∷ read_all (names_of ps) m)
    go None e t = absurd (true≢false (sym e))
    go (Some v) e t = t

zeros_there : (ps : List Param) → AllThere (zeros ps)
zeros_there [] = tt
zeros_there (p ∷ ps) = zeros_there ps

zeros_length : (ps : List Param) → length (names_of ps) ≡ length (zeros ps)
zeros_length [] = refl
zeros_length (p ∷ ps) = ap suc (zeros_length ps)

read_length : (ps : List Param) (m : Map) → length (read_all (names_of ps) m) ≡ length ps
read_length [] m = refl
read_length (p ∷ ps) m = ap suc (read_length ps m)

-- what is seen of terms: as many values as terms
abbrev SeenAll : List Term → Result (List (Option Value)) Stop → Type 0
SeenAll ts (Ok vs) = (length ts ≡ length vs) × AllThere vs
SeenAll ts (Err w) = Unit {0}

seen_there : (m : Map) (ts : List Term) → SeenAll ts (all_seen m ts)
seen_there m [] = (refl, tt)
seen_there m (t ∷ ts) = go (seen m t) (all_seen m ts) (seen_there m ts)
  where
    go : (a : Seen) (r : Result (List (Option Value)) Stop) → SeenAll ts r → SeenAll (t ∷ ts) (two a r (λ v vs. Ok (Some v ∷ vs)))
    go (Ok v) (Ok vs) h = (ap suc h.0, h.1)
    go (Ok v) (Err w) h = tt
    go (Err w) r h = tt

module _ (code : Code) where
  abbrev mutual
    -- no local of the program is one of the names, and each assignment and call sets as many names as it has values for
    pub Leaves : List Name → Prog → Type 0
    Leaves xs (Spec w) = Unit {0}
    Leaves xs (Kid n) = Unit {0}
    Leaves xs Skip = Unit {0}
    Leaves xs (Assign names terms) = length names ≡ length terms
    Leaves xs (Seq c d) = Leaves xs c × Leaves xs d
    Leaves xs (If' shape arms) = ArmsLeave xs arms
    Leaves xs (Do' variant shape arms) = ArmsLeave xs arms
    Leaves xs (Block x sort c) = (is_in x xs ≡ false) × Leaves xs c
    Leaves xs (Con pins c) = Unit {0}
    Leaves xs (Call f args names) = (e : ProcCode) → find_proc f code.procs ≡ Some e → length names ≡ length e.results
    Leaves xs (OpCall m o args names) =
        (d : ModCode) → find_module m code.modules ≡ Some d → (e : ProcCode) → find_proc o d.operations ≡ Some e → length names ≡ length e.results
    Leaves xs (ModBlock m c) = Leaves xs c

    pub ArmsLeave : {m : _} → List Name → Row_of-Arm m → Type 0
    ArmsLeave xs end_of-Arm = Unit {0}
    ArmsLeave xs (more_of-Arm g c rest) = Leaves xs c × ArmsLeave xs rest

  -- the bodies leave their results
  pub record BodiesLeave : Type 0 where
    pub procs : (f : Name) (e : ProcCode) → find_proc f code.procs ≡ Some e → Leaves (names_of e.results) e.body
    pub starts : (m : Name) (d : ModCode) → find_module m code.modules ≡ Some d → Leaves [] d.start
    pub operations : (m : Name) (d : ModCode) → find_module m code.modules ≡ Some d → (o : Name) (e : ProcCode) → find_proc o d.operations ≡ Some e → Leaves (names_of e.results) e.body

  module _ (globals : List Name) where
    -- the names that each state is to have values for, that of the running body first
    abbrev pub Owed : List Command → List (List Name) → Type 0
    Owed [] ns = ns ≡ globals ∷ []
    Owed (Run n c ∷ cs) (xs ∷ ns) = Leaves xs c × Owed cs (xs ∷ ns)
    Owed (Again e c ∷ cs) (xs ∷ ns) = Leaves xs c × Owed cs (xs ∷ ns)
    Owed (Leave x ∷ cs) (xs ∷ ns) = (is_in x xs ≡ false) × Owed cs (xs ∷ ns)
    Owed (Return f names ∷ cs) (xs ∷ ys ∷ ns) =
        ((e : ProcCode) → find_proc f code.procs ≡ Some e → (xs ≡ names_of e.results) × (length names ≡ length e.results)) × Owed cs (ys ∷ ns)
    Owed (Give_back m o names ∷ cs) (xs ∷ ys ∷ ns) =
        ((d : ModCode) → find_module m code.modules ≡ Some d → (e : ProcCode) → find_proc o d.operations ≡ Some e → (xs ≡ names_of e.results) × (length names ≡ length e.results)) × Owed cs (ys ∷ ns)
    Owed (Begin m n c ∷ cs) (xs ∷ ys ∷ ns) = Leaves ys c × Owed cs (ys ∷ ns)
    Owed (Close m ∷ cs) (xs ∷ ns) = Owed cs (xs ∷ ns)
    Owed (c ∷ cs) ns = ⊥

-- the states have values for these names
abbrev pub Have : List (List Name) → List State → Type 0
Have [] [] = Unit {0}
Have [] (s ∷ ss) = ⊥
Have (xs ∷ ns) [] = ⊥
Have (xs ∷ ns) (s ∷ ss) = Has xs s.own × Have ns ss

module _ (code : Code) (globals : List Name) where
  -- what is owed is there
  pub record Pays (cs : List Command) (ss : List State) : Type 0 where
    pub names : List (List Name)
    pub owed : Owed code globals cs names
    pub have : Have names ss

  abbrev pub After : Stepped → Type 0
  After (Ok c) = Pays c.commands c.stack
  After (Err w) = Unit {0}

  after_seen : (s : State) (ts : List Term) (k : List (Option Value) → Stepped) → ((vs : List (Option Value)) → length ts ≡ length vs → AllThere vs → After (k vs)) → After (one (all_seen s.own ts) k)
  after_seen s ts k f = go (all_seen s.own ts) (seen_there s.own ts)
    where
      go : (x : Result (List (Option Value)) Stop) → SeenAll ts x → After (one x k)
      go (Ok vs) h = f vs h.0 h.1
      go (Err w) h = tt

  after_some : {A : Type 0} (o : Option A) (k : A → Stepped) → ((a : A) → o ≡ Some a → After (k a)) → After (some_of o k)
  after_some None k f = tt
  after_some (Some a) k f = f a refl

  module _ (xs : List Name) where
    abbrev Picked : Pick → Type 0
    Picked (Took i c) = Leaves code xs c
    Picked None_true = Unit {0}
    Picked (Stopped w) = Unit {0}

    picked : {m : _} (n : ℕ) (arms : Row_of-Arm m) (s : State) → ArmsLeave code xs arms → Picked (pick n arms s)
    picked n end_of-Arm s h = tt
    picked n (more_of-Arm g c rest) s h = go (tested s.own g) (pick (n + loops c) rest s) (picked (n + loops c) rest s h.1)
      where
        go : (x : Result Bool Stop) (y : Pick) → Picked y → Picked (pick_by x n c y)
        go (Ok true) y r = h.0
        go (Ok false) y r = r
        go (Err w) y r = tt

  module _ (cs : List Command) (done : List Entered) (xs : List Name) (ns : List (List Name)) (owed : Owed code globals cs (xs ∷ ns)) where
    chosen_after : (y : Pick) (s : State) (ss : List State) → Picked xs y → Has xs s.own → Have ns ss → After (chosen y cs (s ∷ ss) done)
    chosen_after (Took i c) s ss r h k = record { names = xs ∷ ns; owed = (r, owed); have = (h, k) }
    chosen_after None_true s ss r h k = tt
    chosen_after (Stopped w) s ss r h k = tt

    turned_after : (y : Pick) (e : Entered) (loop : Prog) (s : State) (ss : List State) → Leaves code xs loop → Picked xs y → Has xs s.own → Have ns ss → After (turned y e loop cs (s ∷ ss) done)
    turned_after (Took i c) e loop s ss l r h k = record { names = xs ∷ ns; owed = (r, (l, owed)); have = (h, k) }
    turned_after None_true e loop s ss l r h k = record { names = xs ∷ ns; owed = owed; have = (h, k) }
    turned_after (Stopped w) e loop s ss l r h k = tt

    -- a body begins, behind it the return
    begun_has : (m : Map) (e : ProcCode) (vs : List (Option Value)) → Has (names_of e.results) (begun m e vs).own
    begun_has m e vs = set_has (names_of e.results) (zeros e.results) _ (zeros_length e.results) (zeros_there e.results)

    module _ (bodies : BodiesLeave code) where
      run_after : (n : ℕ) (c : Prog) (s : State) (ss : List State) → Leaves code xs c → Has xs s.own → Have ns ss → After (step_run code n c cs s ss done)
      run_after n (Spec w) s ss l h k = tt
      run_after n (Kid j) s ss l h k = tt
      run_after n Skip s ss l h k = record { names = xs ∷ ns; owed = owed; have = (h, k) }
      run_after n (Assign names terms) s ss l h k = after_seen s terms _ (λ vs i t. record { names = xs ∷ ns; owed = owed; have = (all_has xs names vs s.own (l ∙ i) t h, k) })
      run_after n (Seq c d) s ss l h k = record { names = xs ∷ ns; owed = (l.0, (l.1, owed)); have = (h, k) }
      run_after n (If' shape arms) s ss l h k = chosen_after (pick n arms s) s ss (picked xs n arms s l) h k
      run_after n (Do' v shape arms) s ss l h k = turned_after (pick (suc n) arms s) (entered n v s) (Do' v shape arms) s ss l (picked xs (suc n) arms s l) h k
      run_after n (Block x sort c) s ss l h k = record { names = xs ∷ ns; owed = (l.1, (l.0, owed)); have = (put_has xs x (zero_of sort) s.own h, k) }
      run_after n (Con pins c) s ss l h k = tt
      run_after n (Call f args names) s ss l h k = after_seen s args _ (λ vs i t. after_some (find_proc f code.procs) _ (λ e j. record {
        names = names_of e.results ∷ xs ∷ ns;
        owed = (bodies.procs f e j, ((λ a q. let r : e ≡ a = cc in subst (λ a. (names_of e.results ≡ names_of a.results) × (length names ≡ length a.results)) r (refl, l e j)), owed));
        have = (begun_has empty e vs, (h, k));
      }))
      run_after n (OpCall m o args names) s ss l h k =
          after_seen s args _ (λ vs i t. after_some (find_module m code.modules) _ (λ d p. after_some (find_proc o d.operations) _ (λ e j. record {
            names = names_of e.results ∷ xs ∷ ns;
            owed = (bodies.operations m d p o e j, (same d p e j, owed));
            have = (begun_has (held true d s) e vs, (h, k));
          })))
        where
          same : (d : ModCode) → find_module m code.modules ≡ Some d → (e : ProcCode) → find_proc o d.operations ≡ Some e
              → (b : ModCode) → find_module m code.modules ≡ Some b → (a : ProcCode) → find_proc o b.operations ≡ Some a → (names_of e.results ≡ names_of a.results) × (length names ≡ length a.results)
          same d p e j b q a r =
              let i : b ≡ d = cc in
              let r' : find_proc o d.operations ≡ Some a = subst (λ b. find_proc o b.operations ≡ Some a) i r in
              let u : e ≡ a = cc in
              subst (λ a. (names_of e.results ≡ names_of a.results) × (length names ≡ length a.results)) u (refl, l d p e j)
      run_after n (ModBlock m c) s ss l h k = after_some (find_module m code.modules) _ (λ d j. record {
        names = [] ∷ xs ∷ ns;
        owed = (bodies.starts m d j, (l, owed));
        have = ((λ x i. absurd (true≢false (sym i))), (h, k));
      })

      again_after : (e : Entered) (c : Prog) (s : State) (ss : List State) → Leaves code xs c → Has xs s.own → Have ns ss → After (step_again code e c cs s ss done)
      again_after e (Do' v shape arms) s ss l h k = turned_after (pick (suc e.loop) arms s) e (Do' v shape arms) s ss l (picked xs (suc e.loop) arms s l) h k
      again_after e c s ss l h k = tt

  -- what a body gives back
  returned_has : (e : ProcCode) (xs ys names : List Name) (t s : State) → xs ≡ names_of e.results → length names ≡ length e.results → Has xs t.own → Has ys s.own → Has ys (returned e names t s).own
  returned_has e xs ys names t s i l h k =
      all_has ys names (read_all (names_of e.results) t.own) s.own (l ∙ sym (read_length e.results t.own)) (read_there e.results t.own (subst (λ xs. Has xs t.own) i h)) k

  module _ (bodies : BodiesLeave code) where
    step_after : (cs : List Command) (ss : List State) (done : List Entered) (ns : List (List Name)) → Owed code globals cs ns → Have ns ss → After (step_by code cs ss done)
    step_after [] ss done ns o h = record { names = ns; owed = o; have = h }
    step_after (Run n c ∷ cs) (s ∷ ss) done (xs ∷ ns) o h = run_after cs done xs ns o.1 bodies n c s ss o.0 h.0 h.1
    step_after (Run n c ∷ cs) [] done ns o h = tt
    step_after (Run n c ∷ cs) (s ∷ ss) done [] o h = absurd h
    step_after (Again e c ∷ cs) (s ∷ ss) done (xs ∷ ns) o h = again_after cs done xs ns o.1 bodies e c s ss o.0 h.0 h.1
    step_after (Again e c ∷ cs) [] done ns o h = tt
    step_after (Again e c ∷ cs) (s ∷ ss) done [] o h = absurd h
    step_after (Leave x ∷ cs) (s ∷ ss) done (xs ∷ ns) o h = record { names = xs ∷ ns; owed = o.1; have = (gone_has xs x s.own o.0 h.0, h.1) }
    step_after (Leave x ∷ cs) [] done ns o h = tt
    step_after (Leave x ∷ cs) (s ∷ ss) done [] o h = absurd h
    step_after (Return f names ∷ cs) (t ∷ s ∷ ss) done (xs ∷ ys ∷ ns) o h = after_some (find_proc f code.procs) _ (λ e j.
        let r = o.0 e j in record { names = ys ∷ ns; owed = o.1; have = (returned_has e xs ys names t s r.0 r.1 h.0 h.1.0, h.1.1) })
    step_after (Return f names ∷ cs) [] done ns o h = tt
    step_after (Return f names ∷ cs) (t ∷ []) done ns o h = tt
    step_after (Return f names ∷ cs) (t ∷ s ∷ ss) done [] o h = absurd h
    step_after (Return f names ∷ cs) (t ∷ s ∷ ss) done (xs ∷ []) o h = absurd h.1
    step_after (Give_back m o names ∷ cs) (t ∷ s ∷ ss) done (xs ∷ ys ∷ ns) w h = after_some (find_module m code.modules) _ (λ d i. after_some (find_proc o d.operations) _ (λ e j.
        let r = w.0 d i e j in record { names = ys ∷ ns; owed = w.1; have = (returned_has e xs ys names t s r.0 r.1 h.0 h.1.0, h.1.1) }))
    step_after (Give_back m o names ∷ cs) [] done ns w h = tt
    step_after (Give_back m o names ∷ cs) (t ∷ []) done ns w h = tt
    step_after (Give_back m o names ∷ cs) (t ∷ s ∷ ss) done [] w h = absurd h
    step_after (Give_back m o names ∷ cs) (t ∷ s ∷ ss) done (xs ∷ []) w h = absurd h.1
    step_after (Begin m n c ∷ cs) (t ∷ s ∷ ss) done (xs ∷ ys ∷ ns) o h = after_some (find_module m code.modules) _ (λ d i. run_after cs done ys ns o.1 bodies n c (hold true d t.own s) ss o.0 h.1.0 h.1.1)
    step_after (Begin m n c ∷ cs) [] done ns o h = tt
    step_after (Begin m n c ∷ cs) (t ∷ []) done ns o h = tt
    step_after (Begin m n c ∷ cs) (t ∷ s ∷ ss) done [] o h = absurd h
    step_after (Begin m n c ∷ cs) (t ∷ s ∷ ss) done (xs ∷ []) o h = absurd h.1
    step_after (Close m ∷ cs) (s ∷ ss) done (xs ∷ ns) o h = after_some (find_module m code.modules) _ (λ d i. record { names = xs ∷ ns; owed = o; have = h })
    step_after (Close m ∷ cs) [] done ns o h = tt
    step_after (Close m ∷ cs) (s ∷ ss) done [] o h = absurd h

    steps_after : (n : ℕ) (c : Config) → Pays c.commands c.stack → After (steps code n c)
    steps_after zero c h = h
    steps_after (suc n) c h = go (step code c) (step_after c.commands c.stack c.over h.names h.owed h.have) (λ d. steps_after n d)
      where
        go : (x : Stepped) → After x → ((d : Config) → Pays d.commands d.stack → After (steps code n d)) → After (one x (steps code n))
        go (Ok d) h more = more d h
        go (Err w) h more = tt

    -- where a run has ended one state is left, in which the globals have values
    pub ended_pays : (n : ℕ) (c d : Config) → Pays c.commands c.stack → steps code n c ≡ Ok d → d.commands ≡ [] → (s : State) × (d.stack ≡ s ∷ []) × Has globals s.own
    ended_pays n c d h e i = last d.stack (subst (λ cs. Pays cs d.stack) i (subst After e (steps_after n c h)))
      where
        last : (ss : List State) → Pays [] ss → (s : State) × (ss ≡ s ∷ []) × Has globals s.own
        last ss p = one_state ss (subst (λ ns. Have ns ss) p.owed p.have)
          where
            one_state : (ss : List State) → Have (globals ∷ []) ss → (s : State) × (ss ≡ s ∷ []) × Has globals s.own
            one_state [] h = absurd h
            one_state (s ∷ []) h = (s, refl, h.0)
            one_state (s ∷ t ∷ ss) h = absurd h.1
