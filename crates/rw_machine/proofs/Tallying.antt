-- The counts of loops after a step.
use Rattle.std.proofs.Common.{◌≡◌, refl, sym, ap, subst, ◌∙◌, ℕ, zero, suc, ◌+◌, ◌-◌, max, Bool, true, false, cond, true≢false, List, [], ◌∷◌, ◌++◌, length, Option, Some, None, slice_get, slice_set, arith}
use Rattle.std.specs.Prelude.{nat_eq, nat_lt, Result, Ok, Err}
use Rattle.std.proofs.lemmas.Bool.Decides.{Decides-eqb, Decides-ltb}
use Rattle.rw_programs.specs.declared.prog.Code.{Code}
use Rattle.rw_programs.specs.declared.prog.Prog.{Prog, Spec, Kid, Skip, Assign, If', Do', Call, OpCall}
use Rattle.rw_programs.specs.Made.{Seq, Block, Con, ModBlock}
use Rattle.rw_programs.specs.State.{State}
use Rattle.rw_programs.specs.Tables.{find_proc, find_module, hold}
use Rattle.rw_evaluation.specs.declared.stop.Stop.{Stop}
use Rattle.rw_evaluation.specs.Evaluation.{one, all_seen}
use Rattle.rw_machine.specs.declared.counts.Doing.{Doing}
use Rattle.rw_machine.specs.declared.counts.Doing.TheVariants.{Other, Enters, Turns}
use Rattle.rw_machine.specs.declared.outcome.LoopCount.{LoopCount}
use Rattle.rw_machine.specs.Machine.{Entered, entered, one_more, Command, Run, Again, Leave, Return, Give_back, Begin, Close, Config, Stepped, Pick, Took, None_true, Stopped, pick, chosen, turned, some_of, step_run, step_again, step_by, step}
use Rattle.rw_machine.specs.Outcome.{pending, trace, with_entry, count_of}
use Rattle.rw_machine.specs.Counts.{with_turn, one_entry, entry_in, doing, counted_here, change_at, count_in}

-- the last item
pub last_there : {A : Type 0} (xs : List A) (x : A) → slice_get xs (length xs - 1) ≡ Some x → (ys : List A) × (xs ≡ ys ++ x ∷ [])
last_there [] x e = absurd (cc)
last_there (a ∷ []) x e = let i : a ≡ x = cc in ([], ap (λ a. a ∷ []) i)
last_there (a ∷ b ∷ xs) x e =
    let i : suc (length (b ∷ xs) - 1) ≡ length (a ∷ b ∷ xs) - 1 = omega arith in
    let f : slice_get (b ∷ xs) (length (b ∷ xs) - 1) ≡ Some x = ap (slice_get (a ∷ b ∷ xs)) i ∙ e in
    let r = last_there (b ∷ xs) x f in
    (a ∷ r.0, ap (λ l. a ∷ l) r.1)

pub last_none : {A : Type 0} (xs : List A) → slice_get xs (length xs - 1) ≡ None → xs ≡ []
last_none [] e = refl
last_none (a ∷ []) e = absurd (cc)
last_none (a ∷ b ∷ xs) e =
    let i : suc (length (b ∷ xs) - 1) ≡ length (a ∷ b ∷ xs) - 1 = omega arith in
    let f : slice_get (b ∷ xs) (length (b ∷ xs) - 1) ≡ None = ap (slice_get (a ∷ b ∷ xs)) i ∙ e in
    let j : b ∷ xs ≡ [] = last_none (b ∷ xs) f in
    absurd (cc)

pub changed_none : {A : Type 0} (n : ℕ) (f : A → A) (xs : List A) → slice_get xs n ≡ None → xs ≡ change_at n f xs
changed_none n f [] e = refl
changed_none zero f (x ∷ xs) e = absurd (cc)
changed_none (suc n) f (x ∷ xs) e = ap (λ l. x ∷ l) (changed_none n f xs e)

pub changed_some : {A : Type 0} (n : ℕ) (f : A → A) (xs : List A) (x : A) → slice_get xs n ≡ Some x → slice_set xs n (f x) ≡ change_at n f xs
changed_some n f [] x e = absurd (cc)
changed_some zero f (y ∷ xs) x e = let i : y ≡ x = cc in ap (λ z. f z ∷ xs) (sym i)
changed_some (suc n) f (y ∷ xs) x e = ap (λ l. y ∷ l) (changed_some n f xs x e)

-- what stands at a place of the changed list
changed_length : {A : Type 0} (n : ℕ) (f : A → A) (xs : List A) → length (change_at n f xs) ≡ length xs
changed_length n f [] = refl
changed_length zero f (x ∷ xs) = refl
changed_length (suc n) f (x ∷ xs) = ap suc (changed_length n f xs)

changed_here : {A : Type 0} (n : ℕ) (f : A → A) (xs : List A) (x : A) → slice_get xs n ≡ Some x → slice_get (change_at n f xs) n ≡ Some (f x)
changed_here n f [] x e = absurd (cc)
changed_here zero f (y ∷ xs) x e = let i : y ≡ x = cc in ap (λ z. Some (f z)) i
changed_here (suc n) f (y ∷ xs) x e = changed_here n f xs x e

changed_there : {A : Type 0} (n i : ℕ) (f : A → A) (xs : List A) → ¬ (n ≡ i) → slice_get (change_at n f xs) i ≡ slice_get xs i
changed_there n i f [] d = refl
changed_there zero zero f (x ∷ xs) d = absurd (d refl)
changed_there zero (suc i) f (x ∷ xs) d = refl
changed_there (suc n) zero f (x ∷ xs) d = refl
changed_there (suc n) (suc i) f (x ∷ xs) d = changed_there n i f xs (λ e. d (ap suc e))

changed_get : {A : Type 0} (n i : ℕ) (f : A → A) (xs : List A) (x : A) → slice_get xs i ≡ Some x → slice_get (change_at n f xs) i ≡ Some (cond (nat_eq n i) (f x) x)
changed_get n i f xs x e = go (nat_eq n i) (Decides-eqb n i)
  where
    go : (b : Bool) → ((b ≡ true) → n ≡ i) × ((n ≡ i) → b ≡ true) → slice_get (change_at n f xs) i ≡ Some (cond b (f x) x)
    go true d = subst (λ k. slice_get (change_at k f xs) i ≡ Some (f x)) (sym (d.0 refl)) (changed_here i f xs x e)
    go false d = changed_there n i f xs (λ k. true≢false (sym (d.1 k))) ∙ e

-- the count of the loop i after the step
abbrev pub counted_at : Doing → Bool → ℕ → LoopCount → LoopCount
counted_at Other more i l = l
counted_at (Enters n) more i l = cond (nat_eq n i) (counted_here (Enters n) more l) l
counted_at (Turns n k) more i l = cond (nat_eq n i) (counted_here (Turns n k) more l) l

pub count_length : (d : Doing) (more : Bool) (ls : List LoopCount) → length (count_in d more ls) ≡ length ls
count_length Other more ls = refl
count_length (Enters n) more ls = changed_length n _ ls
count_length (Turns n k) more ls = changed_length n _ ls

pub count_get : (d : Doing) (more : Bool) (ls : List LoopCount) (i : ℕ) (l : LoopCount) → slice_get ls i ≡ Some l → slice_get (count_in d more ls) i ≡ Some (counted_at d more i l)
count_get Other more ls i l e = e
count_get (Enters n) more ls i l e = changed_get n i _ ls l e
count_get (Turns n k) more ls i l e = changed_get n i _ ls l e

-- an entry may be counted first or later
with_swaps : (e f : Entered) (l : LoopCount) → with_entry e (with_entry f l) ≡ with_entry f (with_entry e l)
with_swaps e f l =
    let t : e.turns + (f.turns + l.turns) ≡ f.turns + (e.turns + l.turns) = omega arith in
    let m : max e.turns (max f.turns l.most) ≡ max f.turns (max e.turns l.most) = omega arith in
    ap (λ t. record { entries = suc (suc l.entries); turns = t; most = max e.turns (max f.turns l.most) }) t
    ∙ ap (λ m. record { entries = suc (suc l.entries); turns = f.turns + (e.turns + l.turns); most = m }) m

moved : (i : ℕ) (xs : List Entered) (e : Entered) (ys : List Entered) → count_of i (xs ++ e ∷ ys) ≡ count_of i (e ∷ (xs ++ ys))
moved i [] e ys = refl
moved i (x ∷ xs) e ys = ap (λ l. cond (nat_eq x.loop i) (with_entry x l) l) (moved i xs e ys) ∙ go (nat_eq x.loop i) (nat_eq e.loop i) (count_of i (xs ++ ys))
  where
    go : (a b : Bool) (l : LoopCount) → cond a (with_entry x (cond b (with_entry e l) l)) (cond b (with_entry e l) l) ≡ cond b (with_entry e (cond a (with_entry x l) l)) (cond a (with_entry x l) l)
    go true true l = with_swaps x e l
    go true false l = refl
    go false true l = refl
    go false false l = refl

grows : (n : ℕ) → nat_lt (suc n) (suc (suc n)) ≡ true
grows n = (Decides-ltb (suc n) (suc (suc n))).1 (omega arith)

shrinks : (n : ℕ) → nat_lt (suc n) n ≡ false
shrinks n = go (nat_lt (suc n) n) refl
  where
    go : (b : Bool) → nat_lt (suc n) n ≡ b → nat_lt (suc n) n ≡ false
    go true e = let l = (Decides-ltb (suc n) n).0 e in absurd (omega (arith, l))
    go false e = e

-- the count of a loop that is entered, and at once begins a turn or does not
entry_counted : (e : Entered) (l : LoopCount) → e.turns ≡ 0 → with_entry e l ≡ one_entry l
entry_counted e l z =
    let a : suc l.entries ≡ l.entries + 1 = omega arith in
    let b : e.turns + l.turns ≡ l.turns = omega (arith, z) in
    let c : max e.turns l.most ≡ l.most = omega (arith, z) in
    ap (λ a. record { entries = a; turns = e.turns + l.turns; most = max e.turns l.most }) a
    ∙ ap (λ b. record { entries = l.entries + 1; turns = b; most = max e.turns l.most }) b
    ∙ ap (λ c. record { entries = l.entries + 1; turns = l.turns; most = c }) c

turn_counted : (e : Entered) (l : LoopCount) → with_entry (one_more e) l ≡ with_turn (e.turns + 1) (with_entry e l)
turn_counted e l =
    let b : suc e.turns + l.turns ≡ (e.turns + l.turns) + 1 = omega arith in
    let c : max (suc e.turns) l.most ≡ max (e.turns + 1) (max e.turns l.most) = omega arith in
    ap (λ b. record { entries = suc l.entries; turns = b; most = max (suc e.turns) l.most }) b
    ∙ ap (λ c. record { entries = suc l.entries; turns = (e.turns + l.turns) + 1; most = c }) c

first_turn : (e : Entered) (l : LoopCount) → e.turns ≡ 0 → with_entry (one_more e) l ≡ with_turn 1 (one_entry l)
first_turn e l z =
    let k : e.turns + 1 ≡ 1 = omega (arith, z) in
    turn_counted e l ∙ ap (λ k. with_turn k (with_entry e l)) k ∙ ap (with_turn 1) (entry_counted e l z)

module _ (code : Code) (i : ℕ) where
  -- what comes of a step: the count is that before, counted as the first command says
  abbrev Tallies : Doing → ℕ → LoopCount → Stepped → Type 0
  Tallies d n l (Ok c) = count_of i (trace c) ≡ counted_at d (nat_lt n (length c.commands)) i l
  Tallies d n l (Err w) = Unit {0}

  tally_one : {A : Type 0} (d : Doing) (n : ℕ) (l : LoopCount) (x : Result A Stop) (k : A → Stepped) → ((a : A) → Tallies d n l (k a)) → Tallies d n l (one x k)
  tally_one d n l (Ok a) k f = f a
  tally_one d n l (Err w) k f = tt

  tally_some : {A : Type 0} (d : Doing) (n : ℕ) (l : LoopCount) (o : Option A) (k : A → Stepped) → ((a : A) → Tallies d n l (k a)) → Tallies d n l (some_of o k)
  tally_some d n l None k f = tt
  tally_some d n l (Some a) k f = f a

  module _ (cs : List Command) (done : List Entered) where
    abbrev Before : LoopCount
    Before = count_of i (pending cs ++ done)

    chosen_tallies : (n : ℕ) (y : Pick) (ss : List State) → Tallies Other n Before (chosen y cs ss done)
    chosen_tallies n (Took j c) ss = refl
    chosen_tallies n None_true ss = tt
    chosen_tallies n (Stopped w) ss = tt

    entry_tallies : (y : Pick) (e : Entered) → e.turns ≡ 0 → (loop : Prog) (ss : List State) → Tallies (Enters e.loop) (suc (length cs)) Before (turned y e loop cs ss done)
    entry_tallies (Took j c) e z loop ss =
        ap (λ l. cond (nat_eq e.loop i) l Before) (first_turn e Before z)
        ∙ sym (ap (λ b. cond (nat_eq e.loop i) (counted_here (Enters e.loop) b Before) Before) (grows (length cs)))
    entry_tallies None_true e z loop ss =
        moved i (pending cs) e done ∙ ap (λ l. cond (nat_eq e.loop i) l Before) (entry_counted e Before z)
        ∙ sym (ap (λ b. cond (nat_eq e.loop i) (counted_here (Enters e.loop) b Before) Before) (shrinks (length cs)))
    entry_tallies (Stopped w) e z loop ss = tt

    turn_tallies : (y : Pick) (e : Entered) (loop : Prog) (ss : List State) → Tallies (Turns e.loop e.turns) (suc (length cs)) (count_of i (e ∷ (pending cs ++ done))) (turned y e loop cs ss done)
    turn_tallies (Took j c) e loop ss = go (nat_eq e.loop i) ∙ sym (ap (λ b. counted_at (Turns e.loop e.turns) b i (count_of i (e ∷ (pending cs ++ done)))) (grows (length cs)))
      where
        go : (b : Bool) → cond b (with_entry (one_more e) Before) Before ≡ cond b (with_turn (e.turns + 1) (cond b (with_entry e Before) Before)) (cond b (with_entry e Before) Before)
        go true = turn_counted e Before
        go false = refl
    turn_tallies None_true e loop ss = moved i (pending cs) e done ∙ same (nat_eq e.loop i) ∙ sym (ap (λ b. counted_at (Turns e.loop e.turns) b i (count_of i (e ∷ (pending cs ++ done)))) (shrinks (length cs)))
      where
        same : (b : Bool) → count_of i (e ∷ (pending cs ++ done)) ≡ cond b (count_of i (e ∷ (pending cs ++ done))) (count_of i (e ∷ (pending cs ++ done)))
        same true = refl
        same false = refl
    turn_tallies (Stopped w) e loop ss = tt

    run_tallies : (n : ℕ) (c : Prog) (s : State) (ss : List State) → Tallies (entry_in n c) (suc (length cs)) Before (step_run code n c cs s ss done)
    run_tallies n (Spec w) s ss = tt
    run_tallies n (Kid j) s ss = tt
    run_tallies n Skip s ss = refl
    run_tallies n (Assign names terms) s ss = tally_one Other 0 _ (all_seen s.own terms) _ (λ vs. refl)
    run_tallies n (Seq c d) s ss = refl
    run_tallies n (If' shape arms) s ss = chosen_tallies 0 (pick n arms s) (s ∷ ss)
    run_tallies n (Do' v shape arms) s ss = entry_tallies (pick (suc n) arms s) (entered n v s) refl (Do' v shape arms) (s ∷ ss)
    run_tallies n (Block x sort c) s ss = refl
    run_tallies n (Con pins c) s ss = tt
    run_tallies n (Call f args names) s ss = tally_one Other 0 _ (all_seen s.own args) _ (λ vs. tally_some Other 0 _ (find_proc f code.procs) _ (λ e. refl))
    run_tallies n (OpCall m o args names) s ss =
        tally_one Other 0 _ (all_seen s.own args) _ (λ vs. tally_some Other 0 _ (find_module m code.modules) _ (λ d. tally_some Other 0 _ (find_proc o d.operations) _ (λ e. refl)))
    run_tallies n (ModBlock m c) s ss = tally_some Other 0 _ (find_module m code.modules) _ (λ d. refl)

    again_tallies : (e : Entered) (c : Prog) (s : State) (ss : List State) → Tallies (Turns e.loop e.turns) (suc (length cs)) (count_of i (e ∷ (pending cs ++ done))) (step_again code e c cs s ss done)
    again_tallies e (Do' v shape arms) s ss = turn_tallies (pick (suc e.loop) arms s) e (Do' v shape arms) (s ∷ ss)
    again_tallies e c s ss = tt

  pub step_tallies : (cs : List Command) (ss : List State) (done : List Entered) → Tallies (doing cs) (length cs) (count_of i (pending cs ++ done)) (step_by code cs ss done)
  step_tallies [] ss done = refl
  step_tallies (Run n c ∷ cs) (s ∷ ss) done = run_tallies cs done n c s ss
  step_tallies (Run n c ∷ cs) [] done = tt
  step_tallies (Again e c ∷ cs) (s ∷ ss) done = again_tallies cs done e c s ss
  step_tallies (Again e c ∷ cs) [] done = tt
  step_tallies (Leave x ∷ cs) (s ∷ ss) done = refl
  step_tallies (Leave x ∷ cs) [] done = tt
  step_tallies (Return f names ∷ cs) (t ∷ s ∷ ss) done = tally_some Other 0 _ (find_proc f code.procs) _ (λ e. refl)
  step_tallies (Return f names ∷ cs) (t ∷ []) done = tt
  step_tallies (Return f names ∷ cs) [] done = tt
  step_tallies (Give_back m o names ∷ cs) (t ∷ s ∷ ss) done = tally_some Other 0 _ (find_module m code.modules) _ (λ d. tally_some Other 0 _ (find_proc o d.operations) _ (λ e. refl))
  step_tallies (Give_back m o names ∷ cs) (t ∷ []) done = tt
  step_tallies (Give_back m o names ∷ cs) [] done = tt
  step_tallies (Begin m n c ∷ cs) (t ∷ s ∷ ss) done = tally_some (entry_in n c) _ _ (find_module m code.modules) _ (λ d. run_tallies cs done n c (hold true d t.own s) ss)
  step_tallies (Begin m n c ∷ cs) (t ∷ []) done = tt
  step_tallies (Begin m n c ∷ cs) [] done = tt
  step_tallies (Close m ∷ cs) (s ∷ ss) done = tally_some Other 0 _ (find_module m code.modules) _ (λ d. refl)
  step_tallies (Close m ∷ cs) [] done = tt

-- the count of each loop after a step
pub counts_after : (code : Code) (c d : Config) → step code c ≡ Ok d → (i : ℕ) → count_of i (trace d) ≡ counted_at (doing c.commands) (nat_lt (length c.commands) (length d.commands)) i (count_of i (trace c))
counts_after code c d e i = subst (Tallies code i (doing c.commands) (length c.commands) (count_of i (trace c))) e (step_tallies code i c.commands c.stack c.over)
