-- No count of a loop passes the number of steps.
use Rattle.std.proofs.Common.{◌≡◌, refl, ap, subst, ℕ, zero, suc, ◌+◌, ◌≤◌, Bool, true, false, cond, List, [], ◌∷◌, ◌++◌, length, Option, Some, None, arith}
use Rattle.std.specs.Prelude.{nat_eq, Result, Ok, Err}
use Rattle.std.proofs.Math.Nat.{max-le}
use Rattle.rw_programs.specs.declared.prog.Code.{Code}
use Rattle.rw_programs.specs.declared.prog.Prog.{Prog, Spec, Kid, Skip, Assign, If', Do', Call, OpCall}
use Rattle.rw_programs.specs.Made.{Seq, Block, Con, ModBlock}
use Rattle.rw_programs.specs.State.{State}
use Rattle.rw_programs.specs.Tables.{find_proc, find_module, hold}
use Rattle.rw_evaluation.specs.declared.stop.Stop.{Stop}
use Rattle.rw_evaluation.specs.Evaluation.{one, all_seen}
use Rattle.rw_machine.specs.Machine.{Entered, entered, Command, Run, Again, Leave, Return, Give_back, Begin, Close, Config, Stepped, Pick, Took, None_true, Stopped, pick, chosen, turned, some_of, step_run, step_again, step_by, step}
use Rattle.rw_machine.specs.Outcome.{steps, pending, trace, first, with_entry, count_of}
use Rattle.rw_machine.specs.Runs.{CountsAreFew}

-- the turns of entries in all
abbrev pub total : List Entered → ℕ
total [] = 0
total (e ∷ es) = e.turns + total es

total_append : (xs ys : List Entered) → total (xs ++ ys) ≡ total xs + total ys
total_append [] ys = omega arith
total_append (x ∷ xs) ys = let h = total_append xs ys in omega (arith, h)

length_append : (xs ys : List Entered) → length (xs ++ ys) ≡ length xs + length ys
length_append [] ys = omega arith
length_append (x ∷ xs) ys = let h = length_append xs ys in omega (arith, h)

counted : (i : ℕ) (es : List Entered) → ((count_of i es).entries ≤ length es) × ((count_of i es).turns ≤ total es) × ((count_of i es).most ≤ total es)
counted i [] = (omega arith, omega arith, omega arith)
counted i (e ∷ es) = go (nat_eq e.loop i) (counted i es)
  where
    go : (b : Bool) → ((count_of i es).entries ≤ length es) × ((count_of i es).turns ≤ total es) × ((count_of i es).most ≤ total es)
        → ((cond b (with_entry e (count_of i es)) (count_of i es)).entries ≤ suc (length es)) × ((cond b (with_entry e (count_of i es)) (count_of i es)).turns ≤ e.turns + total es)
        × ((cond b (with_entry e (count_of i es)) (count_of i es)).most ≤ e.turns + total es)
    go true h = let a = h.0 in let b = h.1 in let c = h.2 in (omega (arith, a), omega (arith, b), max-le (omega arith) (omega (arith, c)))
    go false h = let a = h.0 in let b = h.1 in let c = h.2 in (omega (arith, a), omega (arith, b), omega (arith, c))

-- so many entries and turns at most
pub record Few (n : ℕ) (cs : List Command) (done : List Entered) : Type 0 where
  pub entries : length (pending cs) + length done ≤ n
  pub turns : total (pending cs) + total done ≤ n

more : (n : ℕ) (cs : List Command) (done : List Entered) → Few n cs done → Few (suc n) cs done
more n cs done h = let a = h.entries in let b = h.turns in record { entries = omega (arith, a); turns = omega (arith, b) }

module _ (code : Code) (n : ℕ) where
  abbrev After : Stepped → Type 0
  After (Ok c) = Few (suc n) c.commands c.over
  After (Err w) = Unit {0}

  after_one : {A : Type 0} (x : Result A Stop) (k : A → Stepped) → ((a : A) → After (k a)) → After (one x k)
  after_one (Ok a) k f = f a
  after_one (Err w) k f = tt

  after_some : {A : Type 0} (o : Option A) (k : A → Stepped) → ((a : A) → After (k a)) → After (some_of o k)
  after_some None k f = tt
  after_some (Some a) k f = f a

  module _ (cs : List Command) (done : List Entered) where
    -- the same entries
    same : (ds : List Command) → pending ds ≡ pending cs → Few n cs done → Few (suc n) ds done
    same ds e h =
        let a = h.entries in let b = h.turns in let i = ap length e in let j = ap total e in
        record { entries = omega (arith, a, i); turns = omega (arith, b, j) }

    entry_after : (y : Pick) (e : Entered) → e.turns ≡ 0 → (loop : Prog) (ss : List State) → Few n cs done → After (turned y e loop cs ss done)
    entry_after (Took i c) e z loop ss h = let a = h.entries in let b = h.turns in record { entries = omega (arith, a); turns = omega (arith, b, z) }
    entry_after None_true e z loop ss h = let a = h.entries in let b = h.turns in record { entries = omega (arith, a); turns = omega (arith, b, z) }
    entry_after (Stopped w) e z loop ss h = tt

    turn_after : (y : Pick) (e : Entered) (loop : Prog) (ss : List State) → Few n (Again e loop ∷ cs) done → After (turned y e loop cs ss done)
    turn_after (Took i c) e loop ss h = let a = h.entries in let b = h.turns in record { entries = omega (arith, a); turns = omega (arith, b) }
    turn_after None_true e loop ss h = let a = h.entries in let b = h.turns in record { entries = omega (arith, a); turns = omega (arith, b) }
    turn_after (Stopped w) e loop ss h = tt

    chosen_after : (y : Pick) (ss : List State) → Few n cs done → After (chosen y cs ss done)
    chosen_after (Took i c) ss h = same (Run i c ∷ cs) refl h
    chosen_after None_true ss h = tt
    chosen_after (Stopped w) ss h = tt

    run_after : (i : ℕ) (c : Prog) (s : State) (ss : List State) → Few n cs done → After (step_run code i c cs s ss done)
    run_after i (Spec w) s ss h = tt
    run_after i (Kid j) s ss h = tt
    run_after i Skip s ss h = more n cs done h
    run_after i (Assign names terms) s ss h = after_one (all_seen s.own terms) _ (λ vs. more n cs done h)
    run_after i (Seq c d) s ss h = same _ refl h
    run_after i (If' shape arms) s ss h = chosen_after (pick i arms s) (s ∷ ss) h
    run_after i (Do' v shape arms) s ss h = entry_after (pick (suc i) arms s) (entered i v s) refl (Do' v shape arms) (s ∷ ss) h
    run_after i (Block x sort c) s ss h = same _ refl h
    run_after i (Con pins c) s ss h = tt
    run_after i (Call f args names) s ss h = after_one (all_seen s.own args) _ (λ vs. after_some (find_proc f code.procs) _ (λ e. same _ refl h))
    run_after i (OpCall m o args names) s ss h = after_one (all_seen s.own args) _ (λ vs. after_some (find_module m code.modules) _ (λ d. after_some (find_proc o d.operations) _ (λ e. same _ refl h)))
    run_after i (ModBlock m c) s ss h = after_some (find_module m code.modules) _ (λ d. same _ refl h)

    again_after : (e : Entered) (c : Prog) (s : State) (ss : List State) → Few n (Again e c ∷ cs) done → After (step_again code e c cs s ss done)
    again_after e (Do' v shape arms) s ss h = turn_after (pick (suc e.loop) arms s) e (Do' v shape arms) (s ∷ ss) h
    again_after e c s ss h = tt

  -- the first command has no entry
  rest : (c : Command) (cs : List Command) (done : List Entered) → pending (c ∷ cs) ≡ pending cs → Few n (c ∷ cs) done → Few n cs done
  rest c cs done e h = let a = h.entries in let b = h.turns in let i = ap length e in let j = ap total e in record { entries = omega (arith, a, i); turns = omega (arith, b, j) }

  step_after : (cs : List Command) (ss : List State) (done : List Entered) → Few n cs done → After (step_by code cs ss done)
  step_after [] ss done h = more n [] done h
  step_after (Run i c ∷ cs) (s ∷ ss) done h = run_after cs done i c s ss (rest (Run i c) cs done refl h)
  step_after (Run i c ∷ cs) [] done h = tt
  step_after (Again e c ∷ cs) (s ∷ ss) done h = again_after cs done e c s ss h
  step_after (Again e c ∷ cs) [] done h = tt
  step_after (Leave x ∷ cs) (s ∷ ss) done h = more n cs done (rest (Leave x) cs done refl h)
  step_after (Leave x ∷ cs) [] done h = tt
  step_after (Return f names ∷ cs) (t ∷ s ∷ ss) done h = after_some (find_proc f code.procs) _ (λ e. more n cs done (rest (Return f names) cs done refl h))
  step_after (Return f names ∷ cs) (t ∷ []) done h = tt
  step_after (Return f names ∷ cs) [] done h = tt
  step_after (Give_back m o names ∷ cs) (t ∷ s ∷ ss) done h =
      after_some (find_module m code.modules) _ (λ d. after_some (find_proc o d.operations) _ (λ e. more n cs done (rest (Give_back m o names) cs done refl h)))
  step_after (Give_back m o names ∷ cs) (t ∷ []) done h = tt
  step_after (Give_back m o names ∷ cs) [] done h = tt
  step_after (Begin m i c ∷ cs) (t ∷ s ∷ ss) done h = after_some (find_module m code.modules) _ (λ d. run_after cs done i c (hold true d t.own s) ss (rest (Begin m i c) cs done refl h))
  step_after (Begin m i c ∷ cs) (t ∷ []) done h = tt
  step_after (Begin m i c ∷ cs) [] done h = tt
  step_after (Close m ∷ cs) (s ∷ ss) done h = after_some (find_module m code.modules) _ (λ d. more n cs done (rest (Close m) cs done refl h))
  step_after (Close m ∷ cs) [] done h = tt

module _ (code : Code) where
  abbrev FewIn : ℕ → Stepped → Type 0
  FewIn n (Ok c) = Few n c.commands c.over
  FewIn n (Err w) = Unit {0}

  steps_few : (n k : ℕ) (c : Config) → Few k c.commands c.over → FewIn (n + k) (steps code n c)
  steps_few zero k c h = let e : k ≡ zero + k = omega arith in subst (λ j. Few j c.commands c.over) e h
  steps_few (suc n) k c h = go (step code c) (step_after code k c.commands c.stack c.over h) (λ d g. steps_few n (suc k) d g)
    where
      go : (x : Stepped) → After code k x → ((d : Config) → Few (suc k) d.commands d.over → FewIn (n + suc k) (steps code n d)) → FewIn (suc n + k) (one x (steps code n))
      go (Ok d) h f = let e : n + suc k ≡ suc n + k = omega arith in subst (λ j. FewIn j (steps code n d)) e (f d h)
      go (Err w) h f = tt

pub few_hold : (code : Code) (s : State) (n : ℕ) (c : Config) → steps code n (first code s) ≡ Ok c → Few n c.commands c.over
few_hold code s n c e =
    let few = subst (FewIn code (n + 0)) e (steps_few code n 0 (first code s) (record { entries = omega arith; turns = omega arith })) in
    let a = few.entries in
    let b = few.turns in
    record { entries = omega (arith, a); turns = omega (arith, b) }

pub counts_are_few : CountsAreFew
counts_are_few code s n c e i =
    let few = subst (FewIn code (n + 0)) e (steps_few code n 0 (first code s) (record { entries = omega arith; turns = omega arith })) in
    let a = few.entries in
    let b = few.turns in
    let k = counted i (trace c) in
    let k0 = k.0 in
    let k1 = k.1 in
    let k2 = k.2 in
    let l = length_append (pending c.commands) c.over in
    let t = total_append (pending c.commands) c.over in
    (omega (arith, a, k0, l), omega (arith, b, k1, t), omega (arith, b, k2, t))
