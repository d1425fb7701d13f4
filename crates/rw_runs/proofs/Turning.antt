-- From a state where the program is sure with loops that go by their variants, each step keeps entries within their variants.
use Rattle.std.proofs.Common.{◌≡◌, refl, sym, ap, subst, ℕ, zero, suc, ◌+◌, ◌≤◌, Bool, true, false, ◌&&◌, List, [], ◌∷◌, ◌++◌, Option, Some, None, IsSomeAnd, ◌⊎◌, inl, inr, arith}
use Rattle.std.specs.Prelude.{Result, Ok, Err}
use Rattle.rw_terms.specs.declared.term.Term.{Term}
use Rattle.rw_terms.specs.State.{Value}
use Rattle.rw_terms.specs.Defined.{GuardDefined}
use Rattle.rw_terms.specs.Validity.{Each}
use Rattle.rw_programs.specs.declared.prog.Code.{Code}
use Rattle.rw_programs.specs.declared.prog.Prog.{Prog, Spec, Kid, Skip, Assign, If', Do', Call, OpCall, Row_of-Arm, end_of-Arm, more_of-Arm}
use Rattle.rw_programs.specs.Made.{Seq, Block, Con, ModBlock}
use Rattle.rw_programs.specs.State.{State, empty, Holds, put, put_all, with_own}
use Rattle.rw_programs.specs.Tables.{Table, find_proc, find_module, returned, held, hold}
use Rattle.rw_programs.specs.CodeTest.{is_plain, is_guard, is_code, are_code}
use Rattle.rw_programs.specs.Meaning.{values, AllDefined, NoGuard, GuardsDefined, Chain, own_bodies, bodies_before, bodies, arm_ends, arms_sure, MayEnd, Sure}
use Rattle.rw_meaning.proofs.Grow.{before_sure, ends_before}
use Rattle.rw_evaluation.specs.declared.stop.Stop.{Stop}
use Rattle.rw_evaluation.specs.declared.stop.Stop.TheVariants.{TooWide}
use Rattle.rw_evaluation.specs.Evaluation.{one, all_seen, tested}
use Rattle.rw_runs.specs.Ends.{table_of}
use Rattle.rw_numbering.specs.Loops.{loops}
use Rattle.rw_machine.specs.Machine.{Entered, entered, one_more, Command, Run, Again, Leave, Return, Give_back, Begin, Close, Config, config, Stepped, Pick, Took, None_true, Stopped, pick_by, pick, chosen, turned, some_of, step_run, step_again, step_by, step}
use Rattle.rw_frames.specs.Bodies.{zero_of, zeros, begun, started}
use Rattle.rw_machine.specs.Outcome.{steps, pending, trace}
use Rattle.rw_runs.proofs.Landing.{BodiesAreCode}
use Rattle.rw_runs.specs.Turns.{allowed, IsWithin}
use Rattle.rw_evaluation.specs.Laws.{TestRight}
use Rattle.rw_evaluation.proofs.Evaluations.{guard_right, AllRight, terms_right, both_true}
use Rattle.rw_runs.proofs.Runs.{zero_has_sort, zeros_fit, some_is, begun_begins}
use Rattle.rw_runs.proofs.HasEnd.{sure_has_end}

each_append : (xs ys : List Entered) → Each IsWithin xs → Each IsWithin ys → Each IsWithin (xs ++ ys)
each_append [] ys hx hy = hy
each_append (x ∷ xs) ys hx hy = (hx.0, each_append xs ys hx.1 hy)

module _ (code : Code) (coded : BodiesAreCode code) where
  abbrev E : Table
  E = table_of true code

  -- the program is sure from s, and from each of its ends the rest goes on
  record Goes (c : Prog) (s : State) (rest : State → Type 0) : Type 0 where
    place : ℕ
    levels : ℕ
    is : is_code c ≡ true
    sure : Sure E place levels c s
    next : (t : State) → MayEnd E place levels c s t → rest t

  -- so many turns of the loop lead from its entry to s
  abbrev Turned : (p k : ℕ) → Entered → Prog → State → Type 0
  Turned p k e (Do' v shape arms) s = (e.variant ≡ v) × Chain (arm_ends E (bodies E p k) (bodies_before E p) arms) e.turns e.start s
  Turned p k e _ s = ⊥

  -- so for a loop that was entered
  record Repeats (e : Entered) (c : Prog) (s : State) (rest : State → Type 0) : Type 0 where
    goes : Goes c e.start rest
    turned : Turned goes.place goes.levels e c s

  -- the commands go on from these states
  abbrev Ready : List Command → List State → Type 0
  Ready [] ss = Unit {0}
  Ready (Run n c ∷ cs) (s ∷ ss) = Goes c s (λ t. Ready cs (t ∷ ss))
  Ready (Again e c ∷ cs) (s ∷ ss) = Repeats e c s (λ t. Ready cs (t ∷ ss))
  Ready (Leave x ∷ cs) (s ∷ ss) = Ready cs (with_own s (put x None s.own) ∷ ss)
  Ready (Return f names ∷ cs) (t ∷ s ∷ ss) = IsSomeAnd (find_proc f code.procs) (λ e. Ready cs (returned e names t s ∷ ss))
  Ready (Give_back m o names ∷ cs) (t ∷ s ∷ ss) =
      IsSomeAnd (find_module m code.modules) (λ d. IsSomeAnd (find_proc o d.operations) (λ e. Ready cs (hold true d t.own (returned e names t s) ∷ ss)))
  Ready (Begin m n c ∷ cs) (t ∷ s ∷ ss) = IsSomeAnd (find_module m code.modules) (λ d. Goes c (hold true d t.own s) (λ t. Ready cs (t ∷ ss)))
  Ready (Close m ∷ cs) (s ∷ ss) = IsSomeAnd (find_module m code.modules) (λ d. Ready cs (hold true d empty s ∷ ss))
  Ready (c ∷ cs) ss = ⊥

  -- the configuration goes on, and its entries are within
  record Keeps (c : Config) : Type 0 where
    ready : Ready c.commands c.stack
    begun : Each IsWithin (pending c.commands)
    ended : Each IsWithin c.over

  abbrev AfterStep : Stepped → Type 0
  AfterStep (Ok c) = Keeps c
  AfterStep (Err w) = w ≡ TooWide

  some_keeps : {A : Type 0} (P : A → Type 0) (o : Option A) (k : A → Stepped) → IsSomeAnd o P → ((a : A) → o ≡ Some a → P a → AfterStep (k a)) → AfterStep (some_of o k)
  some_keeps P None k h f = absurd h
  some_keeps P (Some a) k h f = f a refl h

  values_keep : (s : State) (ts : List Term) (k : List (Option Value) → Stepped) → AllDefined ts s → ((vs : List (Option Value)) → vs ≡ values ts s → AfterStep (k vs)) → AfterStep (one (all_seen s.own ts) k)
  values_keep s ts k def f = go (all_seen s.own ts) (terms_right s ts)
    where
      go : (x : Result (List (Option Value)) Stop) → AllRight x (values ts s) (AllDefined ts s) → AfterStep (one x k)
      go (Ok vs) r = f vs r
      go (Err w) r = r def

  module _ (p k : ℕ) where
    -- what is picked: a body from which the choice goes on, or nothing where no guard holds
    abbrev Picks : {m : _} → Row_of-Arm m → State → Pick → Type 0
    Picks arms s (Took n c) = (is_code c ≡ true) × Sure E p k c s × ((t : State) → MayEnd E p k c s t → arm_ends E (bodies E p k) (bodies_before E p) arms s t)
    Picks arms s None_true = NoGuard E.library arms s
    Picks arms s (Stopped w) = w ≡ TooWide

    picks : {m : _} (n : ℕ) (arms : Row_of-Arm m) (s : State) → are_code arms ≡ true → GuardsDefined arms s → arms_sure E (bodies E p k) (bodies_before E p) arms s → Picks arms s (pick n arms s)
    picks n end_of-Arm s i d h = tt
    picks n (more_of-Arm g c rest) s i d h = go (tested s.own g) (guard_right E.library s.own g both.0) (pick (n + loops c) rest s) (picks (n + loops c) rest s parts.1 d.1 h.1)
      where
        both : (is_guard g ≡ true) × ((is_code c && are_code rest) ≡ true)
        both = both_true (is_guard g) (is_code c && are_code rest) i

        parts : (is_code c ≡ true) × (are_code rest ≡ true)
        parts = both_true (is_code c) (are_code rest) both.1

        go : (x : Result Bool Stop) → TestRight x (Holds E.library g s s) (GuardDefined s.own s.own g) → (y : Pick) → Picks rest s y → Picks (more_of-Arm g c rest) s (pick_by x n c y)
        go (Ok true) hg y r = (parts.0, h.0 hg, λ t e. inl (hg, e))
        go (Ok false) hg (Took j b) r = (r.0, r.1, λ t e. inr (r.2 t e))
        go (Ok false) hg None_true r = (hg, r)
        go (Ok false) hg (Stopped v) r = r
        go (Err v) hg y r = hg d.0

    -- a body that is called goes on from where it begins
    called : (q : ℕ) (c : Prog) (a : State) (rest : State → Type 0) → is_code c ≡ true → (bodies E p k).sure q c a
        → ((b : State) → (bodies E p k).ends q c a b → rest b) → Goes c a rest
    called q c a rest i (inl h) next = own k h next
      where
        own : (k : ℕ) → (own_bodies E (bodies_before E p) p k).sure q c a
            → ((b : State) → ((own_bodies E (bodies_before E p) p k).ends q c a b ⊎ (bodies_before E p).ends q c a b) → rest b) → Goes c a rest
        own zero h next = absurd h
        own (suc k) h next = record { place = p; levels = k; is = i; sure = h.1; next = λ b e. next b (inl (h.0, e)) }
    called q c a rest i (inr h) next =
        let e = before_sure E p q c a h in
        record { place = q; levels = e.1.0; is = i; sure = e.1.1; next = λ b x. next b (inr (ends_before E p q c a b e.0 (e.1.0, x))) }

    earlier : (q : ℕ) (c : Prog) (a : State) (rest : State → Type 0) → is_code c ≡ true → (bodies_before E p).sure q c a
        → ((b : State) → (bodies_before E p).ends q c a b → rest b) → Goes c a rest
    earlier q c a rest i h next =
        let e = before_sure E p q c a h in
        record { place = q; levels = e.1.0; is = i; sure = e.1.1; next = λ b x. next b (ends_before E p q c a b e.0 (e.1.0, x)) }

    module _ (cs : List Command) (ss : List State) (done : List Entered) (fine : Each IsWithin (pending cs)) (over : Each IsWithin done) where
      -- a turn of the loop, or its end
      loop_keeps : {m : _} (loop : Prog) (arms : Row_of-Arm m) (e : Entered) (t : State) → (goes : Goes loop e.start (λ t. Ready cs (t ∷ ss)))
          → ((u : State) → Chain (arm_ends E (bodies E p k) (bodies_before E p) arms) (suc e.turns) e.start u → Repeats (one_more e) loop u (λ t. Ready cs (t ∷ ss)))
          → Chain (arm_ends E (bodies E p k) (bodies_before E p) arms) e.turns e.start t
          → (NoGuard E.library arms t → Ready cs (t ∷ ss))
          → ((u : State) → Chain (arm_ends E (bodies E p k) (bodies_before E p) arms) (suc e.turns) e.start u → suc e.turns ≤ allowed e.variant e.start)
          → IsWithin e → (y : Pick) → Picks arms t y → AfterStep (turned y e loop cs (t ∷ ss) done)
      loop_keeps loop arms e t goes again ch last bound now (Took n c) r =
          let end = sure_has_end true code coded p k c r.0 t r.1 in
          record {
            ready = record { place = p; levels = k; is = r.0; sure = r.1; next = λ u x. again u (t, ch, r.2 u x) };
            begun = (bound end.0 (t, ch, r.2 end.0 end.1), fine);
            ended = over;
          }
      loop_keeps loop arms e t goes again ch last bound now None_true r = record { ready = last r; begun = fine; ended = (now, over) }
      loop_keeps loop arms e t goes again ch last bound now (Stopped w) r = r

      again_keeps : (loop : Prog) (e : Entered) (t : State) → is_code loop ≡ true → Sure E p k loop e.start
          → ((t : State) → MayEnd E p k loop e.start t → Ready cs (t ∷ ss)) → Turned p k e loop t → IsWithin e → AfterStep (step_again code e loop cs t ss done)
      again_keeps (Do' v shape arms) e t i sure next tn now =
          let goes : Goes (Do' v shape arms) e.start (λ t. Ready cs (t ∷ ss)) = record { place = p; levels = k; is = i; sure = sure; next = next } in
          loop_keeps (Do' v shape arms) arms e t goes
          (λ u ch. record { goes = record { place = p; levels = k; is = i; sure = sure; next = next }; turned = (tn.0, ch) })
          tn.1 (λ none. next t ((e.turns, tn.1), none))
          (λ u ch. subst (λ v. suc e.turns ≤ allowed v e.start) (sym tn.0) (subst (λ n. suc e.turns ≤ n) sure.0.2 (sure.0.1 (suc e.turns) u ch))) now
          (pick (suc e.loop) arms t)
          (picks (suc e.loop) arms t (both_true (is_plain v) (are_code arms) i).1 (sure.1 e.turns t tn.1).0 (sure.1 e.turns t tn.1).1)
      again_keeps c e t i sure next tn now = absurd tn

      run_keeps : (n : ℕ) (c : Prog) (s : State) → is_code c ≡ true → Sure E p k c s → ((t : State) → MayEnd E p k c s t → Ready cs (t ∷ ss)) → AfterStep (step_run code n c cs s ss done)
      run_keeps n (Spec w) s i h next = absurd (cc)
      run_keeps n (Kid j) s i h next = absurd (cc)
      run_keeps n Skip s i h next = record { ready = next s refl; begun = fine; ended = over }
      run_keeps n (Assign xs es) s i h next = values_keep s es _ h (λ vs e. record { ready = next (with_own s (put_all xs vs s.own)) (ap (λ vs. with_own s (put_all xs vs s.own)) e); begun = fine; ended = over })
      run_keeps n (Seq c d) s i h next =
          let j = both_true (is_code c) (is_code d) i in
          record {
            ready = record {
              place = p;
              levels = k;
              is = j.0;
              sure = h.0;
              next = λ m e. record { place = p; levels = k; is = j.1; sure = h.1 m e; next = λ t x. next t (m, e, x) };
            };
            begun = fine;
            ended = over;
          }
      run_keeps n (If' shape arms) s i h next = go (pick n arms s) (picks n arms s i h.0 h.2)
        where
          go : (y : Pick) → Picks arms s y → AfterStep (chosen y cs (s ∷ ss) done)
          go (Took j c) r = record { ready = record { place = p; levels = k; is = r.0; sure = r.1; next = λ t e. next t (r.2 t e) }; begun = fine; ended = over }
          go None_true r = absurd (h.1 r)
          go (Stopped v) r = r
      run_keeps n (Do' v shape arms) s i h next = again_keeps (Do' v shape arms) (entered n v s) s i h next (refl, refl) (omega arith)
      run_keeps n (Block x sort c) s i h next =
          let hv = zero_has_sort sort in
          record {
            ready = record { place = p; levels = k; is = i; sure = h (zero_of sort) hv; next = λ m e. next (with_own m (put x None m.own)) (zero_of sort, m, hv, e, refl) };
            begun = fine;
            ended = over;
          }
      run_keeps n (Con pins c) s i h next = absurd (cc)
      run_keeps n (Call f args names) s i h next =
          values_keep s args _ h.0 (λ vs j. some_keeps _ (find_proc f code.procs) _ h.1 (λ e found sure.
          let begins = begun_begins empty e vs (values args s) j in
          record {
            ready = called e.place e.body (begun empty e vs) _ (coded.procs f e found) (sure (begun empty e vs) begins)
                (λ b x. some_is _ (find_proc f code.procs) e found (next (returned e names b s) (some_is _ (find_proc f code.procs) e found (begun empty e vs, b, begins, x, refl))));
            begun = fine;
            ended = over;
          }))
      run_keeps n (OpCall m o args names) s i h next =
          values_keep s args _ h.0 (λ vs j. some_keeps _ (find_module m code.modules) _ h.1 (λ d is inside. some_keeps _ (find_proc o d.operations) _ inside (λ e found sure.
          let begins = begun_begins (held true d s) e vs (values args s) j in
          record {
            ready = earlier d.place e.body (begun (held true d s) e vs) _ (coded.operations m d is o e found) (sure (begun (held true d s) e vs) begins)
                (λ b x. some_is _ (find_module m code.modules) d is (some_is _ (find_proc o d.operations) e found
                (next (hold true d b.own (returned e names b s)) (some_is _ (find_module m code.modules) d is (some_is _ (find_proc o d.operations) e found (begun (held true d s) e vs, b, begins, x, refl))))));
            begun = fine;
            ended = over;
          })))
      run_keeps n (ModBlock m c) s i h next =
          some_keeps _ (find_module m code.modules) _ h (λ d is inside.
          let fit = zeros_fit d.state in
          let sure = inside (zeros d.state) fit in
          record {
            ready = earlier d.place d.start (started d) _ (coded.starts m d is) sure.0
                (λ a x. some_is _ (find_module m code.modules) d is (record {
                  place = p;
                  levels = k;
                  is = i;
                  sure = sure.1 a x;
                  next = λ b y. some_is _ (find_module m code.modules) d is (next (hold true d empty b) (some_is _ (find_module m code.modules) d is (zeros d.state, a, b, fit, x, y, refl)));
                }));
            begun = fine;
            ended = over;
          })

  -- each step keeps it
  goes_keeps : (n : ℕ) (c : Prog) (s : State) (cs : List Command) (ss : List State) (done : List Entered) → Each IsWithin (pending cs) → Each IsWithin done → Goes c s (λ t. Ready cs (t ∷ ss))
      → AfterStep (step_run code n c cs s ss done)
  goes_keeps n c s cs ss done fine over g = run_keeps g.place g.levels cs ss done fine over n c s g.is g.sure g.next

  step_keeps : (cs : List Command) (ss : List State) (done : List Entered) → Ready cs ss → Each IsWithin (pending cs) → Each IsWithin done → AfterStep (step_by code cs ss done)
  step_keeps [] ss done r fine over = record { ready = tt; begun = tt; ended = over }
  step_keeps (Run n c ∷ cs) (s ∷ ss) done r fine over = goes_keeps n c s cs ss done fine over r
  step_keeps (Run n c ∷ cs) [] done r fine over = absurd r
  step_keeps (Again e c ∷ cs) (s ∷ ss) done r fine over =
      again_keeps r.goes.place r.goes.levels cs ss done fine.1 over c e s r.goes.is r.goes.sure r.goes.next r.turned fine.0
  step_keeps (Again e c ∷ cs) [] done r fine over = absurd r
  step_keeps (Leave x ∷ cs) (s ∷ ss) done r fine over = record { ready = r; begun = fine; ended = over }
  step_keeps (Leave x ∷ cs) [] done r fine over = absurd r
  step_keeps (Return f names ∷ cs) (t ∷ s ∷ ss) done r fine over =
      some_keeps _ (find_proc f code.procs) _ r (λ e found ready. record { ready = ready; begun = fine; ended = over })
  step_keeps (Return f names ∷ cs) (t ∷ []) done r fine over = absurd r
  step_keeps (Return f names ∷ cs) [] done r fine over = absurd r
  step_keeps (Give_back m o names ∷ cs) (t ∷ s ∷ ss) done r fine over =
      some_keeps _ (find_module m code.modules) _ r (λ d is r. some_keeps _ (find_proc o d.operations) _ r (λ e found ready. record { ready = ready; begun = fine; ended = over }))
  step_keeps (Give_back m o names ∷ cs) (t ∷ []) done r fine over = absurd r
  step_keeps (Give_back m o names ∷ cs) [] done r fine over = absurd r
  step_keeps (Begin m n c ∷ cs) (t ∷ s ∷ ss) done r fine over = some_keeps _ (find_module m code.modules) _ r (λ d is g. goes_keeps n c (hold true d t.own s) cs ss done fine over g)
  step_keeps (Begin m n c ∷ cs) (t ∷ []) done r fine over = absurd r
  step_keeps (Begin m n c ∷ cs) [] done r fine over = absurd r
  step_keeps (Close m ∷ cs) (s ∷ ss) done r fine over = some_keeps _ (find_module m code.modules) _ r (λ d is ready. record { ready = ready; begun = fine; ended = over })
  step_keeps (Close m ∷ cs) [] done r fine over = absurd r

  steps_keep : (n : ℕ) (c : Config) → Keeps c → AfterStep (steps code n c)
  steps_keep zero c h = h
  steps_keep (suc n) c h = go (step code c) (step_keeps c.commands c.stack c.over h.ready h.begun h.ended) (λ d. steps_keep n d)
    where
      go : (x : Stepped) → AfterStep x → ((d : Config) → Keeps d → AfterStep (steps code n d)) → AfterStep (one x (steps code n))
      go (Ok d) h more = more d h
      go (Err w) h more = h

  pub stay_within : (p k i : ℕ) (c : Prog) (s : State) → is_code c ≡ true → Sure E p k c s → (n : ℕ) (d : Config)
      → steps code n (config (Run i c ∷ []) (s ∷ []) []) ≡ Ok d → Each IsWithin (trace d)
  stay_within p k i c s ic h n d e =
      let keeps = subst AfterStep e (steps_keep n (config (Run i c ∷ []) (s ∷ []) []) (record {
        ready = record { place = p; levels = k; is = ic; sure = h; next = λ t x. tt };
        begun = tt;
        ended = tt;
      })) in
      each_append (pending d.commands) d.over keeps.begun keeps.ended
