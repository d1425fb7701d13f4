-- More that may be called: more ends, sure at more states, and no new ends where it was sure.
use Rattle.std.proofs.Common.{◌≡◌, sym, subst, ℕ, zero, suc, ◌+◌, ◌≤◌, ◌<◌, List, Some, ◌⊎◌, inl, inr, arith, lt_irrefl, ⊎_elim, ◌-◌}
use Rattle.rw_terms.specs.declared.term.Term.{Term}
use Rattle.rw_terms.specs.declared.term.Formula.{Formula}
use Rattle.rw_programs.specs.declared.prog.ModCode.{ModCode}
use Rattle.rw_programs.specs.declared.prog.ProcCode.{ProcCode}
use Rattle.rw_programs.specs.declared.prog.Prog.{Prog, Spec, Kid, Skip, Assign, If', Do', Call, OpCall, Row_of-Arm, end_of-Arm, more_of-Arm}
use Rattle.rw_programs.specs.Made.{Seq, Block, Con, ModBlock}
use Rattle.rw_programs.specs.State.{Name, State}
use Rattle.rw_programs.specs.Tables.{Table, find_module, find_proc}
use Rattle.rw_programs.specs.Meaning.{Bodies, either, own_bodies, bodies_before, bodies, ends_by, sure_by, arm_ends, arms_sure, NoGuard, GuardsDefined, Chain, IsBound, MayEnd, Sure}
use Rattle.rw_meaning.proofs.Options.{some_map, some_map₂}

-- what three facts say that the second is the first, grown
pub record Grows (S S' : State → Type 0) (N N' : State → State → Type 0) : Type 0 where
  pub sure : (s : State) → S s → S' s
  pub ends : (s t : State) → N s t → N' s t
  pub same : (s t : State) → S s → N' s t → N s t

abbrev pub BodiesGrow : Bodies → Bodies → Type 0
BodiesGrow a b = (q : ℕ) (c : Prog) → Grows (a.sure q c) (b.sure q c) (a.ends q c) (b.ends q c)

chain_map : (R Q : State → State → Type 0) → ((s t : State) → R s t → Q s t) → (k : ℕ) (s t : State) → Chain R k s t → Chain Q k s t
chain_map R Q f zero s t e = e
chain_map R Q f (suc k) s t e = (e.0, chain_map R Q f k s e.0 e.1, f e.0 t e.2)

-- so of the bodies of the table's procedures
abbrev pub ProcsGrow : Table → Bodies → Bodies → Type 0
ProcsGrow E a b = (f : Name) (e : ProcCode) → find_proc f E.procs ≡ Some e → Grows (a.sure e.place e.body) (b.sure e.place e.body) (a.ends e.place e.body) (b.ends e.place e.body)

-- and of all bodies at the places of its modules
abbrev pub ModulesGrow : Table → Bodies → Bodies → Type 0
ModulesGrow E a b = (m : Name) (d : ModCode) → find_module m E.modules ≡ Some d → (c : Prog) → Grows (a.sure d.place c) (b.sure d.place c) (a.ends d.place c) (b.ends d.place c)

module _ (E : Table) (a b before before' : Bodies) (g : ProcsGrow E a b) (gb : ModulesGrow E before before') where
  abbrev ProgGrows : Prog → Type 0
  ProgGrows c = Grows (sure_by E a before c) (sure_by E b before' c) (ends_by E a before c) (ends_by E b before' c)

  abbrev ArmsGrow : {m : _} → Row_of-Arm m → Type 0
  ArmsGrow c = Grows (arms_sure E a before c) (arms_sure E b before' c) (arm_ends E a before c) (arm_ends E b before' c)

  -- where each state of the chains is sure, the chains are the same
  chain_same : {m : _} (c : Row_of-Arm m) → ArmsGrow c → (s : State) → ((k : ℕ) (t : State) → Chain (arm_ends E a before c) k s t → arms_sure E a before c t)
      → (k : ℕ) (t : State) → Chain (arm_ends E b before' c) k s t → Chain (arm_ends E a before c) k s t
  chain_same c gc s h zero t e = e
  chain_same c gc s h (suc k) t e = let e0 = chain_same c gc s h k e.0 e.1 in (e.0, e0, gc.same e.0 t (h k e.0 e0) e.2)

  seq_grows : (c d : Prog) → ProgGrows c → ProgGrows d → ProgGrows (Seq c d)
  seq_grows c d gc gd = record {
    sure = λ s h. (gc.sure s h.0, λ m e. gd.sure m (h.1 m (gc.same s m h.0 e)));
    ends = λ s t e. (e.0, gc.ends s e.0 e.1, gd.ends e.0 t e.2);
    same = λ s t h e. let e0 = gc.same s e.0 h.0 e.1 in (e.0, e0, gd.same e.0 t (h.1 e.0 e0) e.2);
  }

  -- the same of a loop over the arms
  abbrev LoopSure : (Bodies → Bodies → {m : _} → Term → Row_of-Arm m → State → Type 0)
  LoopSure calls before variant c s =
      ((n : ℕ) × ((k : ℕ) (t : State) → Chain (arm_ends E calls before c) k s t → k ≤ n) × IsBound E.by_variant variant s n)
      × ((k : ℕ) (t : State) → Chain (arm_ends E calls before c) k s t → GuardsDefined c t × arms_sure E calls before c t)

  abbrev LoopEnds : (Bodies → Bodies → {m : _} → Row_of-Arm m → State → State → Type 0)
  LoopEnds calls before c s t = ((n : ℕ) × Chain (arm_ends E calls before c) n s t) × NoGuard E.library c t

  loop_grows : {m : _} (variant : Term) (c : Row_of-Arm m) → ArmsGrow c → Grows (LoopSure a before variant c) (LoopSure b before' variant c) (LoopEnds a before c) (LoopEnds b before' c)
  loop_grows variant c gc = record {
    sure = λ s h.
        let same = chain_same c gc s (λ k t e. (h.1 k t e).1) in (
          (h.0.0, (λ k t e. h.0.1 k t (same k t e)), h.0.2),
          λ k t e. let f = h.1 k t (same k t e) in (f.0, gc.sure t f.1),
        );
    ends = λ s t e. ((e.0.0, chain_map _ _ gc.ends e.0.0 s t e.0.1), e.1);
    same = λ s t h e. ((e.0.0, chain_same c gc s (λ k t e. (h.1 k t e).1) e.0.0 t e.0.1), e.1);
  }

  call_grows : (f : Name) (args : List Term) (names : List Name) → ProgGrows (Call f args names)
  call_grows f args names = record {
    sure = λ s h. (h.0, some_map (find_proc f E.procs) _ _ (λ e is hs i bi. (g f e is).sure i (hs i bi)) h.1);
    ends = λ s t x. some_map (find_proc f E.procs) _ _ (λ e is y. (y.0, y.1, y.2, (g f e is).ends y.0 y.1 y.3, y.4)) x;
    same = λ s t h x. some_map₂ (find_proc f E.procs) _ _ _ (λ e is hs y. (y.0, y.1, y.2, (g f e is).same y.0 y.1 (hs y.0 y.2) y.3, y.4)) h.1 x;
  }

  op_grows : (m o : Name) (args : List Term) (names : List Name) → ProgGrows (OpCall m o args names)
  op_grows m o args names = record {
    sure = λ s h. (h.0, some_map (find_module m E.modules) _ _ (λ d is. some_map (find_proc o d.operations) _ _ (λ e ie hs i bi. (gb m d is e.body).sure i (hs i bi))) h.1);
    ends = λ s t x. some_map (find_module m E.modules) _ _ (λ d is. some_map (find_proc o d.operations) _ _ (λ e ie y. (y.0, y.1, y.2, (gb m d is e.body).ends y.0 y.1 y.3, y.4))) x;
    same = λ s t h x. some_map₂ (find_module m E.modules) _ _ _ (λ d is. some_map₂ (find_proc o d.operations) _ _ _ (λ e ie hs y. (y.0, y.1, y.2, (gb m d is e.body).same y.0 y.1 (hs y.0 y.2) y.3, y.4))) h.1 x;
  }

  mod_grows : (m : Name) (c : Prog) → ProgGrows c → ProgGrows (ModBlock m c)
  mod_grows m c gc = record {
    sure = λ s h. some_map (find_module m E.modules) _ _ (λ d is hs vs hv. let st = hs vs hv in
        ((gb m d is d.start).sure _ st.0, λ i ei. gc.sure _ (st.1 i ((gb m d is d.start).same _ i st.0 ei)))) h;
    ends = λ s t x. some_map (find_module m E.modules) _ _ (λ d is y. (y.0, y.1, y.2, y.3, (gb m d is d.start).ends _ y.1 y.4, gc.ends _ y.2 y.5, y.6)) x;
    same = λ s t h x. some_map₂ (find_module m E.modules) _ _ _ (λ d is hs y. let st = hs y.0 y.3 in
        let e0 = (gb m d is d.start).same _ y.1 st.0 y.4 in (y.0, y.1, y.2, y.3, e0, gc.same _ y.2 (st.1 y.1 e0) y.5, y.6)) h x;
  }

  arm_grows : {m : _} (f : Formula) (c : Prog) (rest : Row_of-Arm m) → ProgGrows c → ArmsGrow rest → ArmsGrow (more_of-Arm f c rest)
  arm_grows f c rest gc gr = record { sure = λ s h. (λ hg. gc.sure s (h.0 hg), gr.sure s h.1); ends = up; same = back }
    where
      up : (s t : State) → arm_ends E a before (more_of-Arm f c rest) s t → arm_ends E b before' (more_of-Arm f c rest) s t
      up s t (inl e) = inl (e.0, gc.ends s t e.1)
      up s t (inr e) = inr (gr.ends s t e)

      back : (s t : State) → arms_sure E a before (more_of-Arm f c rest) s → arm_ends E b before' (more_of-Arm f c rest) s t → arm_ends E a before (more_of-Arm f c rest) s t
      back s t h (inl e) = inl (e.0, gc.same s t (h.0 e.0) e.1)
      back s t h (inr e) = inr (gr.same s t h.1 e)

  mutual
    pub prog_grows : (c : Prog) → ProgGrows c
    prog_grows (Spec w) = record { sure = λ s h. h; ends = λ s t e. e; same = λ s t h e. e }
    prog_grows (Kid n) = record { sure = λ s h. h; ends = λ s t e. e; same = λ s t h e. e }
    prog_grows Skip = record { sure = λ s h. h; ends = λ s t e. e; same = λ s t h e. e }
    prog_grows (Assign xs es) = record { sure = λ s h. h; ends = λ s t e. e; same = λ s t h e. e }
    prog_grows (Seq c d) = seq_grows c d (prog_grows c) (prog_grows d)
    prog_grows (If' shape arms) = let r = arms_grow arms in
        record { sure = λ s h. (h.0, h.1, r.sure s h.2); ends = r.ends; same = λ s t h e. r.same s t h.2 e }
    prog_grows (Do' v shape arms) = let r = loop_grows v arms (arms_grow arms) in record { sure = r.sure; ends = r.ends; same = r.same }
    prog_grows (Block x sort c) = let r = prog_grows c in record {
      sure = λ s h v hv. r.sure _ (h v hv);
      ends = λ s t e. (e.0, e.1, e.2, r.ends _ e.1 e.3, e.4);
      same = λ s t h e. (e.0, e.1, e.2, r.same _ e.1 (h e.0 e.2) e.3, e.4);
    }
    prog_grows (Con pins c) = let r = prog_grows c in record {
      sure = λ s h. r.sure _ h;
      ends = λ s t e. (e.0, r.ends _ e.0 e.1, e.2);
      same = λ s t h e. (e.0, r.same _ e.0 h e.1, e.2);
    }
    prog_grows (Call f args names) = call_grows f args names
    prog_grows (OpCall m o args names) = op_grows m o args names
    prog_grows (ModBlock m c) = mod_grows m c (prog_grows c)

    arms_grow : {m : _} (c : Row_of-Arm m) → ArmsGrow c
    arms_grow end_of-Arm = record { sure = λ s h. h; ends = λ s t e. e; same = λ s t h e. e }
    arms_grow (more_of-Arm f c rest) = arm_grows f c rest (prog_grows c) (arms_grow rest)

-- the bodies before a place stand at smaller places
pub sure_below : (E : Table) (p q : ℕ) (c : Prog) (s : State) → (bodies_before E p).sure q c s → q < p
sure_below E zero q c s h = absurd h
sure_below E (suc p) q c s (inl h) = let l = sure_below E p q c s h in omega (arith, l)
sure_below E (suc p) q c s (inr h) = omega (arith, h.0)

pub ends_below : (E : Table) (p q : ℕ) (c : Prog) (s t : State) → (bodies_before E p).ends q c s t → q < p
ends_below E zero q c s t h = absurd h
ends_below E (suc p) q c s t (inl h) = let l = ends_below E p q c s t h in omega (arith, l)
ends_below E (suc p) q c s t (inr h) = omega (arith, h.0)

same_bodies : (a : Bodies) → BodiesGrow a a
same_bodies a q c = record { sure = λ s h. h; ends = λ s t e. e; same = λ s t h e. e }

-- what grows at all places does so at those of the table
all_procs : (E : Table) (a b : Bodies) → BodiesGrow a b → ProcsGrow E a b
all_procs E a b g f e is = g e.place e.body

all_modules : (E : Table) (a b : Bodies) → BodiesGrow a b → ModulesGrow E a b
all_modules E a b g m d is = g d.place

-- what stands at p grows beside what stands before p
either_grows : (E : Table) (p : ℕ) (a b : Bodies) → ((q : ℕ) (c : Prog) (s t : State) → b.ends q c s t → q ≡ p)
    → BodiesGrow a b → BodiesGrow (either a (bodies_before E p)) (either b (bodies_before E p))
either_grows E p a b at g q c = record { sure = sure; ends = ends; same = same }
  where
    sure : (s : State) → (either a (bodies_before E p)).sure q c s → (either b (bodies_before E p)).sure q c s
    sure s (inl h) = inl ((g q c).sure s h)
    sure s (inr h) = inr h

    ends : (s t : State) → (either a (bodies_before E p)).ends q c s t → (either b (bodies_before E p)).ends q c s t
    ends s t (inl h) = inl ((g q c).ends s t h)
    ends s t (inr h) = inr h

    same : (s t : State) → (either a (bodies_before E p)).sure q c s → (either b (bodies_before E p)).ends q c s t → (either a (bodies_before E p)).ends q c s t
    same s t (inl h) (inl e) = inl ((g q c).same s t h e)
    same s t (inl h) (inr e) = inr e
    same s t (inr h) (inl e) = let l = sure_below E p q c s h in let i = at q c s t e in absurd (lt_irrefl p (subst (λ r. r < p) i l))
    same s t (inr h) (inr e) = inr e

own_grows : (E : Table) (p k : ℕ) → BodiesGrow (own_bodies E (bodies_before E p) p k) (own_bodies E (bodies_before E p) p (suc k))
own_grows E p zero q c = record { sure = λ s h. absurd h; ends = λ s t e. absurd e; same = λ s t h e. absurd h }
own_grows E p (suc k) q c =
    let B = bodies_before E p in
    let r = prog_grows E (either (own_bodies E B p k) B) (either (own_bodies E B p (suc k)) B) B B
    (all_procs E _ _ (either_grows E p _ _ (λ q c s t e. e.0) (own_grows E p k))) (all_modules E B B (same_bodies B)) c in
    record { sure = λ s h. (h.0, r.sure s h.1); ends = λ s t e. (e.0, r.ends s t e.1); same = λ s t h e. (e.0, r.same s t h.1 e.1) }

-- one level more
level_grows : (E : Table) (p k : ℕ) (c : Prog) → Grows (Sure E p k c) (Sure E p (suc k) c) (MayEnd E p k c) (MayEnd E p (suc k) c)
level_grows E p k c =
    prog_grows E (bodies E p k) (bodies E p (suc k)) (bodies_before E p) (bodies_before E p)
    (all_procs E _ _ (either_grows E p _ _ (λ q c s t e. e.0) (own_grows E p k))) (all_modules E (bodies_before E p) (bodies_before E p) (same_bodies _)) c

pub levels_grow : (E : Table) (p : ℕ) (c : Prog) (k j : ℕ) → k ≤ j → Grows (Sure E p k c) (Sure E p j c) (MayEnd E p k c) (MayEnd E p j c)
levels_grow E p c k j le = go j (cases_le k j le)
  where
    cases_le : (k j : ℕ) → k ≤ j → (d : ℕ) × (k + d ≡ j)
    cases_le k j le = (j - k, omega arith)

    go : (j : ℕ) → (d : ℕ) × (k + d ≡ j) → Grows (Sure E p k c) (Sure E p j c) (MayEnd E p k c) (MayEnd E p j c)
    go j (d, e) = subst (λ j. Grows (Sure E p k c) (Sure E p j c) (MayEnd E p k c) (MayEnd E p j c)) e (up d)
      where
        up : (d : ℕ) → Grows (Sure E p k c) (Sure E p (k + d) c) (MayEnd E p k c) (MayEnd E p (k + d) c)
        up zero = let z : k ≡ k + 0 = omega arith in subst (λ j. Grows (Sure E p k c) (Sure E p j c) (MayEnd E p k c) (MayEnd E p j c)) z (record { sure = λ s h. h; ends = λ s t e. e; same = λ s t h e. e })
        up (suc d) = let z : suc (k + d) ≡ k + suc d = omega arith in let f = up d in let g = level_grows E p (k + d) c in
            subst (λ j. Grows (Sure E p k c) (Sure E p j c) (MayEnd E p k c) (MayEnd E p j c)) z
            (record { sure = λ s h. g.sure s (f.sure s h); ends = λ s t e. g.ends s t (f.ends s t e); same = λ s t h e. f.same s t h (g.same s t (f.sure s h) e) })

-- from a sure state the ends are the same with every number of levels that has them
pub ends_of_any : (E : Table) (p : ℕ) (c : Prog) (k j : ℕ) (s t : State) → Sure E p k c s → MayEnd E p j c s t → MayEnd E p k c s t
ends_of_any E p c k j s t h e = ⊎_elim (λ le. (levels_grow E p c k j le).same s t h e) (λ le. (levels_grow E p c j k le).ends s t e) (le_or k j)
  where
    le_or : (k j : ℕ) → (k ≤ j) ⊎ (j ≤ k)
    le_or k j = grind arith

-- What the bodies before p do, in words: those at a smaller place, with some number of levels.
pub before_ends : (E : Table) (p q : ℕ) (c : Prog) (s t : State) → (bodies_before E p).ends q c s t → (q < p) × ((j : ℕ) × MayEnd E q j c s t)
before_ends E zero q c s t h = absurd h
before_ends E (suc p) q c s t (inl h) = let r = before_ends E p q c s t h in (omega (arith, r.0), r.1)
before_ends E (suc p) q c s t (inr h) = (omega (arith, h.0), (h.1.0, subst (λ r. MayEnd E r h.1.0 c s t) (sym h.0) h.1.1))

pub ends_before : (E : Table) (p q : ℕ) (c : Prog) (s t : State) → q < p → (j : ℕ) × MayEnd E q j c s t → (bodies_before E p).ends q c s t
ends_before E zero q c s t l m = absurd (omega (arith, l))
ends_before E (suc p) q c s t l m = ⊎_elim (λ e. inr (e, (m.0, subst (λ r. MayEnd E r m.0 c s t) e m.1))) (λ l. inl (ends_before E p q c s t l m)) (cases q p l)
  where
    cases : (q p : ℕ) → q < suc p → (q ≡ p) ⊎ (q < p)
    cases q p l = grind arith

pub before_sure : (E : Table) (p q : ℕ) (c : Prog) (s : State) → (bodies_before E p).sure q c s → (q < p) × ((j : ℕ) × Sure E q j c s)
before_sure E zero q c s h = absurd h
before_sure E (suc p) q c s (inl h) = let r = before_sure E p q c s h in (omega (arith, r.0), r.1)
before_sure E (suc p) q c s (inr h) = (omega (arith, h.0), (h.1.0, subst (λ r. Sure E r h.1.0 c s) (sym h.0) h.1.1))

pub sure_before : (E : Table) (p q : ℕ) (c : Prog) (s : State) → q < p → (j : ℕ) × Sure E q j c s → (bodies_before E p).sure q c s
sure_before E zero q c s l m = absurd (omega (arith, l))
sure_before E (suc p) q c s l m = ⊎_elim (λ e. inr (e, (m.0, subst (λ r. Sure E r m.0 c s) e m.1))) (λ l. inl (sure_before E p q c s l m)) (cases q p l)
  where
    cases : (q p : ℕ) → q < suc p → (q ≡ p) ⊎ (q < p)
    cases q p l = grind arith
