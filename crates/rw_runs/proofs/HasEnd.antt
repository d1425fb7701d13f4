-- Code that is sure has an end.
use Rattle.std.proofs.Common.{◌≡◌, refl, ℕ, zero, suc, ◌+◌, ◌≤◌, true, Option, Some, None, IsSomeAnd, ◌⊎◌, inl, inr, ◌&&◌, arith, Bool}
use Rattle.rw_terms.specs.declared.term.Formula.{Formula}
use Rattle.rw_programs.specs.declared.prog.Code.{Code}
use Rattle.rw_programs.specs.declared.prog.Prog.{Prog, Spec, Kid, Skip, Assign, If', Do', Call, OpCall, Row_of-Arm, end_of-Arm, more_of-Arm}
use Rattle.rw_programs.specs.Made.{Seq, Block, Con, ModBlock}
use Rattle.rw_programs.specs.State.{State, Holds, empty}
use Rattle.rw_programs.specs.Tables.{Table, find_proc, find_module, held}
use Rattle.rw_programs.specs.CodeTest.{is_plain, is_guard, is_code, are_code}
use Rattle.rw_programs.specs.Meaning.{values, NoGuard, Chain, Bodies, either, own_bodies, bodies_before, bodies, ends_by, sure_by, arm_ends, arms_sure, MayEnd, Sure}
use Rattle.rw_runs.specs.Ends.{table_of}
use Rattle.rw_frames.specs.Bodies.{zero_of, zeros, begun}
use Rattle.rw_runs.proofs.Landing.{BodiesAreCode}
use Rattle.rw_evaluation.proofs.Evaluations.{guard_known, both_true}
use Rattle.rw_runs.proofs.Runs.{zero_has_sort, zeros_fit, some_is, begun_begins}

-- what is there, if something is said of what is there
some_a : {A : Type 0} (P : A → Type 0) (o : Option A) → IsSomeAnd o P → (a : A) × (o ≡ Some a) × P a
some_a P None h = absurd h
some_a P (Some a) h = (a, refl, h)

module _ (by : Bool) (code : Code) (coded : BodiesAreCode code) where
  abbrev E : Table
  E = table_of by code

  abbrev BodiesEnd : Bodies → Type 0
  BodiesEnd b = (q : ℕ) (c : Prog) (s : State) → is_code c ≡ true → b.sure q c s → (t : State) × b.ends q c s t

  module _ (calls before : Bodies) (end_calls : BodiesEnd calls) (end_before : BodiesEnd before) where
    abbrev S : Prog → State → Type 0
    S = sure_by E calls before

    abbrev N : Prog → State → State → Type 0
    N = ends_by E calls before

    -- a turn, or no guard holds
    abbrev Turn : {m : _} → Row_of-Arm m → State → Type 0
    Turn arms s = NoGuard E.library arms s ⊎ ((t : State) × arm_ends E calls before arms s t)

    first_of : {m : _} (g : Formula) (c : Prog) (rest : Row_of-Arm m) (s : State) → Holds E.library g s s ⊎ (¬ (Holds E.library g s s))
        → (Holds E.library g s s → (t : State) × N c s t) → Turn rest s → Turn (more_of-Arm g c rest) s
    first_of g c rest s (inl h) run more = let e = run h in inr (e.0, inl (h, e.1))
    first_of g c rest s (inr n) run (inl none) = inl (n, none)
    first_of g c rest s (inr n) run (inr e) = inr (e.0, inr e.1)

    module _ {m : _} (arms : Row_of-Arm m) (s : State) (bound : (n : ℕ) × ((k : ℕ) (t : State) → Chain (arm_ends E calls before arms) k s t → k ≤ n))
        (turn : (k : ℕ) (t : State) → Chain (arm_ends E calls before arms) k s t → Turn arms t) where
      abbrev Last : Type 0
      Last = (t : State) × (((n : ℕ) × Chain (arm_ends E calls before arms) n s t) × NoGuard E.library arms t)

      or_last : (k : ℕ) (t : State) → Chain (arm_ends E calls before arms) k s t → ((u : State) → Chain (arm_ends E calls before arms) (suc k) s u → Last) → Turn arms t → Last
      or_last k t ch more (inl none) = (t, ((k, ch), none))
      or_last k t ch more (inr e) = more e.0 (t, ch, e.1)

      -- r turns are left at most
      loop_end : (r k : ℕ) (t : State) → k + r ≡ bound.0 → Chain (arm_ends E calls before arms) k s t → Last
      loop_end zero k t i ch = or_last k t ch (λ u c. let l = bound.1 (suc k) u c in absurd (omega (arith, l, i))) (turn k t ch)
      loop_end (suc r) k t i ch = or_last k t ch (λ u c. loop_end r (suc k) u (omega (arith, i)) c) (turn k t ch)

    chosen_end : {m : _} (arms : Row_of-Arm m) (s : State) → ¬ (NoGuard E.library arms s) → Turn arms s → (t : State) × arm_ends E calls before arms s t
    chosen_end arms s some (inl none) = absurd (some none)
    chosen_end arms s some (inr e) = e

    mutual
      prog_end : (c : Prog) → is_code c ≡ true → (s : State) → S c s → (t : State) × N c s t
      prog_end (Spec w) i s h = absurd (cc)
      prog_end (Kid n) i s h = absurd (cc)
      prog_end Skip i s h = (s, refl)
      prog_end (Assign xs es) i s h = (_, refl)
      prog_end (Seq c d) i s h =
          let j = both_true (is_code c) (is_code d) i in
          let a = prog_end c j.0 s h.0 in
          let b = prog_end d j.1 a.0 (h.1 a.0 a.1) in
          (b.0, (a.0, a.1, b.1))
      prog_end (If' shape arms) i s h = chosen_end arms s h.1 (row_turn arms i s h.2)
      prog_end (Do' v shape arms) i s h =
          loop_end arms s (h.0.0, h.0.1) (λ k t ch. row_turn arms (both_true (is_plain v) (are_code arms) i).1 t (h.1 k t ch).1) h.0.0 0 s (omega arith) refl
      prog_end (Block x sort c) i s h =
          let a = prog_end c i _ (h (zero_of sort) (zero_has_sort sort)) in
          (_, (zero_of sort, a.0, zero_has_sort sort, a.1, refl))
      prog_end (Con pins c) i s h = absurd (cc)
      prog_end (Call f args names) i s h =
          let e = some_a _ (find_proc f code.procs) h.1 in
          let begins = begun_begins empty e.0 (values args s) (values args s) refl in
          let b = end_calls e.0.place e.0.body (begun empty e.0 (values args s)) (coded.procs f e.0 e.1) (e.2 _ begins) in
          (_, some_is _ (find_proc f code.procs) e.0 e.1 (_, b.0, begins, b.1, refl))
      prog_end (OpCall m o args names) i s h =
          let d = some_a _ (find_module m code.modules) h.1 in
          let e = some_a _ (find_proc o d.0.operations) d.2 in
          let begins = begun_begins (held true d.0 s) e.0 (values args s) (values args s) refl in
          let b = end_before d.0.place e.0.body (begun (held true d.0 s) e.0 (values args s)) (coded.operations m d.0 d.1 o e.0 e.1) (e.2 _ begins) in
          (_, some_is _ (find_module m code.modules) d.0 d.1 (some_is _ (find_proc o d.0.operations) e.0 e.1 (_, b.0, begins, b.1, refl)))
      prog_end (ModBlock m c) i s h =
          let d = some_a _ (find_module m code.modules) h in
          let fit = zeros_fit d.0.state in
          let a = end_before d.0.place d.0.start _ (coded.starts m d.0 d.1) (d.2 (zeros d.0.state) fit).0 in
          let b = prog_end c i _ ((d.2 (zeros d.0.state) fit).1 a.0 a.1) in
          (_, some_is _ (find_module m code.modules) d.0 d.1 (zeros d.0.state, a.0, b.0, fit, a.1, b.1, refl))

      row_turn : {m : _} (arms : Row_of-Arm m) → are_code arms ≡ true → (s : State) → arms_sure E calls before arms s → Turn arms s
      row_turn end_of-Arm i s h = inl tt
      row_turn (more_of-Arm g c rest) i s h =
          let j = both_true (is_guard g) (is_code c && are_code rest) i in
          let k = both_true (is_code c) (are_code rest) j.1 in
          first_of g c rest s (guard_known E.library s.own g j.0) (λ hg. prog_end c k.0 s (h.0 hg)) (row_turn rest k.1 s h.1)

  either_end : (a b : Bodies) → BodiesEnd a → BodiesEnd b → BodiesEnd (either a b)
  either_end a b ra rb q c s i (inl h) = let e = ra q c s i h in (e.0, inl e.1)
  either_end a b ra rb q c s i (inr h) = let e = rb q c s i h in (e.0, inr e.1)

  own_end : (p : ℕ) → BodiesEnd (bodies_before E p) → (k : ℕ) → BodiesEnd (own_bodies E (bodies_before E p) p k)
  own_end p rb zero q c s i h = absurd h
  own_end p rb (suc k) q c s i h = let e = prog_end (bodies E p k) (bodies_before E p) (either_end _ _ (own_end p rb k) rb) rb c i s h.1 in (e.0, (h.0, e.1))

  before_end : (p : ℕ) → BodiesEnd (bodies_before E p)
  before_end zero q c s i h = absurd h
  before_end (suc p) q c s i (inl h) = let e = before_end p q c s i h in (e.0, inl e.1)
  before_end (suc p) q c s i (inr h) =
      let e = prog_end (bodies E p h.1.0) (bodies_before E p) (either_end _ _ (own_end p (before_end p) h.1.0) (before_end p)) (before_end p) c i s h.1.1 in
      (e.0, inr (h.0, (h.1.0, e.1)))

  pub sure_has_end : (p k : ℕ) (c : Prog) → is_code c ≡ true → (s : State) → Sure E p k c s → (t : State) × MayEnd E p k c s t
  sure_has_end p k c i s h = prog_end (bodies E p k) (bodies_before E p) (either_end _ _ (own_end p (before_end p) k) (before_end p)) (before_end p) c i s h
