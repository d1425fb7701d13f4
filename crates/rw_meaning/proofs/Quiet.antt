-- A program that mentions none of some names keeps their values and does not look at them.
use Rattle.std.proofs.Common.{◌≡◌, ◌↔◌, ◌≤◌, refl, sym, ap, ◌∙◌, subst, ℕ, zero, suc, Bool, true, false, ◌||◌, List, [], ◌∷◌, Option, Some, inl, inr, true≢false}
use Rattle.std.proofs.lemmas.Bool.{or_parts, or_from}
use Rattle.rw_terms.specs.declared.term.Term.{Term}
use Rattle.rw_terms.specs.declared.term.Formula.{Formula}
use Rattle.rw_terms.specs.Mentions.{mentions, terms_mention, formula_mentions}
use Rattle.rw_terms.specs.State.{Value, whole, given, State as Map}
use Rattle.rw_terms.specs.Value.{value}
use Rattle.rw_terms.specs.Agreement.{AgreeOn}
use Rattle.rw_terms.specs.Truth.{Definition}
use Rattle.rw_terms.proofs.Agree.{values_agree, truth_agrees, and_iff, not_iff}
use Rattle.rw_programs.specs.declared.prog.ModCode.{ModCode}
use Rattle.rw_programs.specs.declared.prog.ProcCode.{ProcCode}
use Rattle.rw_programs.specs.declared.prog.Spec.{Spec as Promise}
use Rattle.rw_programs.specs.declared.prog.Prog.{Prog, Spec, Kid, Skip, Assign, If', Do', Call, OpCall, Row_of-Arm, end_of-Arm, more_of-Arm}
use Rattle.rw_programs.specs.Made.{Seq, Block, Con, ModBlock}
use Rattle.rw_programs.specs.State.{Name, State, Holds, SameSort, Within, empty, is_in, put_all, read_all, names_of, with_own}
use Rattle.rw_programs.specs.Tables.{Table, find_proc, find_module, pin_names, pin_terms, Begins, returned, held, hold}
use Rattle.rw_programs.specs.Meaning.{Bodies, values, AllDefined, ends_by, sure_by, arm_ends, arms_sure, NoGuard, GuardsDefined, Chain, at_least_0, IsBound}
use Rattle.rw_programs.proofs.Frames.{put_all_off}
use Rattle.rw_meaning.specs.Filling.{brings_of}
use Rattle.rw_meaning.specs.Mention.{is_brought, prog_mentions, row_mentions}
use Rattle.rw_meaning.proofs.DefinedAgree.{terms_defined, guard_defined}
use Rattle.rw_meaning.proofs.Modules.{brought_off, hold_off}
use Rattle.rw_meaning.proofs.Options.{some_use, some_map}
use Rattle.rw_meaning.proofs.Overlays.{in_or_off, own_is, laid, over, laid_on, laid_off, over_is, over_again, over_own, Apart, put_all_laid, held_laid, hold_laid}

-- an end keeps the values of the names; from the state with other values there is the end with these
pub record Moves (names : List Name) (N : State → State → Type 0) : Type 0 where
  pub keeps : (s t : State) → N s t → (x : Name) → is_in x names ≡ true → t.own x ≡ s.own x
  pub ends : (m : Map) (s t : State) → N s t → N (over names m s) (over names m t)

-- what is sure is so with other values of the names, too
pub record Quiet (names : List Name) (S : State → Type 0) (N : State → State → Type 0) : Type 0 where
  pub moves : Moves names N
  pub sure : (m : Map) (s : State) → S s → S (over names m s)

module _ (names : List Name) where
  -- an end from the state with other values is one from the state, with these values put back
  pub back : (N : State → State → Type 0) → Moves names N → (m : Map) (s t : State) → N (over names m s) t → N s (over names s.own t)
  back N q m s t e = subst (λ u. N u (over names s.own t)) (over_again names s.own m s ∙ over_own names s) (q.ends s.own (over names m s) t e)

  again : (N : State → State → Type 0) → Moves names N → (m : Map) (s t : State) → N (over names m s) t → over names m (over names s.own t) ≡ t
  again N q m s t e =
      over_is names m (over names s.own t) t (λ x h. q.keeps (over names m s) t e x h ∙ laid_on names m s.own x h)
      (record { off = λ x h. sym (laid_off names s.own t.own x h); parts = refl })

  chain_moves : (N : State → State → Type 0) → Moves names N → (k : ℕ) → Moves names (Chain N k)
  chain_moves N q zero = record { keeps = λ s t e x h. own_is t s (sym e) x; ends = λ m s t e. ap (over names m) e }
  chain_moves N q (suc k) = let r = chain_moves N q k in record {
    keeps = λ s t e x h. q.keeps e.0 t e.2 x h ∙ r.keeps s e.0 e.1 x h;
    ends = λ m s t e. (over names m e.0, r.ends m s e.0 e.1, q.ends m e.0 t e.2);
  }

  -- the test holds of none of the names
  abbrev pub Calm : (Name → Bool) → Type 0
  Calm test = (x : Name) → is_in x names ≡ true → test x ≡ false

  first : (f g : Name → Bool) → Calm (λ x. f x || g x) → Calm f
  first f g q x h = (or_parts (f x) (g x) (q x h)).0

  second : (f g : Name → Bool) → Calm (λ x. f x || g x) → Calm g
  second f g q x h = (or_parts (f x) (g x) (q x h)).1

  agree : (test : Name → Bool) → Calm test → (m s0 s : Map) → AgreeOn test s0 s (laid names m s0) (laid names m s)
  agree test q m s0 s x h =
      in_or_off (is_in x names) (λ k. absurd (true≢false (sym h ∙ q x k)))
      (λ k. (ap given (sym (laid_off names m s0 x k)), ap given (sym (laid_off names m s x k))))

  -- formulas and terms that do not mention them
  holds_over : (library : List Definition) (f : Formula) → Calm (λ x. formula_mentions x f) → (m : Map) (s0 s : State) → Holds library f s0 s ↔ Holds library f (over names m s0) (over names m s)
  holds_over library f q m s0 s = truth_agrees library f s0.own s.own (laid names m s0.own) (laid names m s.own) (agree (λ x. formula_mentions x f) q m s0.own s.own) []

  value_over : (t : Term) → Calm (λ x. mentions x t) → (m : Map) (s : State) → value s.own s.own [] t ≡ value (laid names m s.own) (laid names m s.own) [] t
  value_over t q m s = values_agree t s.own s.own (laid names m s.own) (laid names m s.own) (agree (λ x. mentions x t) q m s.own s.own) []

  values_over : (ts : List Term) → Calm (λ x. terms_mention x ts) → (m : Map) (s : State) → values ts s ≡ values ts (over names m s)
  values_over [] q m s = refl
  values_over (t ∷ ts) q m s =
      let p = value_over t (first (λ x. mentions x t) (λ x. terms_mention x ts) q) m s in
      let r = values_over ts (second (λ x. mentions x t) (λ x. terms_mention x ts) q) m s in λ i. Some (p i) ∷ r i

  defined_over : (ts : List Term) → Calm (λ x. terms_mention x ts) → (m : Map) (s : State) → AllDefined ts s → AllDefined ts (over names m s)
  defined_over ts q m s h = terms_defined s.own s.own (laid names m s.own) (laid names m s.own) ts (agree (λ x. terms_mention x ts) q m s.own s.own) h

  -- other names that are given values
  set_over : (xs : List Name) (ts : List Term) → Apart names xs → Calm (λ x. terms_mention x ts) → (m : Map) (s : State)
      → over names m (with_own s (put_all xs (values ts s) s.own)) ≡ with_own (over names m s) (put_all xs (values ts (over names m s)) (over names m s).own)
  set_over xs ts apart q m s =
      ap (with_own s) (sym (put_all_laid names xs apart (values ts s) m s.own)) ∙ ap (λ vs. with_own s (put_all xs vs (laid names m s.own))) (values_over ts q m s)

  put_over : (xs : List Name) (vs : List (Option Value)) → Apart names xs → (m : Map) (s : State)
      → over names m (with_own s (put_all xs vs s.own)) ≡ with_own (over names m s) (put_all xs vs (over names m s).own)
  put_over xs vs apart m s = ap (with_own s) (sym (put_all_laid names xs apart vs m s.own))

  spec_off : (w : Promise) → Calm (λ x. is_in x w.frame) → (m : Map) (s t : State) → Within w.frame s t → Within w.frame (over names m s) (over names m t)
  spec_off w q m s t e = record { off = off; sorts = sorts; parts = e.parts }
    where
      off : (x : Name) → is_in x w.frame ≡ false → laid names m t.own x ≡ laid names m s.own x
      off x i =
          in_or_off (is_in x names) (λ k. laid_on names m t.own x k ∙ sym (laid_on names m s.own x k))
          (λ k. laid_off names m t.own x k ∙ e.off x i ∙ sym (laid_off names m s.own x k))

      sorts : (x : Name) → is_in x w.frame ≡ true → SameSort (laid names m s.own x) (laid names m t.own x)
      sorts x i =
          in_or_off (is_in x names) (λ k. absurd (true≢false (sym i ∙ q x k)))
          (λ k. subst (λ v. SameSort v (laid names m t.own x)) (sym (laid_off names m s.own x k)) (subst (SameSort (s.own x)) (sym (laid_off names m t.own x k)) (e.sorts x i)))

module _ (E : Table) (calls before : Bodies) (names : List Name) where
  abbrev S : Prog → State → Type 0
  S = sure_by E calls before

  abbrev N : Prog → State → State → Type 0
  N = ends_by E calls before

  abbrev SA : {m : _} → Row_of-Arm m → State → Type 0
  SA = arms_sure E calls before

  abbrev NA : {m : _} → Row_of-Arm m → State → State → Type 0
  NA = arm_ends E calls before

  abbrev ProgQuiet : Prog → Type 0
  ProgQuiet c = Quiet names (S c) (N c)

  abbrev ArmsQuiet : {m : _} → Row_of-Arm m → Type 0
  ArmsQuiet c = Quiet names (SA c) (NA c)

  abbrev Still : Prog → Type 0
  Still c = Calm names (λ x. prog_mentions (brings_of E) x c)

  abbrev StillRow : {m : _} → Row_of-Arm m → Type 0
  StillRow arms = Calm names (λ x. row_mentions (brings_of E) x arms)

  spec_quiet : (w : Promise) → Still (Spec w) → ProgQuiet (Spec w)
  spec_quiet w q = record {
    moves = record {
      keeps = λ s t e x h. e.0.off x (frame x h);
      ends = λ m s t e. (spec_off names w frame m s t e.0, (holds_over names E.library w.post post m s t).0 e.1);
    };
    sure = λ m s h. (holds_over names E.library w.pre pre m s s).0 h;
  }
    where
      frame : Calm names (λ x. is_in x w.frame)
      frame = first names (λ x. is_in x w.frame) (λ x. formula_mentions x w.pre || formula_mentions x w.post) q

      formulas : Calm names (λ x. formula_mentions x w.pre || formula_mentions x w.post)
      formulas = second names (λ x. is_in x w.frame) (λ x. formula_mentions x w.pre || formula_mentions x w.post) q

      pre : Calm names (λ x. formula_mentions x w.pre)
      pre = first names (λ x. formula_mentions x w.pre) (λ x. formula_mentions x w.post) formulas

      post : Calm names (λ x. formula_mentions x w.post)
      post = second names (λ x. formula_mentions x w.pre) (λ x. formula_mentions x w.post) formulas

  assign_quiet : (xs : List Name) (ts : List Term) → Still (Assign xs ts) → ProgQuiet (Assign xs ts)
  assign_quiet xs ts q =
      let apart = first names (λ x. is_in x xs) (λ x. terms_mention x ts) q in
      let calm = second names (λ x. is_in x xs) (λ x. terms_mention x ts) q in record {
        moves = record {
          keeps = λ s t e x h. own_is t _ e x ∙ put_all_off xs (values ts s) s.own x (apart x h);
          ends = λ m s t e. ap (over names m) e ∙ set_over names xs ts apart calm m s;
        };
        sure = λ m s h. defined_over names ts calm m s h;
      }

  seq_quiet : (c d : Prog) → ProgQuiet c → ProgQuiet d → ProgQuiet (Seq c d)
  seq_quiet c d qc qd = record {
    moves = record {
      keeps = λ s t e x h. qd.moves.keeps e.0 t e.2 x h ∙ qc.moves.keeps s e.0 e.1 x h;
      ends = λ m s t e. (over names m e.0, qc.moves.ends m s e.0 e.1, qd.moves.ends m e.0 t e.2);
    };
    sure = λ m s h. (
      qc.sure m s h.0,
      λ u e. subst (S d) (again names (N c) qc.moves m s u e) (qd.sure m (over names s.own u) (h.1 (over names s.own u) (back names (N c) qc.moves m s u e))),
    );
  }

  block_quiet : (y : Name) (sort : _) (c : Prog) → Apart names (y ∷ []) → ProgQuiet c → ProgQuiet (Block y sort c)
  block_quiet y sort c apart q = record {
    moves = record {
      keeps = λ s t e x h.
          own_is t _ e.4 x ∙ put_all_off (y ∷ []) [] e.1.own x (apart x h)
          ∙ q.moves.keeps (with_own s (put_all (y ∷ []) (Some e.0 ∷ []) s.own)) e.1 e.3 x h ∙ put_all_off (y ∷ []) (Some e.0 ∷ []) s.own x (apart x h);
      ends = λ m s t e. (
        e.0,
        over names m e.1,
        e.2,
        subst (λ u. N c u (over names m e.1)) (put_over names (y ∷ []) (Some e.0 ∷ []) apart m s) (q.moves.ends m (with_own s (put_all (y ∷ []) (Some e.0 ∷ []) s.own)) e.1 e.3),
        ap (over names m) e.4 ∙ put_over names (y ∷ []) [] apart m e.1,
      );
    };
    sure = λ m s h v hv. subst (S c) (put_over names (y ∷ []) (Some v ∷ []) apart m s) (q.sure m (with_own s (put_all (y ∷ []) (Some v ∷ []) s.own)) (h v hv));
  }

  con_quiet : (pins : _) (c : Prog) → Apart names (pin_names pins) → Calm names (λ x. terms_mention x (pin_terms pins)) → ProgQuiet c → ProgQuiet (Con pins c)
  con_quiet pins c apart calm q = record {
    moves = record {
      keeps = λ s t e x h.
          own_is t _ e.2 x ∙ put_all_off (pin_names pins) [] e.0.own x (apart x h)
          ∙ q.moves.keeps (with_own s (put_all (pin_names pins) (values (pin_terms pins) s) s.own)) e.0 e.1 x h ∙ put_all_off (pin_names pins) (values (pin_terms pins) s) s.own x (apart x h);
      ends = λ m s t e. (
        over names m e.0,
        subst (λ u. N c u (over names m e.0)) (set_over names (pin_names pins) (pin_terms pins) apart calm m s)
            (q.moves.ends m (with_own s (put_all (pin_names pins) (values (pin_terms pins) s) s.own)) e.0 e.1),
        ap (over names m) e.2 ∙ put_over names (pin_names pins) [] apart m e.0,
      );
    };
    sure = λ m s h. subst (S c) (set_over names (pin_names pins) (pin_terms pins) apart calm m s) (q.sure m (with_own s (put_all (pin_names pins) (values (pin_terms pins) s) s.own)) h);
  }

  -- the results that a body leaves
  returned_over : (e : ProcCode) (xs : List Name) → Apart names xs → (b : State) (m : Map) (s : State) → over names m (returned e xs b s) ≡ returned e xs b (over names m s)
  returned_over e xs apart b m s = put_over names xs (read_all (names_of e.results) b.own) apart m s

  call_quiet : (f : Name) (args : List Term) (xs : List Name) → Still (Call f args xs) → ProgQuiet (Call f args xs)
  call_quiet f args xs q =
      let apart = first names (λ x. is_in x xs) (λ x. terms_mention x args) q in
      let calm = second names (λ x. is_in x xs) (λ x. terms_mention x args) q in record {
        moves = record {
          keeps = λ s t h x i. some_use (find_proc f E.procs) _ (t.own x ≡ s.own x) (λ e found y. own_is t _ y.4 x ∙ put_all_off xs (read_all (names_of e.results) y.1.own) s.own x (apart x i)) h;
          ends = λ m s t h. some_map (find_proc f E.procs) _ _ (λ e found y. (
            y.0,
            y.1,
            subst (λ vs. Begins empty e vs y.0) (values_over names args calm m s) y.2,
            y.3,
            ap (over names m) y.4 ∙ returned_over e xs apart y.1 m s,
          )) h;
        };
        sure = λ m s h. (
          defined_over names args calm m s h.0,
          some_map (find_proc f E.procs) _ _ (λ e found y a b. y a (subst (λ vs. Begins empty e vs a) (sym (values_over names args calm m s)) b)) h.1,
        );
      }

  -- a module none of whose names in the scope is one of the names
  module _ (n : Name) (q : Calm names (λ x. is_brought (brings_of E) x n)) (d : ModCode) (found : find_module n E.modules ≡ Some d) where
    clear : E.is_concrete ≡ false → Apart names (names_of d.state)
    clear e x h = brought_off E n d found e x (q x h)

    held_over : (m : Map) (s : State) → held E.is_concrete d s ≡ held E.is_concrete d (over names m s)
    held_over m s = go E.is_concrete refl
      where
        go : (b : Bool) → E.is_concrete ≡ b → held b d s ≡ held b d (over names m s)
        go true e = refl
        go false e = sym (held_laid names d (clear e) m s.own)

    hold_over : (a m : Map) (s : State) → over names m (hold E.is_concrete d a s) ≡ hold E.is_concrete d a (over names m s)
    hold_over a m s = go E.is_concrete refl
      where
        go : (b : Bool) → E.is_concrete ≡ b → over names m (hold b d a s) ≡ hold b d a (over names m s)
        go true e = refl
        go false e = ap (with_own s) (sym (hold_laid names d (clear e) a m s.own))

    hold_keeps : (a : Map) (s : State) (x : Name) → is_in x names ≡ true → (hold E.is_concrete d a s).own x ≡ s.own x
    hold_keeps a s x h = hold_off E n d found x (q x h) a s

    begins_over : (e : ProcCode) (args : List Term) → Calm names (λ x. terms_mention x args) → (m : Map) (s a : State)
        → Begins (held E.is_concrete d s) e (values args s) a ↔ Begins (held E.is_concrete d (over names m s)) e (values args (over names m s)) a
    begins_over e args calm m s a = (
      λ b. subst (λ h. Begins h e (values args (over names m s)) a) (held_over m s) (subst (λ vs. Begins (held E.is_concrete d s) e vs a) (values_over names args calm m s) b),
      λ b. subst (λ h. Begins h e (values args s) a) (sym (held_over m s)) (subst (λ vs. Begins (held E.is_concrete d (over names m s)) e vs a) (sym (values_over names args calm m s)) b),
    )

  op_quiet : (n o : Name) (args : List Term) (xs : List Name) → Still (OpCall n o args xs) → ProgQuiet (OpCall n o args xs)
  op_quiet n o args xs q =
      let free = first names (λ x. is_brought (brings_of E) x n) (λ x. is_in x xs || terms_mention x args) q in
      let rest = second names (λ x. is_brought (brings_of E) x n) (λ x. is_in x xs || terms_mention x args) q in
      let apart = first names (λ x. is_in x xs) (λ x. terms_mention x args) rest in
      let calm = second names (λ x. is_in x xs) (λ x. terms_mention x args) rest in record {
        moves = record {
          keeps = λ s t h x i. some_use (find_module n E.modules) _ (t.own x ≡ s.own x) (λ d found. some_use (find_proc o d.operations) _ (t.own x ≡ s.own x) (λ e there y.
              own_is t _ y.4 x ∙ hold_keeps n free d found y.1.own (returned e xs y.1 s) x i ∙ put_all_off xs (read_all (names_of e.results) y.1.own) s.own x (apart x i))) h;
          ends = λ m s t h. some_map (find_module n E.modules) _ _ (λ d found. some_map (find_proc o d.operations) _ _ (λ e there y. (
            y.0,
            y.1,
            (begins_over n free d found e args calm m s y.0).0 y.2,
            y.3,
            ap (over names m) y.4 ∙ hold_over n free d found y.1.own m (returned e xs y.1 s) ∙ ap (hold E.is_concrete d y.1.own) (returned_over e xs apart y.1 m s),
          ))) h;
        };
        sure = λ m s h. (
          defined_over names args calm m s h.0,
          some_map (find_module n E.modules) _ _ (λ d found. some_map (find_proc o d.operations) _ _ (λ e there y a b. y a ((begins_over n free d found e args calm m s a).1 b))) h.1,
        );
      }

  module_quiet : (n : Name) (c : Prog) → Calm names (λ x. is_brought (brings_of E) x n) → ProgQuiet c → ProgQuiet (ModBlock n c)
  module_quiet n c free q = record {
    moves = record {
      keeps = λ s t h x i. some_use (find_module n E.modules) _ (t.own x ≡ s.own x) (λ d found y.
          own_is t _ y.6 x ∙ hold_keeps n free d found empty y.2 x i ∙ q.moves.keeps (hold E.is_concrete d y.1.own s) y.2 y.5 x i ∙ hold_keeps n free d found y.1.own s x i) h;
      ends = λ m s t h. some_map (find_module n E.modules) _ _ (λ d found y. (
        y.0,
        y.1,
        over names m y.2,
        y.3,
        y.4,
        subst (λ u. N c u (over names m y.2)) (hold_over n free d found y.1.own m s) (q.moves.ends m (hold E.is_concrete d y.1.own s) y.2 y.5),
        ap (over names m) y.6 ∙ hold_over n free d found empty m y.2,
      )) h;
    };
    sure = λ m s h. some_map (find_module n E.modules) _ _ (λ d found y vs hv. let st = y vs hv in
        (st.0, λ a e. subst (S c) (hold_over n free d found a.own m s) (q.sure m (hold E.is_concrete d a.own s) (st.1 a e)))) h;
  }

  none_over : {k : _} (arms : Row_of-Arm k) → StillRow arms → (m : Map) (s : State) → NoGuard E.library arms s ↔ NoGuard E.library arms (over names m s)
  none_over end_of-Arm q m s = (λ h. h, λ h. h)
  none_over (more_of-Arm g c rest) q m s =
      let more = second names (λ x. formula_mentions x g) (λ x. prog_mentions (brings_of E) x c || row_mentions (brings_of E) x rest) q in
      and_iff (not_iff (holds_over names E.library g (first names (λ x. formula_mentions x g) (λ x. prog_mentions (brings_of E) x c || row_mentions (brings_of E) x rest) q) m s s))
      (none_over rest (second names (λ x. prog_mentions (brings_of E) x c) (λ x. row_mentions (brings_of E) x rest) more) m s)

  guards_over : {k : _} (arms : Row_of-Arm k) → StillRow arms → (m : Map) (s : State) → GuardsDefined arms s → GuardsDefined arms (over names m s)
  guards_over end_of-Arm q m s h = tt
  guards_over (more_of-Arm g c rest) q m s h =
      let more = second names (λ x. formula_mentions x g) (λ x. prog_mentions (brings_of E) x c || row_mentions (brings_of E) x rest) q in
      let calm = first names (λ x. formula_mentions x g) (λ x. prog_mentions (brings_of E) x c || row_mentions (brings_of E) x rest) q in (
        guard_defined s.own s.own (laid names m s.own) (laid names m s.own) g (agree names (λ x. formula_mentions x g) calm m s.own s.own) h.0,
        guards_over rest (second names (λ x. prog_mentions (brings_of E) x c) (λ x. row_mentions (brings_of E) x rest) more) m s h.1,
      )

  arm_quiet : {k : _} (g : Formula) (c : Prog) (rest : Row_of-Arm k) → Calm names (λ x. formula_mentions x g) → ProgQuiet c → ArmsQuiet rest → ArmsQuiet (more_of-Arm g c rest)
  arm_quiet g c rest calm qc qr = record {
    moves = record { keeps = keeps; ends = ends };
    sure = λ m s h. (λ hg. qc.sure m s (h.0 ((holds_over names E.library g calm m s s).1 hg)), qr.sure m s h.1);
  }
    where
      keeps : (s t : State) → NA (more_of-Arm g c rest) s t → (x : Name) → is_in x names ≡ true → t.own x ≡ s.own x
      keeps s t (inl e) = qc.moves.keeps s t e.1
      keeps s t (inr e) = qr.moves.keeps s t e

      ends : (m : Map) (s t : State) → NA (more_of-Arm g c rest) s t → NA (more_of-Arm g c rest) (over names m s) (over names m t)
      ends m s t (inl e) = inl ((holds_over names E.library g calm m s s).0 e.0, qc.moves.ends m s t e.1)
      ends m s t (inr e) = inr (qr.moves.ends m s t e)

  -- a loop over the arms
  abbrev LoopSure : {k : _} → Term → Row_of-Arm k → State → Type 0
  LoopSure variant arms s =
      ((n : ℕ) × ((k : ℕ) (t : State) → Chain (NA arms) k s t → k ≤ n) × IsBound E.by_variant variant s n)
      × ((k : ℕ) (t : State) → Chain (NA arms) k s t → GuardsDefined arms t × SA arms t)

  abbrev LoopEnds : {k : _} → Row_of-Arm k → State → State → Type 0
  LoopEnds arms s t = ((n : ℕ) × Chain (NA arms) n s t) × NoGuard E.library arms t

  loop_quiet : {k : _} (variant : Term) (arms : Row_of-Arm k) → Calm names (λ x. mentions x variant) → StillRow arms → ArmsQuiet arms → Quiet names (LoopSure variant arms) (LoopEnds arms)
  loop_quiet variant arms calm q r = record {
    moves = record {
      keeps = λ s t e. (chain_moves names (NA arms) r.moves e.0.0).keeps s t e.0.1;
      ends = λ m s t e. ((e.0.0, (chain_moves names (NA arms) r.moves e.0.0).ends m s t e.0.1), (none_over arms q m t).0 e.1);
    };
    sure = λ m s h. (
      (h.0.0, (λ n t e. h.0.1 n (over names s.own t) (back names (Chain (NA arms) n) (chain_moves names (NA arms) r.moves n) m s t e)), bound_over E.by_variant m s h.0.0 h.0.2),
      λ n t e.
          let turns = chain_moves names (NA arms) r.moves n in
          let g = h.1 n (over names s.own t) (back names (Chain (NA arms) n) turns m s t e) in
          subst (λ u. GuardsDefined arms u × SA arms u) (again names (Chain (NA arms) n) turns m s t e)
          (guards_over arms q m (over names s.own t) g.0, r.sure m (over names s.own t) g.1),
    );
  }
    where
      bound_over : (b : Bool) (m : Map) (s : State) (n : ℕ) → IsBound b variant s n → IsBound b variant (over names m s) n
      bound_over true m s n h = h ∙ ap (λ v. at_least_0 (whole v)) (value_over names variant calm m s)
      bound_over false m s n h = tt

  mutual
    pub prog_quiet : (c : Prog) → Still c → ProgQuiet c
    prog_quiet (Spec w) q = spec_quiet w q
    prog_quiet (Kid n) q = record { moves = record { keeps = λ s t e. absurd e; ends = λ m s t e. absurd e }; sure = λ m s h. absurd h }
    prog_quiet Skip q = record { moves = record { keeps = λ s t e x h. own_is t s e x; ends = λ m s t e. ap (over names m) e }; sure = λ m s h. h }
    prog_quiet (Assign xs ts) q = assign_quiet xs ts q
    prog_quiet (Seq c d) q =
        let f : Name → Bool = λ x. prog_mentions (brings_of E) x c in
        let g : Name → Bool = λ x. prog_mentions (brings_of E) x d in
        seq_quiet c d (prog_quiet c (first names f g q)) (prog_quiet d (second names f g q))
    prog_quiet (If' shape arms) q = let r = row_quiet arms q in record {
      moves = record { keeps = r.moves.keeps; ends = r.moves.ends };
      sure = λ m s h. (guards_over arms q m s h.0, λ none. h.1 ((none_over arms q m s).1 none), r.sure m s h.2);
    }
    prog_quiet (Do' variant shape arms) q =
        let f : Name → Bool = λ x. mentions x variant in
        let g : Name → Bool = λ x. row_mentions (brings_of E) x arms in
        let r = loop_quiet variant arms (first names f g q) (second names f g q) (row_quiet arms (second names f g q)) in
        record { moves = record { keeps = r.moves.keeps; ends = r.moves.ends }; sure = r.sure }
    prog_quiet (Block y sort c) q =
        let f : Name → Bool = λ x. is_in x (y ∷ []) in
        let g : Name → Bool = λ x. prog_mentions (brings_of E) x c in
        let p : Calm names (λ x. f x || g x) = λ x h. let r = or_parts _ _ (q x h) in or_from (f x) (g x) (or_from _ _ r.0 refl) r.1 in
        block_quiet y sort c (first names f g p) (prog_quiet c (second names f g p))
    prog_quiet (Con pins c) q =
        let f : Name → Bool = λ x. is_in x (pin_names pins) in
        let g : Name → Bool = λ x. terms_mention x (pin_terms pins) in
        let k : Name → Bool = λ x. prog_mentions (brings_of E) x c in
        let rest = second names f (λ x. g x || k x) q in
        con_quiet pins c (first names f (λ x. g x || k x) q) (first names g k rest) (prog_quiet c (second names g k rest))
    prog_quiet (Call f args xs) q = call_quiet f args xs q
    prog_quiet (OpCall n o args xs) q = op_quiet n o args xs q
    prog_quiet (ModBlock n c) q =
        let f : Name → Bool = λ x. is_brought (brings_of E) x n in
        let g : Name → Bool = λ x. prog_mentions (brings_of E) x c in
        module_quiet n c (first names f g q) (prog_quiet c (second names f g q))

    row_quiet : {k : _} (arms : Row_of-Arm k) → StillRow arms → ArmsQuiet arms
    row_quiet end_of-Arm q = record { moves = record { keeps = λ s t e. absurd e; ends = λ m s t e. absurd e }; sure = λ m s h. h }
    row_quiet (more_of-Arm g c rest) q =
        let f : Name → Bool = λ x. formula_mentions x g in
        let k : Name → Bool = λ x. prog_mentions (brings_of E) x c in
        let l : Name → Bool = λ x. row_mentions (brings_of E) x rest in
        let more = second names f (λ x. k x || l x) q in
        arm_quiet g c rest (first names f (λ x. k x || l x) q) (prog_quiet c (first names k l more)) (row_quiet rest (second names k l more))
