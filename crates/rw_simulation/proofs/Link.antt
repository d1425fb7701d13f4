-- Code under a concrete table simulates itself under an abstract one, where its parts do.
use Rattle.std.proofs.Common.{◌≡◌, ◌↔◌, refl, sym, ap, ◌∙◌, subst, ℕ, zero, suc, ◌≤◌, Bool, true, false, List, [], Option, Some, None, IsSomeAnd, inl, inr, true≢false}
use Rattle.std.proofs.lemmas.Bool.{and_parts}
use Rattle.rw_terms.specs.declared.scope.Entry.{Entry}
use Rattle.rw_terms.specs.declared.term.Term.{Term}
use Rattle.rw_terms.specs.declared.term.Formula.{Formula}
use Rattle.rw_terms.specs.State.{Value, whole, State as Map}
use Rattle.rw_terms.specs.Value.{value}
use Rattle.rw_terms.specs.Validity.{Each}
use Rattle.rw_programs.specs.declared.prog.ProcCode.{ProcCode}
use Rattle.rw_programs.specs.declared.prog.ModCode.{ModCode}
use Rattle.rw_programs.specs.declared.prog.Prog.{Prog, Spec, Kid, Skip, Assign, If', Do', Call, OpCall, Row_of-Arm, end_of-Arm, more_of-Arm}
use Rattle.rw_programs.specs.Made.{Seq, Block, Con, ModBlock}
use Rattle.rw_programs.specs.CodeTest.{is_guard, is_code, are_code}
use Rattle.rw_programs.specs.State.{Name, State, empty, is_in, only, put, put_all, read_all, names_of, with_own, Holds, ValuesFor}
use Rattle.rw_programs.specs.Tables.{Table, find_proc, find_module, Begins, returned, held, hold}
use Rattle.rw_programs.specs.Meaning.{Bodies, ends_by, sure_by, arm_ends, arms_sure, NoGuard, GuardsDefined, Chain, at_least_0, IsBound, values}
use Rattle.rw_programs.specs.Scoped.{with_local, with_entries, with_module, if_some, prog_scoped, row_scoped, are_set}
use Rattle.rw_meaning.specs.Filling.{WhereSome, FitsIn, EachPart, EachArm, KeepsBy, CallFitsBy, brings_of}
use Rattle.rw_meaning.proofs.Entering.{assigned_fits}
use Rattle.rw_meaning.proofs.Ending.{some_tested, where_is}
use Rattle.rw_simulation.specs.Classical.{Classically}
use Rattle.rw_simulation.specs.Coupling.{Coupled, begun, start_state}
use Rattle.rw_simulation.specs.Related.{pairing, Related, AreOpen}
use Rattle.rw_simulation.specs.Linked.{IsFree, IsFreeGuard, AreFreeGuards, AreFreeNames, ProcLinked, OpLinked, StartEnds, ModLinked, PartLinked, Links, SelfLinked}
use Rattle.rw_simulation.proofs.Definedness.{Stable, le_stable, all_stable, guard_stable}
use Rattle.rw_simulation.proofs.Classics.{surely, whence, thence, values_stable}
use Rattle.rw_simulation.proofs.Agreeing.{value_same, values_same, all_defined, guard_defined, guard_holds}
use Rattle.rw_simulation.proofs.Relating.{still_open, local_extends, set_related, enter_local, leave_local}
use Rattle.rw_simulation.proofs.Opening.{op_related, opens_more, enter_module, leave_module}

-- what is said of something that is there
pub some_here : {A : Type 0} (o : Option A) (a : A) (P : A → Type 0) → o ≡ Some a → IsSomeAnd o P → P a
some_here o a P e h = subst (λ o. IsSomeAnd o P) e h

pub here_some : {A : Type 0} (o : Option A) (a : A) (P : A → Type 0) → o ≡ Some a → P a → IsSomeAnd o P
here_some o a P e h = subst (λ o. IsSomeAnd o P) (sym e) h

module _ (E F : Table) (couplings : Name → Formula) (abstract : E.is_concrete ≡ false) (concrete : F.is_concrete ≡ true) (strict : E.by_variant ≡ true) (callsE beforeE callsF beforeF : Bodies) where
  abbrev R : List Name → List Entry → State → State → Type 0
  R = Related E F couplings

  abbrev SE : Prog → State → Type 0
  SE = sure_by E callsE beforeE

  abbrev SF : Prog → State → Type 0
  SF = sure_by F callsF beforeF

  abbrev NE : Prog → State → State → Type 0
  NE = ends_by E callsE beforeE

  abbrev NF : Prog → State → State → Type 0
  NF = ends_by F callsF beforeF

  abbrev Self : List Name → List Entry → Prog → Type 0
  Self = SelfLinked E F couplings callsE beforeE callsF beforeF

  abbrev Keeps : List Name → List Entry → Prog → Type 0
  Keeps = KeepsBy E callsE beforeE

  abbrev Fit : List Name → List Entry → Prog → Type 0
  Fit = CallFitsBy E callsE beforeE (brings_of E)

  abbrev Part : List Name → List Entry → Prog → Type 0
  Part = PartLinked E F couplings callsE beforeE callsF beforeF

  -- the same of a choice of arms, with what its guards say
  record ArmsSelf {n : _} (opened : List Name) (scope : List Entry) (arms : Row_of-Arm n) : Type 0 where
    defined : (s s' : State) → R opened scope s s' → GuardsDefined arms s → GuardsDefined arms s'
    some : (s s' : State) → R opened scope s s' → NoGuard F.library arms s' → NoGuard E.library arms s
    sure : (s' : State) → Classically ((s : State) × R opened scope s s' × arms_sure E callsE beforeE arms s) → arms_sure F callsF beforeF arms s'
    ends : (s s' t' : State) → R opened scope s s' → arms_sure E callsE beforeE arms s → arm_ends F callsF beforeF arms s' t'
        → Classically ((t : State) × arm_ends E callsE beforeE arms s t × R opened scope t t')

  guards_stable : {n : _} (arms : Row_of-Arm n) (s : State) → Stable (GuardsDefined arms s)
  guards_stable end_of-Arm s c = tt
  guards_stable (more_of-Arm g b rest) s c = (guard_stable s.own s.own g (λ n. c (λ h. n h.0)), guards_stable rest s (λ n. c (λ h. n h.1)))

  skip_links : (opened : List Name) (scope : List Entry) → Self opened scope Skip
  skip_links opened scope = record { sure = λ s' c. tt; ends = λ s s' t' r h e. surely (s, refl, subst (R opened scope s) (sym e) r) }

  assign_links : (opened : List Name) (scope : List Entry) (names : List Name) (terms : List Term) → AreOpen E opened scope → are_set scope names terms ≡ true → AreFreeNames scope names → Each (IsFree scope) terms
      → Self opened scope (Assign names terms)
  assign_links opened scope names terms open_ set names_free terms_free = record {
    sure = λ s' c. all_stable s'.own s'.own terms (thence c (λ x. all_defined E F couplings opened scope x.0 s' x.1 terms terms_free x.2));
    ends = λ s s' t' r h e.
        let same = values_same E F couplings opened scope s s' r terms terms_free in
        let fits : FitsIn E opened scope (with_own s (put_all names (values terms s) s.own)) = record { names = assigned_fits scope s r.fits.names names terms set; parts = r.fits.parts } in
        surely (
          with_own s (put_all names (values terms s) s.own),
          refl,
          subst (R opened scope (with_own s (put_all names (values terms s) s.own))) ((λ i. with_own s' (put_all names (same i) s'.own)) ∙ sym e)
              (set_related E F couplings opened scope open_ s s' r names (values terms s) names_free fits),
        );
  }

  seq_links : (opened : List Name) (scope : List Entry) (c d : Prog) → Self opened scope c → Self opened scope d → Self opened scope (Seq c d)
  seq_links opened scope c d lc ld = record {
    sure = λ s' k. (
      lc.sure s' (thence k (λ x. (x.0, x.1, x.2.0))),
      λ m' e. ld.sure m' (whence k (λ x. thence (lc.ends x.0 s' m' x.1 x.2.0 e) (λ y. (y.0, y.2, x.2.1 y.0 y.1)))),
    );
    ends = λ s s' t' r h e. whence (lc.ends s s' e.0 r h.0 e.1) (λ y. thence (ld.ends y.0 e.0 t' y.2 (h.1 y.0 y.1) e.2) (λ z. (z.0, (y.0, y.1, z.1), z.2)));
  }

  module _ {n : _} (opened : List Name) (scope : List Entry) (arms : Row_of-Arm n) (a : ArmsSelf opened scope arms) where
    abbrev TurnsE : ℕ → State → State → Type 0
    TurnsE = Chain (arm_ends E callsE beforeE arms)

    abbrev TurnsF : ℕ → State → State → Type 0
    TurnsF = Chain (arm_ends F callsF beforeF arms)

    abbrev SomeSure : Table → Bodies → Bodies → State → Type 0
    SomeSure T calls before s = GuardsDefined arms s × (¬ (NoGuard T.library arms s)) × arms_sure T calls before arms s

    if_links : Links E F couplings callsE beforeE callsF beforeF opened scope (SomeSure E callsE beforeE) (arm_ends E callsE beforeE arms) (SomeSure F callsF beforeF) (arm_ends F callsF beforeF arms)
    if_links = record {
      sure = λ s' k. (
        guards_stable arms s' (thence k (λ x. a.defined x.0 s' x.1 x.2.0)),
        λ none. k (λ x. x.2.1 (a.some x.0 s' x.1 none)),
        a.sure s' (thence k (λ x. (x.0, x.1, x.2.2))),
      );
      ends = λ s s' t' r h e. a.ends s s' t' r h.2 e;
    }

    chain_links : (s s' : State) → R opened scope s s' → ((k : ℕ) (t : State) → TurnsE k s t → arms_sure E callsE beforeE arms t) → (k : ℕ) (t' : State) → TurnsF k s' t'
        → Classically ((t : State) × TurnsE k s t × R opened scope t t')
    chain_links s s' r h zero t' e = surely (s, refl, subst (R opened scope s) e r)
    chain_links s s' r h (suc k) t' e =
        whence (chain_links s s' r h k e.0 e.1) (λ y. thence (a.ends y.0 e.0 t' y.2 (h k y.0 y.1) e.2) (λ z. (z.0, (y.0, y.1, z.1), z.2)))

    bound_is : (b : Bool) (variant : Term) (s s' : State) (m : ℕ) → b ≡ true → value s.own s.own [] variant ≡ value s'.own s'.own [] variant → IsBound b variant s m → m ≡ at_least_0 (whole (value s'.own s'.own [] variant))
    bound_is true variant s s' m e same is = is ∙ ap (λ v. at_least_0 (whole v)) same
    bound_is false variant s s' m e same is = absurd (true≢false (sym e))

    is_bound : (b : Bool) (variant : Term) (s' : State) → IsBound b variant s' (at_least_0 (whole (value s'.own s'.own [] variant)))
    is_bound true variant s' = refl
    is_bound false variant s' = tt

    abbrev LoopSure : Table → Bodies → Bodies → Term → State → Type 0
    LoopSure T calls before variant s =
        ((n : ℕ) × ((k : ℕ) (t : State) → Chain (arm_ends T calls before arms) k s t → k ≤ n) × IsBound T.by_variant variant s n)
        × ((k : ℕ) (t : State) → Chain (arm_ends T calls before arms) k s t → GuardsDefined arms t × arms_sure T calls before arms t)

    abbrev LoopEnds : Table → Bodies → Bodies → State → State → Type 0
    LoopEnds T calls before s t = ((n : ℕ) × Chain (arm_ends T calls before arms) n s t) × NoGuard T.library arms t

    do_links : (variant : Term) → IsFree scope variant
        → Links E F couplings callsE beforeE callsF beforeF opened scope (LoopSure E callsE beforeE variant) (LoopEnds E callsE beforeE) (LoopSure F callsF beforeF variant) (LoopEnds F callsF beforeF)
    do_links variant free = record {
      sure = λ s' k. (
        (
          at_least_0 (whole (value s'.own s'.own [] variant)),
          (λ j t' e. le_stable j (at_least_0 (whole (value s'.own s'.own [] variant)))
              (whence k (λ x. thence (chain_links x.0 s' x.1 (λ j t e. (x.2.1 j t e).1) j t' e)
              (λ y. subst (λ m. j ≤ m) (bound_is E.by_variant variant x.0 s' x.2.0.0 strict (value_same E F couplings opened scope x.0 s' x.1 variant free) x.2.0.2) (x.2.0.1 j y.0 y.1))))),
          is_bound F.by_variant variant s',
        ),
        λ j t' e.
            let at : Classically ((t : State) × R opened scope t t' × (GuardsDefined arms t × arms_sure E callsE beforeE arms t)) =
            whence k (λ x. thence (chain_links x.0 s' x.1 (λ j t e. (x.2.1 j t e).1) j t' e) (λ y. (y.0, y.2, x.2.1 j y.0 y.1))) in
            (guards_stable arms t' (thence at (λ z. a.defined z.0 t' z.1 z.2.0)), a.sure t' (thence at (λ z. (z.0, z.1, z.2.1)))),
      );
      ends = λ s s' t' r h e.
          thence (chain_links s s' r (λ j t e. (h.1 j t e).1) e.0.0 t' e.0.1) (λ y. (y.0, ((e.0.0, y.1), a.some y.0 t' y.2 e.1), y.2));
    }

  no_arms : (opened : List Name) (scope : List Entry) → ArmsSelf opened scope end_of-Arm
  no_arms opened scope = record { defined = λ s s' r h. tt; some = λ s s' r h. tt; sure = λ s' c. tt; ends = λ s s' t' r h e. absurd e }

  arm_links : {n : _} (opened : List Name) (scope : List Entry) (g : Formula) (c : Prog) (rest : Row_of-Arm n) → is_guard g ≡ true → IsFreeGuard scope g → Self opened scope c → ArmsSelf opened scope rest
      → ArmsSelf opened scope (more_of-Arm g c rest)
  arm_links opened scope g c rest guard free lc lr = record {
    defined = λ s s' r h. (guard_defined E F couplings opened scope s s' r g free h.0, lr.defined s s' r h.1);
    some = λ s s' r h. ((λ hg. h.0 ((same s s' r).0 hg)), lr.some s s' r h.1);
    sure = λ s' k. ((λ hg. lc.sure s' (thence k (λ x. (x.0, x.1, x.2.0 ((same x.0 s' x.1).1 hg))))), lr.sure s' (thence k (λ x. (x.0, x.1, x.2.1))));
    ends = ends;
  }
    where
      same : (s s' : State) → R opened scope s s' → Holds E.library g s s ↔ Holds F.library g s' s'
      same s s' r = guard_holds E F couplings opened scope s s' r g guard free

      ends : (s s' t' : State) → R opened scope s s' → arms_sure E callsE beforeE (more_of-Arm g c rest) s → arm_ends F callsF beforeF (more_of-Arm g c rest) s' t'
          → Classically ((t : State) × arm_ends E callsE beforeE (more_of-Arm g c rest) s t × R opened scope t t')
      ends s s' t' r h (inl e) = let hg = (same s s' r).1 e.0 in thence (lc.ends s s' t' r (h.0 hg) e.1) (λ y. (y.0, inl (hg, y.1), y.2))
      ends s s' t' r h (inr e) = thence (lr.ends s s' t' r h.1 e) (λ y. (y.0, inr y.1, y.2))

  block_links : (opened : List Name) (scope inner : List Entry) (x : Name) (sort : _) (c : Prog) → AreOpen E opened scope → with_local scope x sort ≡ Some inner → Self opened inner c → Self opened scope (Block x sort c)
  block_links opened scope inner x sort c open_ h l = record {
    sure = λ s' k v hv. l.sure (with_own s' (put x (Some v) s'.own)) (thence k (λ y. (with_own y.0 (put x (Some v) y.0.own), enter_local E F couplings opened scope open_ x sort inner h y.0 s' y.1 v hv, y.2 v hv)));
    ends = λ s s' t' r sure e.
        thence (l.ends (with_own s (put x (Some e.0) s.own)) (with_own s' (put x (Some e.0) s'.own)) e.1 (enter_local E F couplings opened scope open_ x sort inner h s s' r e.0 e.2) (sure e.0 e.2) e.3)
        (λ y. (
          with_own y.0 (put x None y.0.own),
          (e.0, y.0, e.2, y.1, refl),
          subst (R opened scope (with_own y.0 (put x None y.0.own))) (sym e.4) (leave_local E F couplings opened scope open_ x sort inner h y.0 e.1 y.2),
        ));
  }

  -- a call of a procedure
  call_links : (opened : List Name) (scope : List Entry) (f : Name) (args : List Term) (names : List Name) → AreOpen E opened scope → Keeps opened scope (Call f args names)
      → AreFreeNames scope names → Each (IsFree scope) args → ProcLinked E F couplings callsE beforeE callsF beforeF opened scope f args → Self opened scope (Call f args names)
  call_links opened scope f args names open_ keeps names_free args_free l = record { sure = sure; ends = ends }
    where
      e : ProcCode
      e = l.proc

      e' : ProcCode
      e' = l.code

      begins : List (Option Value) → List (Option Value) → State
      begins vs rs = begun e.values e.results empty vs rs

      -- the concrete body begins as the abstract one
      as_one : (vs rs : List (Option Value)) → begun e'.values e'.results empty vs rs ≡ begins vs rs
      as_one vs rs = λ i. begun (l.same_values i) (l.same_results i) empty vs rs

      sure_at : (s : State) → SE (Call f args names) s → (rs : List (Option Value)) → ValuesFor e.results rs → callsE.sure e.place e.body (begins (values args s) rs)
      sure_at s h rs hv =
          some_here (find_proc f E.procs) e (λ e. (a : State) → Begins empty e (values args s) a → callsE.sure e.place e.body a) l.found h.1 (begins (values args s) rs) (rs, hv, refl)

      sure : (s' : State) → Classically ((s : State) × R opened scope s s' × SE (Call f args names) s) → SF (Call f args names) s'
      sure s' k = (
        all_stable s'.own s'.own args (thence k (λ x. all_defined E F couplings opened scope x.0 s' x.1 args args_free x.2.0)),
        here_some (find_proc f F.procs) e' (λ e. (a : State) → Begins empty e (values args s') a → callsF.sure e.place e.body a) l.found_code
            (λ a b. subst (callsF.sure e'.place e'.body) (sym (b.2 ∙ as_one (values args s') b.0)) (at b.0 (subst (λ ps. ValuesFor ps b.0) l.same_results b.1))),
      )
        where
          at : (rs : List (Option Value)) → ValuesFor e.results rs → callsF.sure e'.place e'.body (begins (values args s') rs)
          at rs hv =
              l.sure (values args s') rs
              (values_stable e.values (values args s') (thence k (λ x. subst (ValuesFor e.values) (values_same E F couplings opened scope x.0 s' x.1 args args_free) (l.takes x.0 x.1.fits))))
              hv
              (thence k (λ x. subst (λ vs. callsE.sure e.place e.body (begins vs rs)) (values_same E F couplings opened scope x.0 s' x.1 args args_free) (sure_at x.0 x.2 rs hv)))

      ends : (s s' t' : State) → R opened scope s s' → SE (Call f args names) s → NF (Call f args names) s' t' → Classically ((t : State) × NE (Call f args names) s t × R opened scope t t')
      ends s s' t' r h x =
          let y = some_here (find_proc f F.procs) e' (λ e. (a b : State) × Begins empty e (values args s') a × callsF.ends e.place e.body a b × (t' ≡ returned e names b s')) l.found_code x in
          let rs = y.2.0 in
          let hv = subst (λ ps. ValuesFor ps rs) l.same_results y.2.1 in
          let vs = values args s in
          let same = values_same E F couplings opened scope s s' r args args_free in
          let ended : callsF.ends e'.place e'.body (begins vs rs) y.1 = subst (λ a. callsF.ends e'.place e'.body a y.1) (y.2.2 ∙ as_one (values args s') rs ∙ (λ i. begins (sym same i) rs)) y.3 in
          thence (l.ends vs rs y.1 (l.takes s r.fits) hv (sure_at s h rs hv) ended) (λ z.
          let t = returned e names y.1 s in
          let end : NE (Call f args names) s t =
          here_some (find_proc f E.procs) e (λ e. (a b : State) × Begins empty e (values args s) a × callsE.ends e.place e.body a b × (t ≡ returned e names b s)) l.found
          (begins vs rs, y.1, (rs, hv, refl), z, refl) in (
            t,
            end,
            subst (R opened scope t) ((λ i. with_own s' (put_all names (read_all (names_of (sym l.same_results i)) y.1.own) s'.own)) ∙ sym y.4)
                (set_related E F couplings opened scope open_ s s' r names (read_all (names_of e.results) y.1.own) names_free (keeps s t r.fits h end)),
          ))

  -- a call of an operation
  op_links : (opened : List Name) (scope : List Entry) (m o : Name) (args : List Term) (names : List Name) → AreOpen E opened scope → is_in m opened ≡ true → Keeps opened scope (OpCall m o args names)
      → AreFreeNames scope names → Each (IsFree scope) args → OpLinked E F couplings callsE beforeE callsF beforeF opened scope m o args → Self opened scope (OpCall m o args names)
  op_links opened scope m o args names open_ is_open keeps names_free args_free l = record { sure = sure; ends = ends }
    where
      d : ModCode
      d = l.abstract

      d' : ModCode
      d' = l.concrete

      e : ProcCode
      e = l.proc

      e' : ProcCode
      e' = l.code

      begins : Map → List (Option Value) → List (Option Value) → State
      begins a vs rs = begun e.values e.results a vs rs

      -- the concrete body begins as the abstract one, but for the state of the module
      as_one : (c : Map) (vs rs : List (Option Value)) → begun e'.values e'.results c vs rs ≡ begins c vs rs
      as_one c vs rs = λ i. begun (l.same_values i) (l.same_results i) c vs rs

      sure_at : (s : State) → SE (OpCall m o args names) s → (rs : List (Option Value)) → ValuesFor e.results rs → beforeE.sure d.place e.body (begins (held false d s) (values args s) rs)
      sure_at s h rs hv =
          let h1 = some_here (find_module m E.modules) d (λ d. IsSomeAnd (find_proc o d.operations) (λ e. (a : State) → Begins (held E.is_concrete d s) e (values args s) a → beforeE.sure d.place e.body a)) l.found h.1 in
          let h2 = some_here (find_proc o d.operations) e (λ e. (a : State) → Begins (held E.is_concrete d s) e (values args s) a → beforeE.sure d.place e.body a) l.found_proc h1 in
          subst (λ b. (a : State) → Begins (held b d s) e (values args s) a → beforeE.sure d.place e.body a) abstract h2 (begins (held false d s) (values args s) rs) (rs, hv, refl)

      sure : (s' : State) → Classically ((s : State) × R opened scope s s' × SE (OpCall m o args names) s) → SF (OpCall m o args names) s'
      sure s' k = (
        all_stable s'.own s'.own args (thence k (λ x. all_defined E F couplings opened scope x.0 s' x.1 args args_free x.2.0)),
        here_some (find_module m F.modules) d' (λ d. IsSomeAnd (find_proc o d.operations) (λ e. (a : State) → Begins (held F.is_concrete d s') e (values args s') a → beforeF.sure d.place e.body a)) l.found_code
            (here_some (find_proc o d'.operations) e' (λ e. (a : State) → Begins (held F.is_concrete d' s') e (values args s') a → beforeF.sure d'.place e.body a) l.found_proc_code
            (subst (λ b. (a : State) → Begins (held b d' s') e' (values args s') a → beforeF.sure d'.place e'.body a) (sym concrete)
            (λ a b. subst (beforeF.sure d'.place e'.body) (sym (b.2 ∙ as_one (held true d' s') (values args s') b.0)) (at b.0 (subst (λ ps. ValuesFor ps b.0) l.same_results b.1))))),
      )
        where
          at : (rs : List (Option Value)) → ValuesFor e.results rs → beforeF.sure d'.place e'.body (begins (held true d' s') (values args s') rs)
          at rs hv =
              l.simulates.sure (held true d' s') (values args s') rs
              (values_stable e.values (values args s') (thence k (λ x. subst (ValuesFor e.values) (values_same E F couplings opened scope x.0 s' x.1 args args_free) (l.takes x.0 x.1.fits))))
              hv
              (thence k (λ x. (
                held false d x.0,
                x.1.coupled m is_open d d' l.found l.found_code,
                subst (λ vs. beforeE.sure d.place e.body (begins (held false d x.0) vs rs)) (values_same E F couplings opened scope x.0 s' x.1 args args_free) (sure_at x.0 x.2 rs hv),
              )))

      ends : (s s' t' : State) → R opened scope s s' → SE (OpCall m o args names) s → NF (OpCall m o args names) s' t' → Classically ((t : State) × NE (OpCall m o args names) s t × R opened scope t t')
      ends s s' t' r h x =
          let y1 = some_here (find_module m F.modules) d' (λ d. IsSomeAnd (find_proc o d.operations) (λ e. (a b : State) × Begins (held F.is_concrete d s') e (values args s') a × beforeF.ends d.place e.body a b
          × (t' ≡ hold F.is_concrete d b.own (returned e names b s')))) l.found_code x in
          let y2 = some_here (find_proc o d'.operations) e' (λ e. (a b : State) × Begins (held F.is_concrete d' s') e (values args s') a × beforeF.ends d'.place e.body a b
          × (t' ≡ hold F.is_concrete d' b.own (returned e names b s'))) l.found_proc_code y1 in
          let y = subst (λ f. (a b : State) × Begins (held f d' s') e' (values args s') a × beforeF.ends d'.place e'.body a b × (t' ≡ hold f d' b.own (returned e' names b s'))) concrete y2 in
          let rs = y.2.0 in
          let hv = subst (λ ps. ValuesFor ps rs) l.same_results y.2.1 in
          let vs = values args s in
          let same = values_same E F couplings opened scope s s' r args args_free in
          let ended : beforeF.ends d'.place e'.body (begins (held true d' s') vs rs) y.1 =
          subst (λ a. beforeF.ends d'.place e'.body a y.1) (y.2.2 ∙ as_one (held true d' s') (values args s') rs ∙ (λ i. begins (held true d' s') (sym same i) rs)) y.3 in
          thence (l.simulates.ends (held false d s) (held true d' s') vs rs y.1 (l.takes s r.fits) hv (r.coupled m is_open d d' l.found l.found_code) (sure_at s h rs hv) ended) (λ z.
          let t = hold false d z.0.own (returned e names z.0 s) in
          let end = ends_at s t rs hv z.0 z.1 refl in
          let results = read_all (names_of e.results) z.0.own in
          let given : read_all (names_of e'.results) y.1.own ≡ results = (λ i. read_all (names_of (l.same_results i)) y.1.own) ∙ z.2 in (
            t,
            end,
            subst (R opened scope t) ((λ i. hold true d' y.1.own (with_own s' (put_all names (sym given i) s'.own))) ∙ sym y.4)
                (op_related E F couplings abstract concrete m d d' l.found l.found_code opened scope open_ is_open s s' r names results names_free z.0.own y.1.own (keeps s t r.fits h end) z.4),
          ))
        where
          ends_at : (s t : State) (rs : List (Option Value)) → ValuesFor e.results rs → (b : State) → beforeE.ends d.place e.body (begins (held false d s) (values args s) rs) b → t ≡ hold false d b.own (returned e names b s)
              → NE (OpCall m o args names) s t
          ends_at s t rs hv b ended is =
              here_some (find_module m E.modules) d (λ d. IsSomeAnd (find_proc o d.operations) (λ e. (a b : State) × Begins (held E.is_concrete d s) e (values args s) a × beforeE.ends d.place e.body a b
              × (t ≡ hold E.is_concrete d b.own (returned e names b s)))) l.found
              (here_some (find_proc o d.operations) e (λ e. (a b : State) × Begins (held E.is_concrete d s) e (values args s) a × beforeE.ends d.place e.body a b
              × (t ≡ hold E.is_concrete d b.own (returned e names b s))) l.found_proc
              (subst (λ f. (a b : State) × Begins (held f d s) e (values args s) a × beforeE.ends d.place e.body a b × (t ≡ hold f d b.own (returned e names b s))) (sym abstract)
              (begins (held false d s) (values args s) rs, b, (rs, hv, refl), ended, is)))

  -- the block of a module
  module_links : (opened outside : List Name) (scope inner : List Entry) (m : Name) (c : Prog) → AreOpen E opened scope → with_module opened m ≡ Some outside → with_entries scope (brings_of E m) ≡ Some inner
      → Fit opened scope (ModBlock m c) → ModLinked E F couplings callsE beforeE callsF beforeF m → Self outside inner c → Self opened scope (ModBlock m c)
  module_links opened outside scope inner m c open_ opens takes fit l lc = record { sure = sure; ends = ends }
    where
      d : ModCode
      d = l.abstract

      d' : ModCode
      d' = l.concrete

      -- what the block is sure of under the abstract table
      sure_at : (s : State) → SE (ModBlock m c) s → (vs : List (Option Value)) → ValuesFor d.state vs
          → beforeE.sure d.place d.start (start_state d.state vs) × ((a : State) → beforeE.ends d.place d.start (start_state d.state vs) a → SE c (hold false d a.own s))
      sure_at s h =
          subst (λ b. (vs : List (Option Value)) → ValuesFor d.state vs → beforeE.sure d.place d.start (start_state d.state vs)
          × ((a : State) → beforeE.ends d.place d.start (start_state d.state vs) a → SE c (hold b d a.own s))) abstract
          (some_here (find_module m E.modules) d (λ d. (vs : List (Option Value)) → ValuesFor d.state vs → beforeE.sure d.place d.start (start_state d.state vs)
          × ((a : State) → beforeE.ends d.place d.start (start_state d.state vs) a → SE c (hold E.is_concrete d a.own s))) l.found h)

      -- after the two starts the states are related in the block
      entered : (s s' : State) → R opened scope s s' → SE (ModBlock m c) s → (a' : State) → (z : (a : Map) × StartEnds E F couplings callsE beforeE callsF beforeF d a × Coupled (pairing E (couplings m) d d') a (only (names_of d'.state) a'.own))
          → R outside inner (hold false d z.1.1.own s) (hold true d' a'.own s') × SE c (hold false d z.1.1.own s)
      entered s s' r h a' z =
          let st = sure_at s h z.1.0 z.1.2 in
          let fits = fit.1 d l.found z.1.0 z.1.2 st.0 z.1.1 z.1.3 in (
            enter_module E F couplings abstract concrete m d d' l.found l.found_code opened outside scope inner open_ opens takes s s' r z.1.1.own a'.own fits
                (subst (λ a. Coupled (pairing E (couplings m) d d') a (only (names_of d'.state) a'.own)) z.1.4 z.2),
            st.1 z.1.1 z.1.3,
          )

      sure : (s' : State) → Classically ((s : State) × R opened scope s s' × SE (ModBlock m c) s) → SF (ModBlock m c) s'
      sure s' k =
          here_some (find_module m F.modules) d' (λ d. (vs : List (Option Value)) → ValuesFor d.state vs → beforeF.sure d.place d.start (start_state d.state vs)
          × ((a : State) → beforeF.ends d.place d.start (start_state d.state vs) a → SF c (hold F.is_concrete d a.own s'))) l.found_code
          (λ ws hw. (
            l.simulates.sure ws hw,
            λ a' e. subst (λ b. SF c (hold b d' a'.own s')) (sym concrete)
                (lc.sure (hold true d' a'.own s') (whence k (λ x. thence (l.simulates.ends ws a' hw e) (λ z. let q = entered x.0 s' x.1 x.2 a' z in (hold false d z.1.1.own x.0, q.0, q.1))))),
          ))

      ends : (s s' t' : State) → R opened scope s s' → SE (ModBlock m c) s → NF (ModBlock m c) s' t' → Classically ((t : State) × NE (ModBlock m c) s t × R opened scope t t')
      ends s s' t' r h x =
          let y1 = some_here (find_module m F.modules) d' (λ d. (ws : List (Option Value)) × (a b : State) × ValuesFor d.state ws × beforeF.ends d.place d.start (start_state d.state ws) a
          × NF c (hold F.is_concrete d a.own s') b × (t' ≡ hold F.is_concrete d empty b)) l.found_code x in
          let y = subst (λ f. (ws : List (Option Value)) × (a b : State) × ValuesFor d'.state ws × beforeF.ends d'.place d'.start (start_state d'.state ws) a
          × NF c (hold f d' a.own s') b × (t' ≡ hold f d' empty b)) concrete y1 in
          whence (l.simulates.ends y.0 y.1 y.3 y.4) (λ z.
          let q = entered s s' r h y.1 z in
          thence (lc.ends (hold false d z.1.1.own s) (hold true d' y.1.own s') y.2 q.0 q.1 y.5) (λ b. (
            hold false d empty b.0,
            ends_at s z.1.0 z.1.1 b.0 z.1.2 z.1.3 b.1,
            subst (R opened scope (hold false d empty b.0)) (sym y.6) (leave_module E F couplings abstract concrete m d d' l.found l.found_code opened outside scope inner open_ opens takes b.0 y.2 b.2),
          )))
        where
          ends_at : (s : State) (vs : List (Option Value)) (a b : State) → ValuesFor d.state vs → beforeE.ends d.place d.start (start_state d.state vs) a → NE c (hold false d a.own s) b → NE (ModBlock m c) s (hold false d empty b)
          ends_at s vs a b hv started ended =
              here_some (find_module m E.modules) d (λ x. (vs : List (Option Value)) × (a b' : State) × ValuesFor x.state vs × beforeE.ends x.place x.start (start_state x.state vs) a
              × NE c (hold E.is_concrete x a.own s) b' × (hold false d empty b ≡ hold E.is_concrete x empty b')) l.found
              (subst (λ f. (vs : List (Option Value)) × (a b' : State) × ValuesFor d.state vs × beforeE.ends d.place d.start (start_state d.state vs) a
              × NE c (hold f d a.own s) b' × (hold false d empty b ≡ hold f d empty b')) (sym abstract) (vs, a, b, hv, started, ended, refl))

  mutual
    -- code that is well scoped, whose parts are linked, simulates itself
    pub links : (opened : List Name) (scope : List Entry) (c : Prog) → AreOpen E opened scope → is_code c ≡ true → prog_scoped (brings_of E) opened scope c ≡ true
        → EachPart (brings_of E) Fit opened scope c → EachPart (brings_of E) Part opened scope c → Self opened scope c
    links opened scope (Spec w) open_ code ok fit part = absurd (true≢false (sym code))
    links opened scope (Kid n) open_ code ok fit part = absurd (true≢false (sym code))
    links opened scope Skip open_ code ok fit part = skip_links opened scope
    links opened scope (Assign names terms) open_ code ok fit part = assign_links opened scope names terms open_ ok part.0 part.1
    links opened scope (Seq c d) open_ code ok fit part =
        seq_links opened scope c d (links opened scope c open_ (and_parts _ _ code).0 (and_parts _ _ ok).0 fit.1 part.1) (links opened scope d open_ (and_parts _ _ code).1 (and_parts _ _ ok).1 fit.2 part.2)
    links opened scope (If' shape arms) open_ code ok fit part = if_links opened scope arms (row_links opened scope arms open_ code ok part.0 fit.1 part.1)
    links opened scope (Do' variant shape arms) open_ code ok fit part =
        do_links opened scope arms (row_links opened scope arms open_ (and_parts _ _ code).1 (and_parts _ _ ok).1 part.0.1 fit.1 part.1) variant part.0.0
    links opened scope (Block x sort c) open_ code ok fit part =
        let r = some_tested (λ inner. prog_scoped (brings_of E) opened inner c) (with_local scope x sort) ok in
        block_links opened scope r.0 x sort c open_ r.1
        (links opened r.0 c (still_open scope _ r.0 (local_extends scope x sort r.0 r.1) E opened open_) code r.2
        (where_is (with_local scope x sort) r.0 (λ inner. EachPart (brings_of E) Fit opened inner c) r.1 fit.1)
        (where_is (with_local scope x sort) r.0 (λ inner. EachPart (brings_of E) Part opened inner c) r.1 part.1))
    links opened scope (Con pins c) open_ code ok fit part = absurd (true≢false (sym code))
    links opened scope (Call f args names) open_ code ok fit part = call_links opened scope f args names open_ fit part.0 part.1 part.2
    links opened scope (OpCall m o args names) open_ code ok fit part = op_links opened scope m o args names open_ (and_parts _ _ ok).0 fit part.0 part.1 part.2
    links opened scope (ModBlock m c) open_ code ok fit part =
        let q = some_tested (λ outside. if_some (λ inner. prog_scoped (brings_of E) outside inner c) (with_entries scope (brings_of E m))) (with_module opened m) ok in
        let r = some_tested (λ inner. prog_scoped (brings_of E) q.0 inner c) (with_entries scope (brings_of E m)) q.2 in
        let fit1 = where_is (with_module opened m) q.0 (λ outside. WhereSome (with_entries scope (brings_of E m)) (λ inner. EachPart (brings_of E) Fit outside inner c)) q.1 fit.1 in
        let part1 = where_is (with_module opened m) q.0 (λ outside. WhereSome (with_entries scope (brings_of E m)) (λ inner. EachPart (brings_of E) Part outside inner c)) q.1 part.1 in
        module_links opened q.0 scope r.0 m c open_ q.1 r.1 fit.0 part.0
        (links q.0 r.0 c (opens_more E F couplings abstract concrete m part.0.abstract part.0.concrete part.0.found part.0.found_code opened q.0 scope r.0 open_ q.1 r.1) code r.2
        (where_is (with_entries scope (brings_of E m)) r.0 (λ inner. EachPart (brings_of E) Fit q.0 inner c) r.1 fit1)
        (where_is (with_entries scope (brings_of E m)) r.0 (λ inner. EachPart (brings_of E) Part q.0 inner c) r.1 part1))

    row_links : {n : _} (opened : List Name) (scope : List Entry) (arms : Row_of-Arm n) → AreOpen E opened scope → are_code arms ≡ true → row_scoped (brings_of E) opened scope arms ≡ true → AreFreeGuards scope arms
        → EachArm (brings_of E) Fit opened scope arms → EachArm (brings_of E) Part opened scope arms → ArmsSelf opened scope arms
    row_links opened scope end_of-Arm open_ code ok free fit part = no_arms opened scope
    row_links opened scope (more_of-Arm g c rest) open_ code ok free fit part =
        let codes = (and_parts _ _ code).1 in
        let oks = (and_parts _ _ ok).1 in
        arm_links opened scope g c rest (and_parts _ _ code).0 free.0 (links opened scope c open_ (and_parts _ _ codes).0 (and_parts _ _ oks).0 fit.0 part.0)
        (row_links opened scope rest open_ (and_parts _ _ codes).1 (and_parts _ _ oks).1 free.1 fit.1 part.1)
