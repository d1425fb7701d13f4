-- A filled skeleton is better where what is put for its kids is.
use Rattle.std.proofs.Common.{◌≡◌, ◌≤◌, subst, ℕ, zero, suc, true, List, Some, inl, inr}
use Rattle.std.proofs.lemmas.Bool.{and_parts}
use Rattle.rw_terms.specs.declared.scope.Entry.{Entry}
use Rattle.rw_terms.specs.declared.term.Term.{Term}
use Rattle.rw_terms.specs.declared.term.Formula.{Formula}
use Rattle.rw_programs.specs.declared.prog.Prog.{Prog, Spec, Kid, Skip, Assign, If', Do', Call, OpCall, Row_of-Arm, end_of-Arm, more_of-Arm}
use Rattle.rw_programs.specs.Made.{Seq, Block, Con, ModBlock}
use Rattle.rw_programs.specs.State.{Name, State}
use Rattle.rw_programs.specs.Tables.{Table, find_module}
use Rattle.rw_programs.specs.Meaning.{Bodies, ends_by, sure_by, arm_ends, arms_sure, NoGuard, GuardsDefined, Chain, IsBound}
use Rattle.rw_programs.specs.Scoped.{with_local, with_pins, with_entries, with_module, if_some, prog_scoped, row_scoped}
use Rattle.rw_meaning.specs.Filling.{fill, fill_row, WhereSome, EachPart, EachArm, BetterBy}
use Rattle.rw_meaning.proofs.Options.{some_map, some_map₂}
use Rattle.rw_meaning.proofs.Ending.{some_tested, where_is}
use Rattle.rw_meaning.proofs.Carried.{Carried}

-- `Fit` says which states the program runs through, where each of its parts meets Q, and K what is asked of the kids there.
module _ (E : Table) (calls before : Bodies) (brings : Name → List Entry) (ks js : ℕ → Prog)
    (Q K : List Name → List Entry → Prog → Type 0) (Fit : List Name → List Entry → State → Type 0) (carried : Carried E calls before brings Q Fit)
    (kid_better : (opened : List Name) (scope : List Entry) (n : ℕ) → K opened scope (Kid n) → (s : State) → Fit opened scope s → BetterBy E calls before (ks n) (js n) s) where
  abbrev S : Prog → State → Type 0
  S = sure_by E calls before

  abbrev N : Prog → State → State → Type 0
  N = ends_by E calls before

  abbrev SA : {m : _} → Row_of-Arm m → State → Type 0
  SA = arms_sure E calls before

  abbrev NA : {m : _} → Row_of-Arm m → State → State → Type 0
  NA = arm_ends E calls before

  -- where sure, the program ends in such states
  abbrev Keeps : List Name → List Entry → Prog → Type 0
  Keeps opened scope c = (s t : State) → Fit opened scope s → S c s → N c s t → Fit opened scope t

  abbrev Better : List Name → List Entry → Prog → Prog → Type 0
  Better opened scope c d = (s : State) → Fit opened scope s → BetterBy E calls before c d s

  abbrev ArmsBetter : {m n : _} → List Name → List Entry → Row_of-Arm m → Row_of-Arm n → Type 0
  ArmsBetter opened scope c d = (s : State) → Fit opened scope s → SA c s → SA d s × ((t : State) → NA d s t → NA c s t)

  itself : (opened : List Name) (scope : List Entry) (c : Prog) → Better opened scope c c
  itself opened scope c s f h = (h, λ t e. e)

  seq_better : (opened : List Name) (scope : List Entry) (c c' d d' : Prog) → Keeps opened scope c → Better opened scope c c' → Better opened scope d d' → Better opened scope (Seq c d) (Seq c' d')
  seq_better opened scope c c' d d' keeps bc bd s f h =
      let x = bc s f h.0 in (
        (x.0, λ m e. let e0 = x.1 m e in (bd m (keeps s m f h.0 e0) (h.1 m e0)).0),
        λ t e. let e0 = x.1 e.0 e.1 in (e.0, e0, (bd e.0 (keeps s e.0 f h.0 e0) (h.1 e.0 e0)).1 t e.2),
      )

  -- the guards of a filled choice are those of the skeleton
  guards_from : {m : _} (arms : Row_of-Arm m) (s : State) → GuardsDefined (fill_row ks arms) s → GuardsDefined (fill_row js arms) s
  guards_from end_of-Arm s h = tt
  guards_from (more_of-Arm g c rest) s h = (h.0, guards_from rest s h.1)

  none_to : {m : _} (arms : Row_of-Arm m) (s : State) → NoGuard E.library (fill_row js arms) s → NoGuard E.library (fill_row ks arms) s
  none_to end_of-Arm s h = tt
  none_to (more_of-Arm g c rest) s h = (h.0, none_to rest s h.1)

  -- a chain of the better arms is one of the others, through states that fit
  chain_from : {m n : _} (opened : List Name) (scope : List Entry) (c : Row_of-Arm m) (d : Row_of-Arm n) → ((s t : State) → Fit opened scope s → SA c s → NA c s t → Fit opened scope t)
      → ArmsBetter opened scope c d → (s : State) → Fit opened scope s → ((k : ℕ) (t : State) → Chain (NA c) k s t → SA c t) → (k : ℕ) (t : State) → Chain (NA d) k s t → Chain (NA c) k s t × Fit opened scope t
  chain_from opened scope c d keeps b s f h zero t e = (e, subst (Fit opened scope) e f)
  chain_from opened scope c d keeps b s f h (suc k) t e =
      let x = chain_from opened scope c d keeps b s f h k e.0 e.1 in
      let sure = h k e.0 x.0 in
      let turn = (b e.0 x.1 sure).1 t e.2 in
      ((e.0, x.0, turn), keeps e.0 t x.1 sure turn)

  -- a loop over the filled arms
  abbrev LoopSure : {m : _} → Term → Row_of-Arm m → State → Type 0
  LoopSure variant c s =
      ((n : ℕ) × ((k : ℕ) (t : State) → Chain (NA c) k s t → k ≤ n) × IsBound E.by_variant variant s n)
      × ((k : ℕ) (t : State) → Chain (NA c) k s t → GuardsDefined c t × SA c t)

  abbrev LoopEnds : {m : _} → Row_of-Arm m → State → State → Type 0
  LoopEnds c s t = ((n : ℕ) × Chain (NA c) n s t) × NoGuard E.library c t

  loop_better : {m : _} (opened : List Name) (scope : List Entry) (variant : Term) (arms : Row_of-Arm m)
      → ((s t : State) → Fit opened scope s → SA (fill_row ks arms) s → NA (fill_row ks arms) s t → Fit opened scope t)
      → ArmsBetter opened scope (fill_row ks arms) (fill_row js arms) → (s : State) → Fit opened scope s → LoopSure variant (fill_row ks arms) s
      → LoopSure variant (fill_row js arms) s × ((t : State) → LoopEnds (fill_row js arms) s t → LoopEnds (fill_row ks arms) s t)
  loop_better opened scope variant arms keeps b s f h =
      let from = chain_from opened scope (fill_row ks arms) (fill_row js arms) keeps b s f (λ k t e. (h.1 k t e).1) in (
        (
          (h.0.0, (λ k t e. h.0.1 k t (from k t e).0), h.0.2),
          λ k t e. let x = from k t e in let y = h.1 k t x.0 in (guards_from arms t y.0, (b t x.1 y.1).0),
        ),
        λ t e. ((e.0.0, (from e.0.0 t e.0.1).0), none_to arms t e.1),
      )

  arm_better : {m n : _} (opened : List Name) (scope : List Entry) (g : Formula) (c c' : Prog) (rest : Row_of-Arm m) (rest' : Row_of-Arm n)
      → Better opened scope c c' → ArmsBetter opened scope rest rest' → ArmsBetter opened scope (more_of-Arm g c rest) (more_of-Arm g c' rest')
  arm_better opened scope g c c' rest rest' b r s f h = let rs = r s f h.1 in ((λ hg. (b s f (h.0 hg)).0, rs.0), λ t e. back t e rs.1)
    where
      back : (t : State) → NA (more_of-Arm g c' rest') s t → ((t : State) → NA rest' s t → NA rest s t) → NA (more_of-Arm g c rest) s t
      back t (inl e) q = inl (e.0, (b s f (h.0 e.0)).1 t e.1)
      back t (inr e) q = inr (q t e)

  block_better : (opened : List Name) (scope inner : List Entry) (x : Name) (sort : _) (c c' : Prog) → with_local scope x sort ≡ Some inner → Better opened inner c c' → Better opened scope (Block x sort c) (Block x sort c')
  block_better opened scope inner x sort c c' h b s f sure = (
    λ v hv. (b _ (carried.in_block opened scope inner x sort h s v f hv) (sure v hv)).0,
    λ t e. (e.0, e.1, e.2, (b _ (carried.in_block opened scope inner x sort h s e.0 f e.2) (sure e.0 e.2)).1 e.1 e.3, e.4),
  )

  con_better : (opened : List Name) (scope inner : List Entry) (pins : _) (c c' : Prog) → with_pins scope scope pins ≡ Some inner → Better opened inner c c' → Better opened scope (Con pins c) (Con pins c')
  con_better opened scope inner pins c c' h b s f sure =
      let x = b _ (carried.in_con opened scope inner pins h s f) sure in
      (x.0, λ t e. (e.0, x.1 e.0 e.1, e.2))

  module_better : (opened outside : List Name) (scope inner : List Entry) (m : Name) (c c' : Prog) → with_module opened m ≡ Some outside
      → with_entries scope (brings m) ≡ Some inner → Q opened scope (ModBlock m c) → Better outside inner c c' → Better opened scope (ModBlock m c) (ModBlock m c')
  module_better opened outside scope inner m c c' opens takes fit b s f h =
      let into = carried.in_module opened outside scope inner m c opens takes fit in (
        some_map (find_module m E.modules) _ _ (λ d found hs vs hv. let st = hs vs hv in
            (st.0, λ a e. (b _ (into d found vs hv st.0 a e s f) (st.1 a e)).0)) h,
        λ t x. some_map₂ (find_module m E.modules) _ _ _ (λ d found hs y. let st = hs y.0 y.3 in
            (y.0, y.1, y.2, y.3, y.4, (b _ (into d found y.0 y.3 st.0 y.1 y.4 s f) (st.1 y.1 y.4)).1 y.2 y.5, y.6)) h x,
      )

  mutual
    pub fill_better : (opened : List Name) (scope : List Entry) (c : Prog) → prog_scoped brings opened scope (fill ks c) ≡ true
        → EachPart brings Q opened scope (fill ks c) → EachPart brings K opened scope c → Better opened scope (fill ks c) (fill js c)
    fill_better opened scope (Spec w) ok fit kid = itself opened scope (Spec w)
    fill_better opened scope (Kid n) ok fit kid = kid_better opened scope n kid
    fill_better opened scope Skip ok fit kid = itself opened scope Skip
    fill_better opened scope (Assign names terms) ok fit kid = itself opened scope (Assign names terms)
    fill_better opened scope (Seq c d) ok fit kid =
        let first = (and_parts _ _ ok).0 in
        seq_better opened scope (fill ks c) (fill js c) (fill ks d) (fill js d) (carried.ends opened scope (fill ks c) first fit.1)
        (fill_better opened scope c first fit.1 kid.1) (fill_better opened scope d (and_parts _ _ ok).1 fit.2 kid.2)
    fill_better opened scope (If' shape arms) ok fit kid = λ s f h.
        let b = row_better opened scope arms ok fit.1 kid.1 s f h.2 in
        ((guards_from arms s h.0, λ none. h.1 (none_to arms s none), b.0), b.1)
    fill_better opened scope (Do' variant shape arms) ok fit kid =
        let rest = (and_parts _ _ ok).1 in
        loop_better opened scope variant arms (carried.row_ends opened scope (fill_row ks arms) rest fit.1) (row_better opened scope arms rest fit.1 kid.1)
    fill_better opened scope (Block x sort c) ok fit kid =
        let r = some_tested (λ inner. prog_scoped brings opened inner (fill ks c)) (with_local scope x sort) ok in
        block_better opened scope r.0 x sort (fill ks c) (fill js c) r.1
        (fill_better opened r.0 c r.2 (where_is (with_local scope x sort) r.0 (λ inner. EachPart brings Q opened inner (fill ks c)) r.1 fit.1)
        (where_is (with_local scope x sort) r.0 (λ inner. EachPart brings K opened inner c) r.1 kid.1))
    fill_better opened scope (Con pins c) ok fit kid =
        let r = some_tested (λ inner. prog_scoped brings opened inner (fill ks c)) (with_pins scope scope pins) ok in
        con_better opened scope r.0 pins (fill ks c) (fill js c) r.1
        (fill_better opened r.0 c r.2 (where_is (with_pins scope scope pins) r.0 (λ inner. EachPart brings Q opened inner (fill ks c)) r.1 fit.1)
        (where_is (with_pins scope scope pins) r.0 (λ inner. EachPart brings K opened inner c) r.1 kid.1))
    fill_better opened scope (Call f args names) ok fit kid = itself opened scope (Call f args names)
    fill_better opened scope (OpCall m o args names) ok fit kid = itself opened scope (OpCall m o args names)
    fill_better opened scope (ModBlock m c) ok fit kid =
        let q = some_tested (λ outside. if_some (λ inner. prog_scoped brings outside inner (fill ks c)) (with_entries scope (brings m))) (with_module opened m) ok in
        let r = some_tested (λ inner. prog_scoped brings q.0 inner (fill ks c)) (with_entries scope (brings m)) q.2 in
        let one = where_is (with_module opened m) q.0 (λ outside. WhereSome (with_entries scope (brings m)) (λ inner. EachPart brings Q outside inner (fill ks c))) q.1 fit.1 in
        let two = where_is (with_module opened m) q.0 (λ outside. WhereSome (with_entries scope (brings m)) (λ inner. EachPart brings K outside inner c)) q.1 kid.1 in
        module_better opened q.0 scope r.0 m (fill ks c) (fill js c) q.1 r.1 fit.0
        (fill_better q.0 r.0 c r.2 (where_is (with_entries scope (brings m)) r.0 (λ inner. EachPart brings Q q.0 inner (fill ks c)) r.1 one)
        (where_is (with_entries scope (brings m)) r.0 (λ inner. EachPart brings K q.0 inner c) r.1 two))

    row_better : {m : _} (opened : List Name) (scope : List Entry) (arms : Row_of-Arm m) → row_scoped brings opened scope (fill_row ks arms) ≡ true
        → EachArm brings Q opened scope (fill_row ks arms) → EachArm brings K opened scope arms → ArmsBetter opened scope (fill_row ks arms) (fill_row js arms)
    row_better opened scope end_of-Arm ok fit kid = λ s f h. (tt, λ t e. e)
    row_better opened scope (more_of-Arm g c rest) ok fit kid =
        let both = (and_parts _ _ ok).1 in
        arm_better opened scope g (fill ks c) (fill js c) (fill_row ks rest) (fill_row js rest) (fill_better opened scope c (and_parts _ _ both).0 fit.0 kid.0) (row_better opened scope rest (and_parts _ _ both).1 fit.1 kid.1)
