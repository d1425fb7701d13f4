-- A program that is well scoped, and whose calls end in states that fit, ends in states that fit.
use Rattle.std.proofs.Common.{◌≡◌, refl, sym, subst, ℕ, zero, suc, Bool, true, List, Option, Some, None, inl, inr, true≢false}
use Rattle.std.proofs.lemmas.Bool.{and_parts}
use Rattle.rw_terms.specs.declared.scope.Entry.{Entry}
use Rattle.rw_terms.specs.declared.term.Formula.{Formula}
use Rattle.rw_terms.specs.State.{Fits as FitsMap}
use Rattle.rw_programs.specs.declared.prog.ModCode.{ModCode}
use Rattle.rw_programs.specs.declared.prog.Spec.{Spec as Promise}
use Rattle.rw_programs.specs.declared.prog.Prog.{Prog, Spec, Kid, Skip, Assign, If', Do', Call, OpCall, Row_of-Arm, end_of-Arm, more_of-Arm}
use Rattle.rw_programs.specs.Made.{Seq, Block, Con, ModBlock}
use Rattle.rw_programs.specs.State.{Name, State, empty, with_own, put, put_all}
use Rattle.rw_programs.specs.Tables.{Table, find_module, pin_names, pin_terms, hold}
use Rattle.rw_programs.specs.Meaning.{Bodies, arm_ends, arms_sure, GuardsDefined, Chain, values}
use Rattle.rw_programs.specs.Scoped.{with_local, with_pins, with_entries, with_module, if_some, prog_scoped, row_scoped}
use Rattle.rw_programs.proofs.Frames.{within_fits}
use Rattle.rw_meaning.specs.Filling.{WhereSome, PartsFit, FitsIn, EachPart, EachArm, KeepsBy, CallFitsBy, brings_of}
use Rattle.rw_meaning.proofs.Options.{some_use₂}
use Rattle.rw_meaning.proofs.Entering.{assigned_fits, local_fits, local_gone, pins_fit, pins_gone}
use Rattle.rw_meaning.proofs.Modules.{module_enters, module_leaves}

-- where a test of what is there holds, something is there
pub some_tested : {A : Type 0} (test : A → Bool) (o : Option A) → if_some test o ≡ true → (a : A) × (o ≡ Some a) × (test a ≡ true)
some_tested test None e = absurd (true≢false (sym e))
some_tested test (Some a) e = (a, refl, e)

pub where_is : {A : Type 0} (o : Option A) (a : A) (P : A → Type 0) → o ≡ Some a → WhereSome o P → P a
where_is o a P e h = subst (λ o. WhereSome o P) e h

-- states of the same maps fit alike
pub own_fits : (E : Table) (opened : List Name) (scope : List Entry) (s t : State) → FitsIn E opened scope s → FitsMap scope t.own → t.part ≡ s.part → FitsIn E opened scope t
own_fits E opened scope s t f n e = record { names = n; parts = subst (PartsFit E.is_concrete E.modules opened) (sym e) f.parts }

module _ (E : Table) (calls before : Bodies) (brings : Name → List Entry) where
  abbrev Fit : List Name → List Entry → State → Type 0
  Fit = FitsIn E

  abbrev Keeps : List Name → List Entry → Prog → Type 0
  Keeps = KeepsBy E calls before

  abbrev CallFits : List Name → List Entry → Prog → Type 0
  CallFits = CallFitsBy E calls before brings

  abbrev ArmsKeep : {m : _} → List Name → List Entry → Row_of-Arm m → Type 0
  ArmsKeep opened scope arms = (s t : State) → Fit opened scope s → arms_sure E calls before arms s → arm_ends E calls before arms s t → Fit opened scope t

  spec_keeps : (opened : List Name) (scope : List Entry) (w : Promise) → Keeps opened scope (Spec w)
  spec_keeps opened scope w s t f h e =
      own_fits E opened scope s t f (within_fits {others = s.part} scope w.frame s t (record { names = f.names; parts = refl }) e.0).names e.0.parts

  chain_keeps : {m : _} (opened : List Name) (scope : List Entry) (arms : Row_of-Arm m) → ArmsKeep opened scope arms → (s : State) → Fit opened scope s
      → ((k : ℕ) (t : State) → Chain (arm_ends E calls before arms) k s t → GuardsDefined arms t × arms_sure E calls before arms t)
      → (k : ℕ) (t : State) → Chain (arm_ends E calls before arms) k s t → Fit opened scope t
  chain_keeps opened scope arms keeps s f h zero t e = subst (Fit opened scope) e f
  chain_keeps opened scope arms keeps s f h (suc k) t e = keeps e.0 t (chain_keeps opened scope arms keeps s f h k e.0 e.1) (h k e.0 e.1).1 e.2

  block_keeps : (opened : List Name) (scope inner : List Entry) (x : Name) (sort : _) (c : Prog) → with_local scope x sort ≡ Some inner → Keeps opened inner c → Keeps opened scope (Block x sort c)
  block_keeps opened scope inner x sort c h keeps s t f sure e =
      let into : Fit opened inner (with_own s (put x (Some e.0) s.own)) = record { names = local_fits scope x sort inner h s.own e.0 f.names e.2; parts = f.parts } in
      let m = keeps _ e.1 into (sure e.0 e.2) e.3 in
      subst (Fit opened scope) (sym e.4) (record { names = local_gone scope x sort inner h e.1.own m.names; parts = m.parts })

  con_keeps : (opened : List Name) (scope inner : List Entry) (pins : _) (c : Prog) → with_pins scope scope pins ≡ Some inner → Keeps opened inner c → Keeps opened scope (Con pins c)
  con_keeps opened scope inner pins c h keeps s t f sure e =
      let into : Fit opened inner (with_own s (put_all (pin_names pins) (values (pin_terms pins) s) s.own)) = record { names = pins_fit scope s f.names pins inner h; parts = f.parts } in
      let m = keeps _ e.0 into sure e.1 in
      subst (Fit opened scope) (sym e.2) (record { names = pins_gone scope s f.names pins inner h e.0.own m.names; parts = m.parts })

  module_keeps : (opened outside : List Name) (scope inner : List Entry) (m : Name) (c : Prog) → with_module opened m ≡ Some outside
      → with_entries scope (brings m) ≡ Some inner → CallFits opened scope (ModBlock m c) → Keeps outside inner c → Keeps opened scope (ModBlock m c)
  module_keeps opened outside scope inner m c opens takes fit keeps s t f sure e =
      let taken : with_entries scope (brings_of E m) ≡ Some inner = subst (λ es. with_entries scope es ≡ Some inner) fit.0 takes in
      some_use₂ (find_module m E.modules) _ _ _ (λ d found hs y. let st = hs y.0 y.3 in
      let into = module_enters E opened outside scope inner m d found opens taken s y.1.own f (fit.1 d found y.0 y.3 st.0 y.1 y.4) in
      let b = keeps (hold E.is_concrete d y.1.own s) y.2 into (st.1 y.1 y.4) y.5 in
      behind d y.2 t y.6 (module_leaves E opened outside scope inner m d found opens taken y.2 b)) sure e
    where
      behind : (d : ModCode) (a t : State) → t ≡ hold E.is_concrete d empty a → Fit opened scope (hold E.is_concrete d empty a) → Fit opened scope t
      behind d a t e f = subst (Fit opened scope) (sym e) f

  arm_keeps : {m : _} (opened : List Name) (scope : List Entry) (g : Formula) (c : Prog) (rest : Row_of-Arm m) → Keeps opened scope c → ArmsKeep opened scope rest → ArmsKeep opened scope (more_of-Arm g c rest)
  arm_keeps opened scope g c rest kc kr s t f h (inl e) = kc s t f (h.0 e.0) e.1
  arm_keeps opened scope g c rest kc kr s t f h (inr e) = kr s t f h.1 e

  mutual
    pub ends_fit : (opened : List Name) (scope : List Entry) (c : Prog) → prog_scoped brings opened scope c ≡ true → EachPart brings CallFits opened scope c → Keeps opened scope c
    ends_fit opened scope (Spec w) ok fit = spec_keeps opened scope w
    ends_fit opened scope (Kid n) ok fit = λ s t f h e. absurd e
    ends_fit opened scope Skip ok fit = λ s t f h e. subst (Fit opened scope) (sym e) f
    ends_fit opened scope (Assign names terms) ok fit = λ s t f h e.
        subst (Fit opened scope) (sym e) (record { names = assigned_fits scope s f.names names terms ok; parts = f.parts })
    ends_fit opened scope (Seq c d) ok fit = λ s t f h e.
        let m = ends_fit opened scope c (and_parts _ _ ok).0 fit.1 s e.0 f h.0 e.1 in
        ends_fit opened scope d (and_parts _ _ ok).1 fit.2 e.0 t m (h.1 e.0 e.1) e.2
    ends_fit opened scope (If' shape arms) ok fit = λ s t f h e. row_fits opened scope arms ok fit.1 s t f h.2 e
    ends_fit opened scope (Do' variant shape arms) ok fit = λ s t f h e.
        chain_keeps opened scope arms (row_fits opened scope arms (and_parts _ _ ok).1 fit.1) s f h.1 e.0.0 t e.0.1
    ends_fit opened scope (Block x sort c) ok fit =
        let r = some_tested (λ inner. prog_scoped brings opened inner c) (with_local scope x sort) ok in
        block_keeps opened scope r.0 x sort c r.1 (ends_fit opened r.0 c r.2 (where_is (with_local scope x sort) r.0 (λ inner. EachPart brings CallFits opened inner c) r.1 fit.1))
    ends_fit opened scope (Con pins c) ok fit =
        let r = some_tested (λ inner. prog_scoped brings opened inner c) (with_pins scope scope pins) ok in
        con_keeps opened scope r.0 pins c r.1 (ends_fit opened r.0 c r.2 (where_is (with_pins scope scope pins) r.0 (λ inner. EachPart brings CallFits opened inner c) r.1 fit.1))
    ends_fit opened scope (Call f args names) ok fit = fit
    ends_fit opened scope (OpCall m o args names) ok fit = fit
    ends_fit opened scope (ModBlock m c) ok fit =
        let q = some_tested (λ outside. if_some (λ inner. prog_scoped brings outside inner c) (with_entries scope (brings m))) (with_module opened m) ok in
        let r = some_tested (λ inner. prog_scoped brings q.0 inner c) (with_entries scope (brings m)) q.2 in
        let part = where_is (with_module opened m) q.0 (λ outside. WhereSome (with_entries scope (brings m)) (λ inner. EachPart brings CallFits outside inner c)) q.1 fit.1 in
        module_keeps opened q.0 scope r.0 m c q.1 r.1 fit.0
        (ends_fit q.0 r.0 c r.2 (where_is (with_entries scope (brings m)) r.0 (λ inner. EachPart brings CallFits q.0 inner c) r.1 part))

    pub row_fits : {m : _} (opened : List Name) (scope : List Entry) (arms : Row_of-Arm m) → row_scoped brings opened scope arms ≡ true → EachArm brings CallFits opened scope arms → ArmsKeep opened scope arms
    row_fits opened scope end_of-Arm ok fit = λ s t f h e. absurd e
    row_fits opened scope (more_of-Arm g c rest) ok fit =
        let both = (and_parts _ _ ok).1 in
        arm_keeps opened scope g c rest (ends_fit opened scope c (and_parts _ _ both).0 fit.0) (row_fits opened scope rest (and_parts _ _ both).1 fit.1)
