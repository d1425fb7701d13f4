-- The laws of smaller and larger frames.
use Rattle.std.proofs.Common.{◌≡◌, ℕ, Bool, true, false, ◌||◌, List, [], ◌∷◌, ◌++◌, map, find, filter, Option, Some, None, reverse, refl, sym, ap, ◌∙◌, subst, true≢false}
use Rattle.std.proofs.lemmas.Bool.{false_from_ne_true}
use Rattle.std.specs.Prelude.{not, bytes_eq}
use Rattle.rw_terms.specs.declared.scope.Entry.{Entry}
use Rattle.rw_terms.specs.declared.term.Term.TheVariants as v
use Rattle.rw_terms.specs.declared.term.Formula.TheVariants as formula
use Rattle.rw_terms.specs.declared.term.Formula.TheOpen.{Formula-F}
use Rattle.rw_terms.specs.Scopes.{has_name}
use Rattle.rw_terms.specs.State.{Value, given, value_in, FitsEntry, State as Map}
use Rattle.rw_terms.specs.Truth.{Definition, predicates_of, holds}
use Rattle.rw_terms.specs.Validity.{Each}
use Rattle.rw_terms.proofs.Truths.{to_layer}
use Rattle.rw_faults.specs.Initial.{is_listed}
use Rattle.rw_subst.specs.declared.slot.Form.TheVariants as form
use Rattle.rw_subst.specs.Looks.{in_states}
use Rattle.rw_subst.proofs.ClosedTerms.{plain_value}
use Rattle.rw_subst.proofs.Defining.{conj_holds}
use Rattle.rw_programs.specs.declared.prog.Spec.{Spec}
use Rattle.rw_programs.specs.declared.prog.Prog.{Prog}
use Rattle.rw_programs.specs.State.{Name, State, Within, is_in}
use Rattle.rw_programs.specs.Tables.{Table}
use Rattle.rw_programs.proofs.Beside.{FitsBeside}
use Rattle.rw_programs.proofs.Frames.{within_fits}
use Rattle.rw_meaning.proofs.Tests.{same_bytes}
use Rattle.rw_derived.specs.Derived.{without, contracted_post, keeps_value, expanded_post}
use Rattle.rw_soundness.proofs.Bits.{either, listed_in}
use Rattle.rw_soundness.proofs.Ready.{within_by_fits}
use Rattle.rw_soundness.proofs.Shapes.{contracted_holds}
use Rattle.rw_soundness.proofs.Single.{Better}

-- a name outside a frame is outside what is left of it
out_of_filter : (test : Name → Bool) (frame : List Name) (x : Name) → is_in x frame ≡ false → is_in x (filter test frame) ≡ false
out_of_filter test [] x off = refl
out_of_filter test (y ∷ frame) x off = go (test y) refl (bytes_eq x y) refl (out_of_filter test frame x)
  where
    go : (b : Bool) → test y ≡ b → (c : Bool) → bytes_eq x y ≡ c → (is_in x frame ≡ false → is_in x (filter test frame) ≡ false) → is_in x (filter test (y ∷ frame)) ≡ false
    go b t true e ih = absurd (true≢false (sym (ap (λ d. d || is_in x frame) e) ∙ off))
    go true t false e ih = rw t (rw e (ih (sym (ap (λ d. d || is_in x frame) e) ∙ off)))
    go false t false e ih = rw t (ih (sym (ap (λ d. d || is_in x frame) e) ∙ off))

-- names that are taken out are outside
taken_out : (names frame : List Name) (x : Name) → is_in x names ≡ true → is_in x (without names frame) ≡ false
taken_out names [] x i = refl
taken_out names (y ∷ frame) x i = go (not (is_listed names y)) refl (bytes_eq x y) refl (taken_out names frame x i)
  where
    go : (b : Bool) → not (is_listed names y) ≡ b → (c : Bool) → bytes_eq x y ≡ c → is_in x (without names frame) ≡ false → is_in x (without names (y ∷ frame)) ≡ false
    go false t c e ih = rw t ih
    go true t false e ih = rw t (rw e ih)
    go true t true e ih = absurd (true≢false (sym t ∙ (ap not (listed_in names y) ∙ (ap (λ z. not (is_in z names)) (sym (same_bytes x y e)) ∙ ap not i))))

module _ (fixed : Map) (others : Name → Map) (scope : List Entry) (E : Table) (p k : ℕ) (w : Spec) (names : List Name) where
  pub contract_sound : (c : Prog) → Better fixed others scope E p k (without names w.frame) w.pre (contracted_post w names) c → Better fixed others scope E p k w.frame w.pre w.post c
  contract_sound c kid s fits has pre =
      let better = kid s fits has pre in (
        better.0,
        λ t e. let i = better.1 t e in (
          within_by_fits scope w.frame s t fits (within_fits scope (without names w.frame) s t fits i.0) (λ x off. i.0.off x (out_of_filter (λ y. not (is_listed names y)) w.frame x off)),
          (contracted_holds E.library w.post s.own t.own names (λ x n. i.0.off x (taken_out names w.frame x n))).0 i.1,
        ),
      )

  -- a name of none of two lists
  in_neither : (frame more : List Name) (x : Name) → is_in x frame ≡ false → is_in x more ≡ false → is_in x (frame ++ more) ≡ false
  in_neither [] more x off out = out
  in_neither (y ∷ frame) more x off out =
      false_from_ne_true (is_in x (y ∷ frame ++ more)) (either ⊥ (bytes_eq x y) (is_in x (frame ++ more)) (λ e. true≢false (sym (ap (λ d. d || is_in x frame) e) ∙ off))
      (λ i. true≢false (sym i ∙ in_neither frame more x (rest (bytes_eq x y) refl) out)))
    where
      rest : (b : Bool) → bytes_eq x y ≡ b → is_in x frame ≡ false
      rest true e = absurd (true≢false (sym (ap (λ d. d || is_in x frame) e) ∙ off))
      rest false e = sym (ap (λ d. d || is_in x frame) e) ∙ off

  -- what each of the added formulas says
  kept_value : (library : List Definition) (s t : Map) (x : Name) → holds library (keeps_value x) s t [] → value_in t x ≡ value_in s x
  kept_value library s t x h =
      let looks = in_states s t in
      let equal = to_layer (predicates_of (reverse library)) (value_in t) (value_in s) (value_in t) (Formula-F.Eq (v.Var x) (v.Init x)) []
      (subst (λ f. holds library f s t []) (sym (formula.rolls-Eq (v.Var x) (v.Init x))) h) in
      sym (plain_value looks [] form.Variable x) ∙ (equal ∙ plain_value looks [] form.Initial x)

  each_kept : (library : List Definition) (s t : Map) (xs : List Name) → Each (λ f. holds library f s t []) (map keeps_value xs) → (x : Name) → is_in x xs ≡ true → value_in t x ≡ value_in s x
  each_kept library s t [] h x i = absurd (true≢false (sym i))
  each_kept library s t (y ∷ xs) h x i =
      either (value_in t x ≡ value_in s x) (bytes_eq x y) (is_in x xs) (λ e. subst (λ z. value_in t z ≡ value_in s z) (sym (same_bytes x y e)) (kept_value library s t y h.0))
      (each_kept library s t xs h.1 x) i

  -- values of one entry that are given as one are one
  same_given : (o : Option Entry) (u u' : Option Value) → FitsEntry o u → FitsEntry o u' → given u' ≡ given u → u' ≡ u
  same_given None None None a b e = refl
  same_given None None (Some v) a b e = absurd b
  same_given None (Some u) u' a b e = absurd a
  same_given (Some o) None u' a b e = absurd a
  same_given (Some o) (Some u) None a b e = absurd b
  same_given (Some o) (Some u) (Some v) a b e = ap Some e

  pub expand_sound : (c : Prog) → Better fixed others scope E p k (w.frame ++ names) w.pre (expanded_post w names) c → Better fixed others scope E p k w.frame w.pre w.post c
  expand_sound c kid s fits has pre =
      let better = kid s fits has pre in (
        better.0,
        λ t e. let i = better.1 t e in
            let fits' = within_fits scope (w.frame ++ names) s t fits i.0 in
            let all = (conj_holds scope E.library s.own t.own fits.names fits'.names (w.post ∷ map keeps_value names)).0 i.1 in
            (within_by_fits scope w.frame s t fits fits' (λ x off. keeps x off (is_in x names) refl t fits' i.0 all.1), all.0),
      )
    where
      keeps : (x : Name) → is_in x w.frame ≡ false → (b : Bool) → is_in x names ≡ b → (t : State) → FitsBeside others scope t → Within (w.frame ++ names) s t
          → Each (λ f. holds E.library f s.own t.own []) (map keeps_value names) → t.own x ≡ s.own x
      keeps x off true n t fits' within all = same_given (find (has_name x) scope) (s.own x) (t.own x) (fits.names x) (fits'.names x) (each_kept E.library s.own t.own names all x n)
      keeps x off false n t fits' within all = within.off x (in_neither w.frame names x off n)
