-- The law of alternations is sound.
use Rattle.std.proofs.Common.{◌≡◌, ℕ, suc, true, ◌&&◌, None, List, [], ◌∷◌, map, sym, subst}
use Rattle.std.proofs.lemmas.Bool.{and_parts}
use Rattle.std.specs.List.{list_all}
use Rattle.rw_terms.specs.declared.term.Formula.{Formula}
use Rattle.rw_terms.specs.declared.scope.Head.{Head}
use Rattle.rw_terms.specs.Defined.{GuardDefined}
use Rattle.rw_terms.specs.State.{State as Map}
use Rattle.rw_subst.proofs.DefiningGuards.{definedness_of_guards}
use Rattle.rw_programs.specs.declared.prog.Prog.{Prog}
use Rattle.rw_programs.specs.declared.prog.Spec.{Spec}
use Rattle.rw_programs.specs.declared.applied.Context.{Context}
use Rattle.rw_programs.specs.State.{Name, State, Holds, Within}
use Rattle.rw_programs.specs.Tables.{Table}
use Rattle.rw_programs.specs.Meaning.{bodies, bodies_before, sure_by, ends_by}
use Rattle.rw_programs.specs.Refine.{HasValues}
use Rattle.rw_programs.proofs.Beside.{FitsBeside}
use Rattle.rw_faults.specs.Limits.{is_small}
use Rattle.rw_subst.specs.Conj.{disj}
use Rattle.rw_loops.specs.Code.{code_misfit}
use Rattle.rw_loops.specs.Limits.{sequent_within, is_within}
use Rattle.rw_loops.specs.Laws.{if_kid, if_made}
use Rattle.rw_soundness.specs.Sound.{FitsWith, KidsMeetWhere, IsSoundWhere}
use Rattle.rw_loops.proofs.GuardLemmas.{definedness_of_disj, each_defined, some_holds, both_hold}
use Rattle.rw_loops.proofs.Plain.{guard_of_code}
use Rattle.rw_loops.proofs.Placed.{small_within, owed_holds, is_code}
use Rattle.rw_loops.proofs.Rows.{EachArm, if_sure, if_ends}

module _ (context : Context) (heads : List Head) (w : Spec) (guards : List Formula) (no_misfit : code_misfit context.scope heads (disj guards) ≡ None) (within : is_within (if_made context w guards) ≡ true) where
  owed_within : list_all sequent_within (if_made context w guards).obligations ≡ true
  unfolding is_within
  owed_within = (and_parts _ _ within).0

  disj_small : is_small (disj guards) ≡ true
  disj_small =
      let second : ((is_small w.pre && true) && (is_small (disj guards) && true)) ≡ true = (and_parts _ _ (and_parts _ _ owed_within).1).0 in
      (and_parts _ _ (and_parts (is_small w.pre && true) _ second).1).0

  module _ (fixed : Map) (E : Table) (p k : ℕ) (ks : ℕ → Prog) (others : Name → Map) (s : State) (fits : FitsBeside others context.scope s) (has : HasValues context.scope fixed s) (h : Holds E.library w.pre s s) where
    abbrev Arms : (Formula → Prog → Type 0) → ℕ → List Formula → Type 0
    Arms = EachArm E (bodies E p k) (bodies_before E p) ks

    sure_arms : (gs : List Formula) (n : ℕ) → KidsMeetWhere (FitsWith others) fixed E p k ks n (map (if_kid context w) gs) → Arms (λ g c. Holds E.library g s s → sure_by E (bodies E p k) (bodies_before E p) c s) n gs
    sure_arms [] n r = tt
    sure_arms (g ∷ gs) n r = ((λ hg. (r.0 s (fits.names, fits.parts) has (both_hold E.library s s g w.pre hg h)).0), sure_arms gs (suc n) r.1)

    end_arms : (t : State) (gs : List Formula) (n : ℕ) → KidsMeetWhere (FitsWith others) fixed E p k ks n (map (if_kid context w) gs)
        → Arms (λ g c. Holds E.library g s s → ends_by E (bodies E p k) (bodies_before E p) c s t → Within w.frame s t × Holds E.library w.post s t) n gs
    end_arms t [] n r = tt
    end_arms t (g ∷ gs) n r = ((λ hg e. (r.0 s (fits.names, fits.parts) has (both_hold E.library s s g w.pre hg h)).1 t e), end_arms t gs (suc n) r.1)

  pub if_sound : (others : Name → Map) → IsSoundWhere (FitsWith others) context w (if_made context w guards)
  if_sound others fixed E p k ks valid kids s at has h =
      let fits : FitsBeside others context.scope s = record { names = at.0; parts = at.1 } in
      let code = is_code context.scope heads (disj guards) no_misfit in
      let conditions = owed_holds E.library context.scope w.pre _ valid.0 s fits.names h in
      let defined : GuardDefined s.own s.own (disj guards) =
      (definedness_of_guards context.scope heads (disj guards) (small_within (disj guards) disj_small, code.keeps) (guard_of_code (disj guards) code.guard) E.library s.own s.own fits.names fits.names).0
      (subst (λ f. Holds E.library f s s) (sym (definedness_of_disj context.scope guards)) conditions) in
      let some = some_holds E.library s s guards (owed_holds E.library context.scope w.pre (disj guards) valid.1.0 s fits.names h) in (
        if_sure E (bodies E p k) (bodies_before E p) ks guards s (each_defined s.own s.own guards defined) some (sure_arms fixed E p k ks others s fits has h guards 1 kids),
        λ t e. if_ends E (bodies E p k) (bodies_before E p) ks (Within w.frame s t × Holds E.library w.post s t) guards s t (end_arms fixed E p k ks others s fits has h t guards 1 kids) e,
      )
