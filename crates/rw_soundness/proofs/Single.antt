-- The laws that leave names and programs alone.
use Rattle.std.proofs.Common.{ℕ, List, [], ◌∷◌}
use Rattle.rw_terms.specs.declared.scope.Entry.{Entry}
use Rattle.rw_terms.specs.declared.scope.Head.{Head}
use Rattle.rw_terms.specs.declared.term.Formula.{Formula}
use Rattle.rw_terms.specs.State.{State as Map, Fits as FitsMap}
use Rattle.rw_terms.specs.Validity.{Valid}
use Rattle.rw_terms.proofs.Restricted.{valid_follows}
use Rattle.rw_subst.proofs.Initially.{current_for_initial}
use Rattle.rw_programs.specs.declared.prog.Spec.{Spec}
use Rattle.rw_programs.specs.declared.prog.Prog.{Prog}
use Rattle.rw_programs.specs.declared.prog.Prog.TheVariants as prog
use Rattle.rw_programs.specs.State.{Name, State, Holds}
use Rattle.rw_programs.specs.Tables.{Table}
use Rattle.rw_programs.specs.Laws.{FollowsAfter}
use Rattle.rw_programs.proofs.Beside.{RefinesBeside, with_no_parts}
use Rattle.rw_programs.proofs.Frames.{within_fits}
use Rattle.rw_programs.proofs.Skipping.{stays}
use Rattle.rw_programs.proofs.Rules as rules
use Rattle.rw_derived.specs.Derived.{unchanged_post, initial_pre}
use Rattle.rw_laws.specs.Laws.{sequent_over}
use Rattle.rw_soundness.specs.Sound.{IsReady}
use Rattle.rw_soundness.proofs.Ready.{constants_off}
use Rattle.rw_soundness.proofs.Shapes.{initial_holds}

-- what a valid obligation says of the states of the scope
pub follows_of : (scope : List Entry) (E : Table) (f g : Formula) → Valid E.library (sequent_over scope (f ∷ []) (g ∷ [])) → (s : State) → FitsMap scope s.own → Holds E.library f s s → ¬ (¬ (Holds E.library g s s))
follows_of scope E f g valid s fits h deny = valid_follows E.library scope (f ∷ []) (g ∷ []) valid s.own s.own fits fits (h, tt) (deny, tt)

module _ (fixed : Map) (others : Name → Map) (scope : List Entry) (E : Table) (p k : ℕ) where
  abbrev pub Better : List Name → Formula → Formula → Prog → Type 0
  Better frame pre post c = RefinesBeside fixed others scope E p k (prog.Spec (record { frame = frame; pre = pre; post = post })) c

  pub skip_sound : (w : Spec) → Valid E.library (sequent_over scope (w.pre ∷ []) (unchanged_post w ∷ [])) → Better w.frame w.pre w.post prog.Skip
  skip_sound w valid s fits has pre = (
    tt,
    λ t e. stays scope E.library w s fits.names
        (λ deny. follows_of scope E w.pre (unchanged_post w) valid s fits.names pre (λ after. deny ((current_for_initial w.frame w.post E.library s.own []).0 after))) t e,
  )

  pub weaken_sound : (w : Spec) (f : Formula) (c : Prog) → Valid E.library (sequent_over scope (w.pre ∷ []) (f ∷ [])) → Better w.frame f w.post c → Better w.frame w.pre w.post c
  weaken_sound w f c valid kid = rules.weaken_law fixed others scope E p k w.frame w.pre w.post f c (λ s fits. follows_of scope E w.pre f valid s fits.names) kid

  pub strengthen_sound : (heads : List Head) (w : Spec) (f : Formula) (c : Prog) → IsReady scope heads w → Valid E.library (sequent_over scope (initial_pre w ∷ f ∷ []) (w.post ∷ []))
      → Better w.frame w.pre f c → Better w.frame w.pre w.post c
  strengthen_sound heads w f c ready valid kid = rules.strengthen_law fixed others scope E p k w.frame w.pre w.post f c follows kid
    where
      follows : FollowsAfter scope E.library w.frame w.pre f w.post
      follows s t fits within pre after deny =
          let before = (initial_holds E.library w.pre s.own t.own w.frame within.off (constants_off scope heads w.pre ready.pre.1 w.frame ready.variables)).1 pre in
          valid_follows E.library scope (initial_pre w ∷ f ∷ []) (w.post ∷ []) valid s.own t.own fits.names (within_fits scope w.frame s t (with_no_parts scope s fits) within).names (before, (after, tt)) (deny, tt)
