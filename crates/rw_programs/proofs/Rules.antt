-- The basic laws.
use Rattle.std.proofs.Common.{◌≡◌, refl, sym, subst, ◌∙◌, ℕ, Bool, true, false, List, true≢false}
use Rattle.rw_terms.specs.declared.scope.Entry.{Entry}
use Rattle.rw_terms.specs.declared.term.Term.{Term}
use Rattle.rw_terms.specs.declared.term.Formula.{Formula}
use Rattle.rw_terms.specs.State.{State as Map}
use Rattle.rw_programs.specs.declared.prog.Prog.{Prog, Spec, Assign}
use Rattle.rw_programs.specs.Made.{Seq}
use Rattle.rw_programs.specs.State.{Name, State, Holds, Within, alone, is_in}
use Rattle.rw_programs.specs.Tables.{Table}
use Rattle.rw_programs.specs.Meaning.{values}
use Rattle.rw_programs.specs.Refine.{HasValues}
use Rattle.rw_programs.specs.Laws.{Follows, FollowsAfter, IsInitialFree, KeepsValues, AssignFits, assigned}
use Rattle.rw_programs.proofs.Beside.{RefinesBeside, alone_fits}
use Rattle.rw_programs.proofs.Frames.{within_fits, within_trans, put_all_off}
use Rattle.rw_programs.proofs.Skipping.{stable}

-- names of kind value keep their values
pub within_values : (scope : List Entry) (fixed : Map) (w : List Name) (s t : State) → KeepsValues scope w → HasValues scope fixed s → Within w s t → HasValues scope fixed t
within_values scope fixed w s t keeps has h x v = go (is_in x w) refl
  where
    go : (b : Bool) → is_in x w ≡ b → t.own x ≡ fixed x
    go true e = absurd (true≢false (sym v ∙ keeps x e))
    go false e = h.off x e ∙ has x v

module _ (fixed : Map) (others : Name → Map) (scope : List Entry) (E : Table) (p k : ℕ) (w : List Name) (pre post : Formula) where
  abbrev spec : Formula → Formula → Prog
  spec f g = Spec (record { frame = w; pre = f; post = g })

  abbrev Better : Prog → Prog → Type 0
  Better c d = RefinesBeside fixed others scope E p k c d

  pub weaken_law : (f : Formula) (c : Prog) → Follows scope E.library pre (λ s. ¬ (¬ (Holds E.library f s s)))
      → Better (spec f post) c → Better (spec pre post) c
  weaken_law f c follows kid s fits has h = kid s fits has (stable E.library f s s (follows (alone s.own) (alone_fits scope s.own fits.names) h))

  pub strengthen_law : (f : Formula) (c : Prog) → FollowsAfter scope E.library w pre f post → Better (spec pre f) c → Better (spec pre post) c
  strengthen_law f c follows kid s fits has h =
      let better = kid s fits has h in
      (better.0, λ t end. let i = better.1 t end in (i.0, stable E.library post s t (follows (alone s.own) (alone t.own) (alone_fits scope s.own fits.names) (record { off = i.0.off; sorts = i.0.sorts; parts = refl }) h i.1)))

  pub assign_law : (names : List Name) (terms : List Term) → AssignFits scope E.library w pre post names terms → Better (spec pre post) (Assign names terms)
  assign_law names terms a s fits has h = (
    a.defined (alone s.own) (alone_fits scope s.own fits.names) h,
    λ t e. subst (λ t. Within w s t × Holds E.library post s t) (sym e) (
      record { off = λ x out. put_all_off names (values terms s) s.own x (a.in_frame x out); sorts = a.sorts (alone s.own) (alone_fits scope s.own fits.names); parts = refl },
      stable E.library post s (assigned names terms s) (a.after (alone s.own) (alone_fits scope s.own fits.names) h),
    ),
  )

  pub seq_law : KeepsValues scope w → (mid : Formula) (c d : Prog) → IsInitialFree E.library mid → IsInitialFree E.library post
      → Better (spec pre mid) c → Better (spec mid post) d → Better (spec pre post) (Seq c d)
  seq_law keeps mid c d fm fp one two s fits has h =
      let first = one s fits has h in (
        (
          first.0,
          λ m e. let i = first.1 m e in
              (two m (within_fits scope w s m fits i.0) (within_values scope fixed w s m keeps has i.0) (fm s m m i.1)).0,
        ),
        λ t e. let i = first.1 e.0 e.1 in
            let j = (two e.0 (within_fits scope w s e.0 fits i.0) (within_values scope fixed w s e.0 keeps has i.0) (fm s e.0 e.0 i.1)).1 t e.2 in
            (within_trans w s e.0 t i.0 j.0, fp e.0 s t j.1),
      )
