-- All basic laws are sound.
use Rattle.std.proofs.Common.{◌≡◌, ℕ, suc, false, ◌&&◌, nat_le, length, ◌++◌, None, refl, sym, ap, ◌∙◌, subst, List, [], ◌∷◌}
use Rattle.rw_terms.specs.declared.scope.Head.{Head}
use Rattle.rw_terms.specs.State.{State as Map}
use Rattle.rw_terms.specs.Validity.{Each, Valid}
use Rattle.rw_programs.specs.declared.prog.Spec.{Spec}
use Rattle.rw_programs.specs.declared.prog.Pin.{Pin}
use Rattle.rw_programs.specs.declared.prog.Prog.{Prog}
use Rattle.rw_programs.specs.declared.prog.Prog.TheVariants as prog
use Rattle.rw_programs.specs.declared.prog.Prog.TheViews as made
use Rattle.rw_programs.specs.declared.applied.Context.{Context}
use Rattle.rw_programs.specs.declared.applied.Applied.{Applied}
use Rattle.rw_programs.specs.declared.applied.Child.{Child}
use Rattle.rw_programs.specs.Made.{Seq, Con}
use Rattle.rw_programs.specs.State.{Name}
use Rattle.rw_programs.specs.Tables.{Table}
use Rattle.rw_programs.proofs.Beside.{RefinesBeside}
use Rattle.rw_meaning.specs.Filling.{fill}
use Rattle.rw_laws.specs.declared.step.BasicStep.{BasicStep}
use Rattle.rw_laws.specs.declared.step.BasicStep.TheVariants as step
use Rattle.rw_derived.specs.Derived.{unchanged_post, initial_pre, assigned_post, followed_post, pinned, pins_for, pinned_pre, contracted_post, expanded_post}
use Rattle.rw_derived.specs.Causes.{new_cause, seq_cause, assign_cause, seqcon_cause, con_cause, contract_cause, expand_cause}
use Rattle.rw_subst.specs.Definedness.{definedness_of}
use Rattle.rw_faults.specs.Limits.{is_small}
use Rattle.rw_faults.specs.Initial.{is_twice}
use Rattle.rw_laws.specs.declared.premises.Premises.{Premises}
use Rattle.rw_laws.specs.Laws.{fits, applied, law_of, skip_law, weaken_law, strengthen_law, assign_law, follow_law, seq_law, seqcon_law, con_law, contract_law, expand_law, skip_premises, weaken_premises, strengthen_premises, assign_premises, follow_premises, seq_premises, seqcon_premises, con_premises, contract_premises, expand_premises, pin}
use Rattle.rw_soundness.specs.Sound.{IsReady, FitsWith, KidsMeetWhere, IsSoundWhere, LawsAreSound, LawsAreSoundBeside}
use Rattle.rw_soundness.proofs.InContexts.{OpenSame, in_context}
use Rattle.rw_soundness.proofs.Causes.{fitting, assign_tests, seq_tests, seqcon_tests, con_tests}
use Rattle.rw_soundness.proofs.Single.{skip_sound, weaken_sound, strengthen_sound}
use Rattle.rw_soundness.proofs.Assigning.{assign_sound, follow_sound}
use Rattle.rw_soundness.proofs.Sequences.{seq_sound}
use Rattle.rw_soundness.proofs.Frames.{contract_sound, expand_sound}
use Rattle.rw_soundness.proofs.Pinned.{con_sound, seqcon_sound}

-- what the code makes is what filling matches on
filled_seq : (kids : ℕ → Prog) (c d : Prog) → fill kids (made.Seq c d) ≡ Seq (fill kids c) (fill kids d)
unfolding Rattle.rw_programs.specs.declared.prog.Prog.TheBlock.hidden-the_row-Prog-0 denote.Hole.Carrier.hidden
filled_seq kids c d = refl

filled_con : (kids : ℕ → Prog) (pins : List Pin) (c : Prog) → fill kids (made.Con pins c) ≡ Con pins (fill kids c)
unfolding Rattle.rw_programs.specs.declared.prog.Prog.TheBlock.hidden-the_row-Prog-0 denote.Hole.Carrier.hidden
filled_con kids pins c = refl

-- d refines the specification at the states that fit the scope and have these parts
abbrev Refined : Context → Spec → Map → (Name → Map) → Table → (p k : ℕ) → Prog → Type 0
Refined context w fixed others E p k c = RefinesBeside fixed others context.scope E p k (prog.Spec w) c

module _ (fixed : Map) (others : Name → Map) (E : Table) (p k : ℕ) (kids : ℕ → Prog) where
  -- each kid's program, from a number on, refines the kid's specification there
  abbrev KidsRefined : ℕ → List Child → Type 0
  KidsRefined n [] = Unit {0}
  KidsRefined n (c ∷ more) = Refined c.context c.spec fixed others E p k (kids n) × KidsRefined (suc n) more

  kids_refined : (n : ℕ) (children : List Child) → KidsMeetWhere (FitsWith others) fixed E p k kids n children → KidsRefined n children
  kids_refined n [] meet = tt
  kids_refined n (c ∷ more) meet = (λ s fits. meet.0 s (fits.names, fits.parts), kids_refined (suc n) more meet.1)

module _ (context : Context) (w : Spec) where
  -- the kids' contexts open the same modules, and what is made of the specification is sound beside any parts
  abbrev IsTold : Applied → Type 0
  IsTold a = OpenSame context.opened a.children × ((others : Name → Map) → IsSoundWhere (FitsWith others) context w a)

  made_sound : (s : Prog) (q : Premises) (a : Applied) → a ≡ applied s q → OpenSame context.opened q.children
      → ((fixed : Map) (others : Name → Map) (E : Table) (p k : ℕ) (kids : ℕ → Prog) → Each (Valid E.library) q.obligations → KidsRefined fixed others E p k kids 1 q.children → Refined context w fixed others E p k (fill kids s)) → IsTold a
  made_sound s q a is same sound =
      subst IsTold (sym is) (same, λ others fixed E p k kids valid meet s fits. sound fixed others E p k kids valid (kids_refined fixed others E p k kids 1 q.children meet) s (record { names = fits.0; parts = fits.1 }))

laws_told : (context : Context) (heads : List Head) (w : Spec) (s : BasicStep) (a : Applied) → IsReady context.scope heads w → law_of context heads w s ≡ fits a → IsTold context w a
unfolding law_of skip_law weaken_law strengthen_law assign_law follow_law seq_law seqcon_law con_law contract_law expand_law
laws_told context heads w step.Skip a ready e =
    let g = fitting None (is_small (unchanged_post w)) false prog.Skip (skip_premises context w) a e in
    made_sound context w prog.Skip (skip_premises context w) a g.makes tt (λ fixed others E p k kids valid meet. skip_sound fixed others context.scope E p k w valid.0)
laws_told context heads w (step.Weaken f) a ready e =
    let g = fitting (new_cause context.scope heads [] f) (is_small f) false (prog.Kid 1) (weaken_premises context w f) a e in
    made_sound context w (prog.Kid 1) (weaken_premises context w f) a g.makes (refl, tt) (λ fixed others E p k kids valid meet. weaken_sound fixed others context.scope E p k w f (kids 1) valid.0 meet.0)
laws_told context heads w (step.Strengthen f) a ready e =
    let g = fitting (new_cause context.scope heads w.frame f) (is_small f && is_small (initial_pre w)) false (prog.Kid 1) (strengthen_premises context w f) a e in
    made_sound context w (prog.Kid 1) (strengthen_premises context w f) a g.makes (refl, tt)
    (λ fixed others E p k kids valid meet. strengthen_sound fixed others context.scope E p k heads w f (kids 1) ready valid.0 meet.0)
laws_told context heads w (step.Assign names terms) a ready e =
    let g = fitting (assign_cause context.scope w names terms) (is_small (definedness_of context.scope terms) && is_small (assigned_post w names terms)) (is_twice names) (prog.Assign names terms) (assign_premises context w names terms) a e in
    made_sound context w (prog.Assign names terms) (assign_premises context w names terms) a g.makes tt
    (λ fixed others E p k kids valid meet. assign_sound fixed others context.scope E p k heads w ready names terms (assign_tests context.scope w names terms g.no_cause) valid.0 valid.1.0)
laws_told context heads w (step.Follow names terms) a ready e =
    let g = fitting (assign_cause context.scope w names terms) (is_small (followed_post context.scope w names terms)) (is_twice names) (made.Seq (prog.Kid 1) (prog.Assign names terms)) (follow_premises context w names terms) a e in
    made_sound context w (made.Seq (prog.Kid 1) (prog.Assign names terms)) (follow_premises context w names terms) a g.makes (refl, tt)
    (λ fixed others E p k kids valid meet. subst (Refined context w fixed others E p k) (sym (filled_seq kids (prog.Kid 1) (prog.Assign names terms)))
    (follow_sound fixed others context.scope E p k heads w ready names terms (assign_tests context.scope w names terms g.no_cause) (kids 1) meet.0))
laws_told context heads w (step.Seq f) a ready e =
    let g = fitting (seq_cause context.scope heads w f) (is_small f) false (made.Seq (prog.Kid 1) (prog.Kid 2)) (seq_premises context w f) a e in
    let tests = seq_tests context.scope heads w f g.no_cause in
    made_sound context w (made.Seq (prog.Kid 1) (prog.Kid 2)) (seq_premises context w f) a g.makes (refl, (refl, tt))
    (λ fixed others E p k kids valid meet. subst (Refined context w fixed others E p k) (sym (filled_seq kids (prog.Kid 1) (prog.Kid 2)))
    (seq_sound fixed others context.scope E p k heads w f (kids 1) (kids 2) ready tests.0 tests.1 meet.0 meet.1.0))
laws_told context heads w (step.SeqCon names f) a ready e =
    let g = fitting (seqcon_cause context.scope heads w names f) (is_small f && (is_small (pinned w.frame names f) && is_small (pinned w.frame names w.post))) false (made.Con (pins_for w.frame names) (made.Seq (prog.Kid 1) (prog.Kid 2))) (seqcon_premises context w names f) a e in
    let pins = pins_for w.frame names in
    made_sound context w (made.Con pins (made.Seq (prog.Kid 1) (prog.Kid 2))) (seqcon_premises context w names f) a g.makes (refl, (refl, tt))
    (λ fixed others E p k kids valid meet. subst (Refined context w fixed others E p k) (sym (filled_con kids pins (made.Seq (prog.Kid 1) (prog.Kid 2)) ∙ ap (λ c. Con pins c) (filled_seq kids (prog.Kid 1) (prog.Kid 2))))
    (seqcon_sound context.scope heads w ready names f (seqcon_tests context.scope heads w names f g.no_cause) fixed others E p k (kids 1) (kids 2) meet.0 meet.1.0))
laws_told context heads w (step.Con x t) a ready e =
    let g = fitting (con_cause context.scope x t) (is_small (pinned_pre w x t)) false (made.Con (pin x t ∷ []) (prog.Kid 1)) (con_premises context w x t) a e in
    made_sound context w (made.Con (pin x t ∷ []) (prog.Kid 1)) (con_premises context w x t) a g.makes (refl, tt)
    (λ fixed others E p k kids valid meet. subst (Refined context w fixed others E p k) (sym (filled_con kids (pin x t ∷ []) (prog.Kid 1)))
    (con_sound context.scope heads w ready x t (con_tests context.scope x t g.no_cause) fixed others E p k (kids 1) meet.0))
laws_told context heads w (step.Contract names) a ready e =
    let g = fitting (contract_cause w names) (is_small (contracted_post w names)) (is_twice names) (prog.Kid 1) (contract_premises context w names) a e in
    made_sound context w (prog.Kid 1) (contract_premises context w names) a g.makes (refl, tt) (λ fixed others E p k kids valid meet. contract_sound fixed others context.scope E p k w names (kids 1) meet.0)
laws_told context heads w (step.Expand names) a ready e =
    let g = fitting (expand_cause context.scope w names) (is_small (expanded_post w names) && nat_le (length (w.frame ++ names)) 64) (is_twice names) (prog.Kid 1) (expand_premises context w names) a e in
    made_sound context w (prog.Kid 1) (expand_premises context w names) a g.makes (refl, tt) (λ fixed others E p k kids valid meet. expand_sound fixed others context.scope E p k w names (kids 1) meet.0)

pub laws_beside : LawsAreSoundBeside
laws_beside parts context heads w s a ready e = (laws_told context heads w s a ready e).1 parts

pub laws_are_sound : LawsAreSound
laws_are_sound context heads w s a ready e = let told = laws_told context heads w s a ready e in in_context context w a told.0 told.1
