-- The laws of assignments.
use Rattle.std.proofs.Common.{◌≡◌, ℕ, Bool, true, false, ◌||◌, is_some, nat_eq, length, List, [], ◌∷◌, map, find, Option, Some, None, refl, sym, ap, ◌∙◌, subst, true≢false}
use Rattle.std.specs.Prelude.{not, suc, bytes_eq, All}
use Rattle.std.proofs.lemmas.Bool.{eq-eqb, and_from, and_parts, false_from_ne_true, or_parts}
use Rattle.std.proofs.lemmas.List.Elements.{All-nil, All-cons}
use Rattle.rw_terms.specs.declared.scope.Entry.{Entry}
use Rattle.rw_terms.specs.declared.scope.Head.{Head}
use Rattle.rw_terms.specs.declared.term.Sort.{Sort}
use Rattle.rw_terms.specs.declared.term.Term.{Term}
use Rattle.rw_terms.specs.declared.term.Term.TheVariants as v
use Rattle.rw_terms.specs.declared.term.Term.TheOpen.{Term-F}
use Rattle.rw_terms.specs.declared.term.Term.TheFolds.{fold-roll-Term}
use Rattle.rw_terms.specs.declared.term.Formula.{Formula}
use Rattle.rw_terms.specs.declared.term.Formula.TheVariants as formula
use Rattle.rw_terms.specs.declared.term.Formula.TheOpen.{Formula-F}
use Rattle.rw_terms.specs.declared.term.Formula.TheFolds.{fold-roll-Formula}
use Rattle.rw_terms.specs.Scopes.{has_name}
use Rattle.rw_terms.specs.Sorts.{variable_sort}
use Rattle.rw_terms.specs.Formed.{may_equal}
use Rattle.rw_terms.specs.Rules.{may_equal_of, sort_step, sort_in, keeps_step, keeps_rules}
use Rattle.rw_terms.specs.State.{Fits as FitsMap, State as Map}
use Rattle.rw_terms.specs.Value.{value}
use Rattle.rw_terms.specs.Truth.{Definition, holds}
use Rattle.rw_terms.specs.Defined.{Defined}
use Rattle.rw_terms.specs.Validity.{Each, Valid}
use Rattle.rw_faults.specs.Faults.{leaf, checked_step, checked, ill_step, is_ill_sorted, unless_known, first_name, unknown_step, unknown_in_term, first_of_names, formula_unknown_step, unknown_in}
use Rattle.rw_faults.specs.declared.faults.Checked.{Checked}
use Rattle.rw_faults.specs.Initial.{is_listed, term_outside, terms_outside}
use Rattle.rw_faults.proofs.Apart.{faults_apart}
use Rattle.rw_subst.specs.Closed.{is_closed}
use Rattle.rw_subst.specs.Definedness.{conditions, conditions_of, definedness_of}
use Rattle.rw_subst.proofs.Defining.{conj_holds, conj_with_holds, each_append, term_claim}
use Rattle.rw_subst.proofs.WellSorted.{equal_parts}
use Rattle.rw_subst.specs.Stands.{stands_in}
use Rattle.rw_subst.specs.declared.slot.Form.TheVariants as form
use Rattle.rw_programs.specs.declared.prog.Spec.{Spec}
use Rattle.rw_programs.specs.declared.prog.Prog.{Prog, Assign}
use Rattle.rw_programs.specs.Made.{Seq}
use Rattle.rw_programs.specs.State.{Name, State, Holds, Within, is_in, put_all}
use Rattle.rw_programs.specs.Tables.{Table}
use Rattle.rw_programs.specs.Meaning.{AllDefined, values}
use Rattle.rw_programs.specs.Scoped.{each_set, are_set}
use Rattle.rw_programs.specs.Laws.{AssignFits, assigned}
use Rattle.rw_programs.proofs.Beside.{FitsBeside}
use Rattle.rw_programs.proofs.Frames.{within_fits, put_all_off}
use Rattle.rw_programs.proofs.Skipping.{stable}
use Rattle.rw_programs.proofs.Rules as rules
use Rattle.rw_meaning.proofs.Entering.{assigned_fits}
use Rattle.rw_meaning.proofs.Tests.{same_bytes}
use Rattle.rw_derived.specs.Causes.{each_is, is_assignable, is_kind, is_module_kind, is_ill_set, any_ill_set}
use Rattle.rw_subst.specs.Replaced.{replaced_formula}
use Rattle.rw_derived.specs.Derived.{set_to, assigned_post, followed_post}
use Rattle.rw_laws.specs.Laws.{sequent_over}
use Rattle.rw_soundness.specs.Sound.{IsReady}
use Rattle.rw_soundness.proofs.Bits.{listed_in, either}
use Rattle.rw_soundness.proofs.Causes.{Assigning}
use Rattle.rw_soundness.proofs.Ready.{constants_off, within_by_fits, fits_both}
use Rattle.rw_soundness.proofs.Shapes.{assigned_holds, followed_holds}
use Rattle.rw_soundness.proofs.Single.{follows_of, Better}
use Rattle.rw_soundness.proofs.Sorted.{sorted_closed, same_value, defined_moves}

known_here : (x : Name) (o : Option Sort) → is_some o ≡ true → unless_known x o ≡ None
known_here x None e = absurd (true≢false (sym e))
known_here x (Some s) e = refl

module _ (scope : List Entry) where
  -- an equation that has no unknown name and no ill-sorted part takes two terms of one sort
  pub equal_sorts : (a b : Term) → unknown_in_term scope a ≡ None → unknown_in_term scope b ≡ None
      → (not (may_equal (checked scope [] a).sort (checked scope [] b).sort) || ((checked scope [] a).bad || (checked scope [] b).bad)) ≡ false → may_equal_of (sort_in scope [] a) (sort_in scope [] b) ≡ true
  equal_sorts a b known_a known_b good =
      let rolls = formula.rolls-Eq a b in
      let unknown : unknown_in scope [] (formula.Eq a b) ≡ None =
      ap (unknown_in scope []) (sym rolls) ∙ (fold-roll-Formula (Option Name) (formula_unknown_step scope []) (Formula-F.Eq a b) ∙ ((λ i. first_name (known_a i) (unknown_in_term scope b)) ∙ known_b)) in
      let ill : is_ill_sorted scope [] (formula.Eq a b) [] ≡ false =
      ap (λ f. is_ill_sorted scope [] f []) (sym rolls) ∙ ((λ i. fold-roll-Formula (List Sort → Bool) (ill_step scope []) (Formula-F.Eq a b) i []) ∙ good) in
      let kept = (faults_apart scope [] (formula.Eq a b) []).1 (unknown, ill) in
      sym (ap (λ f. keeps_rules scope [] f []) (sym rolls) ∙ (λ i. fold-roll-Formula (List Sort → Bool) (keeps_step scope []) (Formula-F.Eq a b) i [])) ∙ kept

  var_unknown : (x : Name) → unknown_in_term scope (v.Var x) ≡ unless_known x (variable_sort scope x)
  var_unknown x = ap (unknown_in_term scope) (sym (v.rolls-Var x)) ∙ fold-roll-Term (Option Name) (unknown_step scope) (Term-F.Var x)

  var_checked : (x : Name) → checked scope [] (v.Var x) ≡ leaf (variable_sort scope x) false
  var_checked x = ap (checked scope []) (sym (v.rolls-Var x)) ∙ fold-roll-Term Checked (checked_step scope []) (Term-F.Var x)

  pub var_sort : (x : Name) → sort_in scope [] (v.Var x) ≡ variable_sort scope x
  var_sort x = ap (sort_in scope []) (sym (v.rolls-Var x)) ∙ fold-roll-Term (Option Sort) (sort_step scope []) (Term-F.Var x)

  -- a variable that is set well has the sort of its term
  set_sort : (x : Name) (t : Term) → is_some (variable_sort scope x) ≡ true → unknown_in_term scope t ≡ None → is_ill_set scope x t ≡ false → may_equal_of (variable_sort scope x) (sort_in scope [] t) ≡ true
  set_sort x t there known good =
      ap (λ o. may_equal_of o (sort_in scope [] t)) (sym (var_sort x))
      ∙ equal_sorts (v.Var x) t (var_unknown x ∙ known_here x (variable_sort scope x) there) known
      (ap (λ c. not (may_equal c.sort (checked scope [] t).sort) || (c.bad || (checked scope [] t).bad)) (var_checked x) ∙ good)

  left_known : (x y : Option Name) → first_name x y ≡ None → x ≡ None
  left_known None y e = refl
  left_known (Some n) y e = absurd (cc)

  right_known : (x y : Option Name) → first_name x y ≡ None → y ≡ None
  right_known None y e = e
  right_known (Some n) y e = absurd (cc)

  module _ (frame : List Name) (variables : (x : Name) → is_in x frame ≡ true → is_some (variable_sort scope x) ≡ true) where
    pub sets : (names : List Name) (terms : List Term) → each_is (is_assignable scope frame) names ≡ true → any_ill_set scope names terms ≡ false
        → first_of_names (map (unknown_in_term scope) terms) ≡ None → each_set scope names terms ≡ true
    sets [] terms in_frame good known = refl
    sets (x ∷ names) [] in_frame good known = refl
    sets (x ∷ names) (t ∷ terms) in_frame good known =
        let here = (and_parts (is_assignable scope frame x) (each_is (is_assignable scope frame) names) in_frame).0 in
        let listed = (and_parts (is_listed frame x) (not (is_kind is_module_kind scope x)) here).0 in
        and_from _ _
        (set_sort x t (variables x (sym (listed_in frame x) ∙ listed)) (left_known _ _ known) (or_parts (is_ill_set scope x t) (any_ill_set scope names terms) good).0)
        (sets names terms (and_parts (is_assignable scope frame x) (each_is (is_assignable scope frame) names) in_frame).1 (or_parts (is_ill_set scope x t) (any_ill_set scope names terms) good).1 (right_known _ _ known))

  -- each term has a sort
  pub have_sorts : (names : List Name) (terms : List Term) → length names ≡ length terms → each_set scope names terms ≡ true → Each (λ t. (s : Sort) × (sort_in scope [] t ≡ Some s)) terms
  have_sorts [] [] long e = tt
  have_sorts [] (t ∷ terms) long e = absurd (cc)
  have_sorts (x ∷ names) [] long e = tt
  have_sorts (x ∷ names) (t ∷ terms) long e = (
    (equal_parts (variable_sort scope x) (sort_in scope [] t) (and_parts (may_equal_of (variable_sort scope x) (sort_in scope [] t)) (each_set scope names terms) e).0).1,
    have_sorts names terms (shorter (length names) (length terms) long) (and_parts (may_equal_of (variable_sort scope x) (sort_in scope [] t)) (each_set scope names terms) e).1,
  )
    where
      shorter : (a b : ℕ) → suc a ≡ suc b → a ≡ b
      shorter a b q = cc

pub each_all : {X : Type 0} (P : X → Type 0) (xs : List X) → Each P xs → All P xs
each_all P [] h = All-nil P
each_all P (x ∷ xs) h = All-cons P x xs h.0 (each_all P xs h.1)

pub each_map : {X : Type 0} (P Q : X → Type 0) → ((x : X) → P x → Q x) → (xs : List X) → Each P xs → Each Q xs
each_map P Q f [] h = tt
each_map P Q f (x ∷ xs) h = (f x h.0, each_map P Q f xs h.1)

module _ (scope : List Entry) (library : List Definition) (s0 s : Map) (fits0 : FitsMap scope s0) (fits : FitsMap scope s) where
  -- what the joined conditions of terms say
  all_defined : (terms : List Term) → Each (λ t. (sort : Sort) × (sort_in scope [] t ≡ Some sort)) terms → Each (λ f. holds library f s0 s []) (conditions_of scope terms) → Each (Defined s0 s) terms
  all_defined [] sorts h = tt
  all_defined (t ∷ terms) sorts h =
      let split = (each_append (λ f. holds library f s0 s []) (conditions scope t) (conditions_of scope terms)).0 h in
      ((term_claim scope library s0 s fits0 fits t sorts.0.0 sorts.0.1).0 split.0, all_defined terms sorts.1 split.1)

  pub defined_by : (terms : List Term) → Each (λ t. (sort : Sort) × (sort_in scope [] t ≡ Some sort)) terms → holds library (definedness_of scope terms) s0 s [] → Each (Defined s0 s) terms
  defined_by terms sorts h = all_defined terms sorts ((conj_holds scope library s0 s fits0 fits (conditions_of scope terms)).0 h)

  pub both_hold : (f g : Formula) → holds library (formula.And f g) s0 s [] → holds library f s0 s [] × holds library g s0 s []
  both_hold f g h = let r = (conj_with_holds scope library s0 s fits0 fits f (g ∷ [])).0 h in (r.0, r.1.0)

-- each of the terms is without initial variables
each_outside : (terms : List Term) → terms_outside [] terms ≡ false → Each (λ t. term_outside [] t ≡ false) terms
each_outside [] e = tt
each_outside (t ∷ terms) e = ((or_parts (term_outside [] t) (terms_outside [] terms) e).0, each_outside terms (or_parts (term_outside [] t) (terms_outside [] terms) e).1)

-- a name off the frame is not among names of the frame
off_names : (scope : List Entry) (frame names : List Name) → each_is (is_assignable scope frame) names ≡ true → (x : Name) → is_in x frame ≡ false → is_in x names ≡ false
off_names scope frame [] in_frame x off = refl
off_names scope frame (y ∷ names) in_frame x off = false_from_ne_true (is_in x (y ∷ names)) (either ⊥ (bytes_eq x y) (is_in x names) first (λ i. true≢false (sym i ∙ off_names scope frame names (and_parts _ _ in_frame).1 x off)))
  where
    first : bytes_eq x y ≡ true → ⊥
    first i =
        let listed = (and_parts (is_listed frame y) (not (is_kind is_module_kind scope y)) (and_parts (is_assignable scope frame y) (each_is (is_assignable scope frame) names) in_frame).0).0 in
        true≢false (sym (sym (listed_in frame y) ∙ listed) ∙ (ap (λ z. is_in z frame) (sym (same_bytes x y i)) ∙ off))

module _ (fixed : Map) (others : Name → Map) (scope : List Entry) (E : Table) (p k : ℕ) (heads : List Head) (w : Spec) (ready : IsReady scope heads w) (names : List Name) (terms : List Term) (tests : Assigning scope w names terms) where
  set_well : each_set scope names terms ≡ true
  set_well = sets scope w.frame ready.variables names terms tests.in_frame tests.sorted tests.known

  well_set : are_set scope names terms ≡ true
  well_set = and_from _ _ (subst (λ n. nat_eq (length names) n ≡ true) tests.long (eq-eqb _ _ refl)) set_well

  sorts : Each (λ t. (s : Sort) × (sort_in scope [] t ≡ Some s)) terms
  sorts = have_sorts scope names terms tests.long set_well

  closed : Each (λ t. is_closed t ≡ true) terms
  closed = each_map (λ t. (s : Sort) × (sort_in scope [] t ≡ Some s)) (λ t. is_closed t ≡ true) (λ t h. sorted_closed scope t h.0 h.1) terms sorts

  outside : Each (λ t. term_outside [] t ≡ false) terms
  outside = each_outside terms tests.no_initial

  off : (x : Name) → is_in x w.frame ≡ false → is_in x names ≡ false
  off = off_names scope w.frame names tests.in_frame

  -- a constant of the postcondition is not set
  constants : (s : State) (x : Name) → stands_in form.Constant x w.post ≡ true → put_all names (values terms s) s.own x ≡ s.own x
  constants s x h = put_all_off names (values terms s) s.own x (off x (constants_off scope heads w.post ready.post.1 w.frame ready.variables x h))

  after_names : (s : State) → FitsMap scope s.own → FitsMap scope (assigned names terms s).own
  after_names s fits = assigned_fits scope s fits names terms well_set

  after_fits : (s : State) → FitsBeside others scope s → FitsBeside others scope (assigned names terms s)
  after_fits s fits = record { names = after_names s fits.names; parts = fits.parts }

  pub assign_sound : Valid E.library (sequent_over scope (w.pre ∷ []) (definedness_of scope terms ∷ [])) → Valid E.library (sequent_over scope (w.pre ∷ []) (assigned_post w names terms ∷ []))
      → Better fixed others scope E p k w.frame w.pre w.post (Assign names terms)
  assign_sound defined after = rules.assign_law fixed others scope E p k w.frame w.pre w.post names terms fit
    where
      fit : AssignFits scope E.library w.frame w.pre w.post names terms
      fit = record {
        in_frame = off;
        sorts = λ s fits x i. fits_both (find (has_name x) scope) (s.own x) ((assigned names terms s).own x) (fits.names x) (after_names s fits.names x);
        defined = λ s fits h. each_all (Defined s.own s.own) terms
            (defined_by scope E.library s.own s.own fits.names fits.names terms sorts (stable E.library (definedness_of scope terms) s s (follows_of scope E w.pre (definedness_of scope terms) defined s fits.names h)));
        after = λ s fits h deny. follows_of scope E w.pre (assigned_post w names terms) after s fits.names h
            (λ held. deny ((assigned_holds E.library w.post names terms tests.long closed w.frame s (constants s)).0 held));
      }

  pub follow_sound : (c : Prog) → Better fixed others scope E p k w.frame w.pre (followed_post scope w names terms) c → Better fixed others scope E p k w.frame w.pre w.post (Seq c (Assign names terms))
  follow_sound c kid s fits has pre =
      let first = kid s fits has pre in (
        (first.0, λ m e. let i = first.1 m e in (at_end m (within_fits scope w.frame s m fits i.0) i.1).0),
        λ t e. let i = first.1 e.0 e.1 in
            let fits' = within_fits scope w.frame s e.0 fits i.0 in
            subst (λ t. Within w.frame s t × Holds E.library w.post s t) (sym e.2) (
              within_by_fits scope w.frame s (assigned names terms e.0) fits (after_fits e.0 fits') (λ x o. put_all_off names (values terms e.0) e.0.own x (off x o) ∙ i.0.off x o),
              (at_end e.0 fits' i.1).1,
            ),
      )
    where
      at_end : (m : State) → FitsBeside others scope m → Holds E.library (followed_post scope w names terms) s m → AllDefined terms m × Holds E.library w.post s (assigned names terms m)
      at_end m fits' h =
          let two = both_hold scope E.library s.own m.own fits.names fits'.names (replaced_formula (set_to names terms) w.post) (definedness_of scope terms) h in
          let here = defined_by scope E.library s.own m.own fits.names fits'.names terms sorts two.1 in (
            each_all (Defined m.own m.own) terms (each_both terms outside here),
            (followed_holds E.library w.post names terms tests.long closed s.own m (each_map (λ t. term_outside [] t ≡ false) (λ t. value s.own m.own [] t ≡ value m.own m.own [] t) (λ t o. same_value t o s.own m.own m.own) terms outside) (constants m)).0 two.0,
          )
        where
          each_both : (ts : List Term) → Each (λ t. term_outside [] t ≡ false) ts → Each (Defined s.own m.own) ts → Each (Defined m.own m.own) ts
          each_both [] o d = tt
          each_both (t ∷ ts) o d = (defined_moves s.own m.own m.own t o.0 d.0, each_both ts o.1 d.1)
