-- The law of loops is sound, and their turns are bounded by the variant.
use Rattle.std.proofs.Common.{◌≡◌, ℕ, zero, suc, ◌≤◌, ◌+◌, Bool, true, false, ◌&&◌, ◌||◌, not, is_some, if◌then◌else◌, ◌⊎◌, inl, inr, ⊎_elim, List, [], ◌∷◌, map, Some, None, refl, sym, ap, ◌∙◌, subst, arith, ℤ, pos, negsuc, ◌+ℤ◌, ◌≤ℤ◌, ◌<ℤ◌, zero-le, reverse, max}
use Rattle.std.proofs.lemmas.Bool.{and_parts, or_parts}
use Rattle.std.proofs.lemmas.Int.{ints}
use Rattle.rw_terms.specs.declared.scope.Entry.{Entry}
use Rattle.rw_terms.specs.declared.scope.Head.{Head}
use Rattle.rw_terms.specs.declared.term.Term.{Term}
use Rattle.rw_terms.specs.declared.term.Term.TheVariants as v
use Rattle.rw_terms.specs.declared.term.Term.TheOpen.{Term-F}
use Rattle.rw_terms.specs.declared.term.Term.TheFolds.{fold-roll-Term}
use Rattle.rw_terms.specs.declared.term.Sort.{Sort}
use Rattle.rw_terms.specs.declared.term.Sort.TheVariants.{Int}
use Rattle.rw_terms.specs.declared.term.Formula.{Formula}
use Rattle.rw_terms.specs.declared.term.Formula.TheVariants as formula
use Rattle.rw_terms.specs.declared.term.Formula.TheOpen.{Formula-F}
use Rattle.rw_terms.specs.declared.term.Formula.TheFolds.{fold-roll-Formula}
use Rattle.rw_terms.specs.Size.{weight_step, formula_weight, depth_step, formula_depth}
use Rattle.rw_terms.specs.State.{State as Map, Fits as FitsMap, value_in, whole}
use Rattle.rw_terms.specs.Value.{value_step, value}
use Rattle.rw_terms.specs.Defined.{GuardDefined}
use Rattle.rw_terms.specs.WellFormed.{IsSmallFormula}
use Rattle.rw_terms.specs.Rules.{of_ints, sort_in, keeps_step, keeps_rules}
use Rattle.rw_terms.specs.Truth.{Definition, predicates_of}
use Rattle.rw_terms.proofs.Truths.{to_layer, from_layer}
use Rattle.rw_subst.proofs.DefiningGuards.{definedness_of_guards}
use Rattle.rw_subst.proofs.WellSorted.{compared_parts}
use Rattle.rw_subst.specs.Replaced.{replaced_term, to_initial}
use Rattle.rw_terms.specs.Same.{same_formula}
use Rattle.rw_terms.proofs.Decides.{formula_told}
use Rattle.rw_faults.specs.Initial.{term_outside, formula_outside_step, initial_outside}
use Rattle.rw_programs.specs.CodeTest.{guard_step, is_guard}
use Rattle.rw_programs.specs.declared.prog.Prog.{Prog}
use Rattle.rw_programs.specs.declared.prog.Spec.{Spec}
use Rattle.rw_programs.specs.declared.applied.Context.{Context}
use Rattle.rw_programs.specs.declared.applied.Misfit.TheVariants as cause
use Rattle.rw_programs.specs.State.{Name, State, Holds, Within}
use Rattle.rw_programs.specs.Tables.{Table}
use Rattle.rw_programs.specs.Meaning.{bodies, bodies_before, sure_by, ends_by, Chain, at_least_0, IsBound}
use Rattle.rw_programs.specs.Refine.{HasValues}
use Rattle.rw_programs.proofs.Frames.{within_fits, within_refl, within_trans}
use Rattle.rw_programs.proofs.Rules.{within_values}
use Rattle.rw_programs.proofs.Beside.{FitsBeside}
use Rattle.rw_subst.specs.Conj.{disj}
use Rattle.rw_loops.specs.Guards.{guards_definedness}
use Rattle.rw_loops.specs.Code.{code_misfit}
use Rattle.rw_loops.specs.Laws.{not_below_0, is_less, turn, loop_post, loop_code, do_kid, do_made, do_misfit}
use Rattle.rw_soundness.specs.Sound.{FitsWith, KidsMeetWhere, IsSoundWhere}
use Rattle.rw_loops.proofs.GuardLemmas.{Denies, definedness_of_disj, each_defined, some_holds, both_hold}
use Rattle.rw_loops.proofs.Plain.{guard_of_code}
use Rattle.rw_loops.proofs.Placed.{IsPlaced, owed_holds, IsCode, is_code}
use Rattle.rw_loops.proofs.Rows.{EachArm, Turn, turn_ends, do_sure, do_ends}
use Rattle.rw_loops.proofs.Standing.{initial_free}
use Rattle.rw_loops.proofs.Variant.{value_free, value_before}

-- the tests of a conjunction are those of its parts
and_outside : (names : List Name) (f g : Formula) → initial_outside names (formula.And f g) ≡ (initial_outside names f || initial_outside names g)
and_outside names f g = ap (initial_outside names) (sym (formula.rolls-And f g)) ∙ fold-roll-Formula Bool (formula_outside_step names) (Formula-F.And f g)

at_most_outside : (names : List Name) (t u : Term) → initial_outside names (formula.AtMost t u) ≡ (term_outside names t || term_outside names u)
at_most_outside names t u = ap (initial_outside names) (sym (formula.rolls-AtMost t u)) ∙ fold-roll-Formula Bool (formula_outside_step names) (Formula-F.AtMost t u)

and_guard : (f g : Formula) → is_guard (formula.And f g) ≡ (is_guard f && is_guard g)
and_guard f g = ap is_guard (sym (formula.rolls-And f g)) ∙ fold-roll-Formula Bool guard_step (Formula-F.And f g)

and_keeps : (scope : List Entry) (heads : List Head) (f g : Formula) → keeps_rules scope heads (formula.And f g) [] ≡ (keeps_rules scope heads f [] && keeps_rules scope heads g [])
and_keeps scope heads f g = ap (λ h. keeps_rules scope heads h []) (sym (formula.rolls-And f g)) ∙ (λ i. fold-roll-Formula (List Sort → Bool) (keeps_step scope heads) (Formula-F.And f g) i [])

at_most_keeps : (scope : List Entry) (heads : List Head) (t u : Term) → keeps_rules scope heads (formula.AtMost t u) [] ≡ is_some (of_ints (sort_in scope [] t) (sort_in scope [] u))
at_most_keeps scope heads t u = ap (λ h. keeps_rules scope heads h []) (sym (formula.rolls-AtMost t u)) ∙ (λ i. fold-roll-Formula (List Sort → Bool) (keeps_step scope heads) (Formula-F.AtMost t u) i [])

and_weight : (f g : Formula) → formula_weight (formula.And f g) ≡ formula_weight f + formula_weight g + 1
and_weight f g = ap formula_weight (sym (formula.rolls-And f g)) ∙ fold-roll-Formula _ weight_step (Formula-F.And f g)

and_depth : (f g : Formula) → formula_depth (formula.And f g) ≡ max (formula_depth f) (formula_depth g) + 1
and_depth f g = ap formula_depth (sym (formula.rolls-And f g)) ∙ fold-roll-Formula _ depth_step (Formula-F.And f g)

not_weight : (f : Formula) → formula_weight (formula.Not f) ≡ formula_weight f + 1
not_weight f = ap formula_weight (sym (formula.rolls-Not f)) ∙ fold-roll-Formula _ weight_step (Formula-F.Not f)

not_depth : (f : Formula) → formula_depth (formula.Not f) ≡ formula_depth f + 1
not_depth f = ap formula_depth (sym (formula.rolls-Not f)) ∙ fold-roll-Formula _ depth_step (Formula-F.Not f)

-- the disjunction in the postcondition of a loop is within the limits where that is
inner_small : (f g : Formula) → IsSmallFormula (formula.And f (formula.Not g)) → IsSmallFormula g
inner_small f g h = (
  omega (arith, h.0, and_weight f (formula.Not g), not_weight g),
  omega (arith, h.1, and_depth f (formula.Not g), not_depth g),
)

module _ (library : List Definition) (s0 s : State) where
  and_holds : (f g : Formula) → Holds library (formula.And f g) s0 s → Holds library f s0 s × Holds library g s0 s
  and_holds f g h = to_layer (predicates_of (reverse library)) _ _ _ (Formula-F.And f g) [] (subst (λ z. Holds library z s0 s) (sym (formula.rolls-And f g)) h)

  not_holds : (f : Formula) → ¬ (Holds library f s0 s) → Holds library (formula.Not f) s0 s
  not_holds f n = subst (λ z. Holds library z s0 s) (formula.rolls-Not f) (from_layer (predicates_of (reverse library)) _ _ _ (Formula-F.Not f) [] n)

  less_holds : (t u : Term) → Holds library (formula.Less t u) s0 s → whole (value s0.own s.own [] t) <ℤ whole (value s0.own s.own [] u)
  less_holds t u h = to_layer (predicates_of (reverse library)) _ _ _ (Formula-F.Less t u) [] (subst (λ z. Holds library z s0 s) (sym (formula.rolls-Less t u)) h)

  at_most_holds : (t u : Term) → Holds library (formula.AtMost t u) s0 s → whole (value s0.own s.own [] t) ≤ℤ whole (value s0.own s.own [] u)
  at_most_holds t u h = to_layer (predicates_of (reverse library)) _ _ _ (Formula-F.AtMost t u) [] (subst (λ z. Holds library z s0 s) (sym (formula.rolls-AtMost t u)) h)

  zero_value : whole (value s0.own s.own [] (v.Lit (pos 0))) ≡ pos 0
  zero_value =
      ap whole (ap (value s0.own s.own []) (sym (v.rolls-Lit (pos 0))) ∙ fold-roll-Term _ (value_step (value_in s.own) (value_in s0.own) (value_in s.own) []) (Term-F.Lit (pos 0)))

-- what fits a loop has its postcondition, and passes the tests of code
loop_fits : (scope : List Entry) (heads : List Head) (w : Spec) (x : Term) (guards : List Formula) → do_misfit scope heads w x guards ≡ None
    → (w.post ≡ loop_post w guards) × IsCode scope heads (loop_code x guards)
loop_fits scope heads w x guards e = go (same_formula w.post (loop_post w guards)) refl e
  where
    go : (b : Bool) → same_formula w.post (loop_post w guards) ≡ b → (if not b then Some cause.Shape else code_misfit scope heads (loop_code x guards)) ≡ None
        → (w.post ≡ loop_post w guards) × IsCode scope heads (loop_code x guards)
    go false i e = absurd (cc)
    go true i e = (formula_told w.post (loop_post w guards) i, is_code scope heads (loop_code x guards) e)

module _ (context : Context) (heads : List Head) (w : Spec) (x : Term) (guards : List Formula) (placed : IsPlaced context.scope heads w) (no_misfit : do_misfit context.scope heads w x guards ≡ None) where
  abbrev scope : List Entry
  scope = context.scope

  shape : w.post ≡ loop_post w guards
  shape = (loop_fits scope heads w x guards no_misfit).0

  code : IsCode scope heads (loop_code x guards)
  code = (loop_fits scope heads w x guards no_misfit).1

  free_parts : (initial_outside [] (not_below_0 x) || initial_outside [] (disj guards)) ≡ false
  free_parts = sym (and_outside [] (not_below_0 x) (disj guards)) ∙ code.initial_free

  guards_free : initial_outside [] (disj guards) ≡ false
  guards_free = (or_parts (initial_outside [] (not_below_0 x)) _ free_parts).1

  variant_free : term_outside [] x ≡ false
  variant_free = (or_parts (term_outside [] (v.Lit (pos 0))) _ (sym (at_most_outside [] (v.Lit (pos 0)) x) ∙ (or_parts _ (initial_outside [] (disj guards)) free_parts).0)).1

  keeps_parts : (keeps_rules scope heads (not_below_0 x) [] && keeps_rules scope heads (disj guards) []) ≡ true
  keeps_parts = sym (and_keeps scope heads (not_below_0 x) (disj guards)) ∙ code.keeps

  variant_sort : sort_in scope [] x ≡ Some Int
  variant_sort = (compared_parts _ _ (sym (at_most_keeps scope heads (v.Lit (pos 0)) x) ∙ (and_parts _ _ keeps_parts).0)).1

  module _ (others : Name → Map) (fixed : Map) (E : Table) (p k : ℕ) (ks : ℕ → Prog) (kids : KidsMeetWhere (FitsWith others) fixed E p k ks 1 (map (do_kid context w x) guards)) where
    abbrev number : State → ℤ
    number s = whole (value s.own s.own [] x)

    abbrev Arms : (Formula → Prog → Type 0) → ℕ → List Formula → Type 0
    Arms = EachArm E (bodies E p k) (bodies_before E p) ks

    abbrev Step : State → State → Type 0
    Step = Turn E (bodies E p k) (bodies_before E p) ks guards

    sure_arms : (s : State) → FitsBeside others scope s → HasValues scope fixed s → Holds E.library w.pre s s → (gs : List Formula) (n : ℕ) → KidsMeetWhere (FitsWith others) fixed E p k ks n (map (do_kid context w x) gs)
        → Arms (λ g c. Holds E.library g s s → sure_by E (bodies E p k) (bodies_before E p) c s) n gs
    sure_arms s fits has h [] n r = tt
    sure_arms s fits has h (g ∷ gs) n r = ((λ hg. (r.0 s (fits.names, fits.parts) has (both_hold E.library s s w.pre g h hg)).0), sure_arms s fits has h gs (suc n) r.1)

    end_arms : (s t : State) → FitsBeside others scope s → HasValues scope fixed s → Holds E.library w.pre s s → (gs : List Formula) (n : ℕ) → KidsMeetWhere (FitsWith others) fixed E p k ks n (map (do_kid context w x) gs)
        → Arms (λ g c. Holds E.library g s s → ends_by E (bodies E p k) (bodies_before E p) c s t → Within w.frame s t × Holds E.library (turn w x) s t) n gs
    end_arms s t fits has h [] n r = tt
    end_arms s t fits has h (g ∷ gs) n r = ((λ hg e. (r.0 s (fits.names, fits.parts) has (both_hold E.library s s w.pre g h hg)).1 t e), end_arms s t fits has h gs (suc n) r.1)

    -- one turn
    one_turn : (s t : State) → FitsBeside others scope s → HasValues scope fixed s → Holds E.library w.pre s s → Step s t
        → Within w.frame s t × Holds E.library w.pre t t × (pos 0 ≤ℤ number t) × (number t <ℤ number s)
    one_turn s t fits has h e =
        let i = turn_ends E (bodies E p k) (bodies_before E p) ks (Within w.frame s t × Holds E.library (turn w x) s t) guards s t (end_arms s t fits has h guards 1 kids) e in
        let parts = and_holds E.library s t (formula.And w.pre (not_below_0 x)) (is_less w.frame x) i.1 in
        let kept = and_holds E.library s t w.pre (not_below_0 x) parts.0 in
        let now = ap whole (value_free x variant_free s.own t.own t.own) in
        let before = ap whole (value_before scope w.frame x placed.variables variant_sort s t i.0) in
        let up : pos 0 ≤ℤ number t = subst (λ z. z ≤ℤ number t) (zero_value E.library s t) (subst (λ z. whole (value s.own t.own [] (v.Lit (pos 0))) ≤ℤ z) now (at_most_holds E.library s t (v.Lit (pos 0)) x kept.1)) in
        let less : number t <ℤ number s =
        subst (λ z. z <ℤ number s) now (subst (λ z. whole (value s.own t.own [] x) <ℤ z) before (less_holds E.library s t x (replaced_term (map to_initial w.frame) x) parts.1)) in
        (i.0, initial_free E.library w.pre placed.pre_initial s t t kept.0, up, less)

    -- after n turns the variant has fallen by n, and is not below 0 where there was a turn
    abbrev After : ℕ → State → State → Type 0
    After n s t = Within w.frame s t × Holds E.library w.pre t t × ((number t +ℤ pos n) ≤ℤ number s) × ((n ≡ 0) ⊎ (pos 0 ≤ℤ number t))

    after : (s : State) → FitsBeside others scope s → HasValues scope fixed s → Holds E.library w.pre s s → (n : ℕ) (t : State) → Chain Step n s t → After n s t
    after s fits has h zero t e = subst (After 0 s) e (within_refl scope w.frame s fits.names, h, omega (arith, ints), inl refl)
    after s fits has h (suc n) t e =
        let i = after s fits has h n e.0 e.1 in
        let j = one_turn e.0 t (within_fits scope w.frame s e.0 fits i.0) (within_values scope fixed w.frame s e.0 placed.keeps_values has i.0) i.1 e.2 in
        let less : (number t +ℤ pos (suc n)) ≤ℤ number s = omega (arith, ints, i.2, j.3) in
        (within_trans w.frame s e.0 t i.0 j.0, j.1, less, inr j.2)

    below : (z u : ℤ) (n : ℕ) → (z +ℤ pos n) ≤ℤ u → pos 0 ≤ℤ z → n ≤ at_least_0 u
    below z (pos m) n h l = omega (arith, ints)
    below z (negsuc m) n h l = omega (arith, ints)

    pub turns_bound : (s t : State) (n : ℕ) → FitsBeside others scope s → HasValues scope fixed s → Holds E.library w.pre s s → Chain Step n s t → n ≤ at_least_0 (number s)
    turns_bound s t n fits has h e =
        let i = after s fits has h n t e in
        ⊎_elim (λ z. subst (λ n. n ≤ at_least_0 (number s)) (sym z) zero-le) (λ up. below (number t) (number s) n i.2 up) i.3

  pub do_sound : (others : Name → Map) → IsSoundWhere (FitsWith others) context w (do_made context w x guards)
  do_sound others fixed E p k ks valid kids s at has h = (
    do_sure E (bodies E p k) (bodies_before E p) ks x guards s (at_least_0 (number others fixed E p k ks kids s)) (λ n t e. turns_bound others fixed E p k ks kids s t n fits has h e) (variant_bounds E.by_variant)
        (λ n t e. let i = after others fixed E p k ks kids s fits has h n t e in
        let f = within_fits scope w.frame s t fits i.0 in
        (each_defined t.own t.own guards (defined t f.names i.1), sure_arms others fixed E p k ks kids t f (within_values scope fixed w.frame s t placed.keeps_values has i.0) i.1 guards 1 kids)),
    λ t e. let r = do_ends E (bodies E p k) (bodies_before E p) ks x guards s t e in
        let i = after others fixed E p k ks kids s fits has h r.0.0 t r.0.1 in
        let none : Denies E.library s t (disj guards) = λ d. some_holds E.library t t guards (initial_free E.library (disj guards) guards_free s t t d) r.1 in
        (i.0, subst (λ f. Holds E.library f s t) (sym shape) (both_hold E.library s t w.pre (formula.Not (disj guards)) (initial_free E.library w.pre placed.pre_initial t s t i.1) (not_holds E.library s t (disj guards) none))),
  )
    where
      fits : FitsBeside others scope s
      fits = record { names = at.0; parts = at.1 }

      variant_bounds : (b : Bool) → IsBound b x s (at_least_0 (number others fixed E p k ks kids s))
      variant_bounds true = refl
      variant_bounds false = tt

      defined : (t : State) → FitsMap scope t.own → Holds E.library w.pre t t → GuardDefined t.own t.own (disj guards)
      defined t f inv =
          (definedness_of_guards scope heads (disj guards) (inner_small w.pre (disj guards) (subst IsSmallFormula shape placed.post.0), (and_parts (keeps_rules scope heads (not_below_0 x) []) (keeps_rules scope heads (disj guards) []) keeps_parts).1)
          (guard_of_code (disj guards) (and_parts (is_guard (not_below_0 x)) (is_guard (disj guards)) (sym (and_guard (not_below_0 x) (disj guards)) ∙ code.guard)).1) E.library t.own t.own f f).0
          (subst (λ f. Holds E.library f t t) (sym (definedness_of_disj scope guards)) (owed_holds E.library scope w.pre (guards_definedness scope guards) valid.0 t f inv))
