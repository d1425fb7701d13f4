-- The law of a constant with the value of a term, and that of sequences with constants.
use Rattle.std.proofs.Common.{◌≡◌, ℕ, Bool, true, false, if◌then◌else◌, ◌||◌, is_some, length, List, [], ◌∷◌, find, reverse, Option, Some, None, refl, sym, ap, ◌∙◌, subst, true≢false}
use Rattle.std.specs.Prelude.{not, suc, bytes_eq, option_and_then}
use Rattle.std.proofs.lemmas.Bool.{eq-eqb, and_from, and_parts, false_from_ne_true, not-true, or_parts, or_right}
use Rattle.rw_terms.specs.declared.scope.Entry.{Entry}
use Rattle.rw_terms.specs.declared.scope.Head.{Head}
use Rattle.rw_terms.specs.declared.term.Sort.{Sort}
use Rattle.rw_terms.specs.declared.term.Sort.TheVariants.{Int, Array}
use Rattle.rw_terms.specs.declared.term.Term.{Term}
use Rattle.rw_terms.specs.declared.term.Term.TheVariants as v
use Rattle.rw_terms.specs.declared.term.Formula.{Formula}
use Rattle.rw_terms.specs.declared.term.Formula.TheVariants as formula
use Rattle.rw_terms.specs.declared.term.Formula.TheOpen.{Formula-F}
use Rattle.rw_terms.specs.Scopes.{has_name, is_fresh}
use Rattle.rw_terms.specs.Sorts.{as_variable, as_constant, variable_sort}
use Rattle.rw_terms.specs.Formed.{may_equal}
use Rattle.rw_terms.specs.Rules.{sort_in}
use Rattle.rw_terms.specs.State.{Value, given, value_in, FitsEntry, State as Map, Fits as FitsMap}
use Rattle.rw_terms.specs.Value.{value}
use Rattle.rw_terms.specs.Truth.{predicates_of, holds}
use Rattle.rw_terms.proofs.Truths.{from_layer}
use Rattle.rw_faults.specs.Faults.{checked}
use Rattle.rw_faults.specs.Initial.{is_listed, is_twice}
use Rattle.rw_subst.specs.declared.slot.Form.{Form}
use Rattle.rw_subst.specs.declared.slot.Form.TheVariants as form
use Rattle.rw_subst.specs.Looks.{in_states}
use Rattle.rw_subst.specs.Stands.{stands_in_term}
use Rattle.rw_subst.specs.Kinds.{is_allowed_as}
use Rattle.rw_subst.proofs.ClosedTerms.{plain_value}
use Rattle.rw_subst.proofs.Defining.{conj_with_holds}
use Rattle.rw_subst.proofs.KindLemmas.{term_allowed}
use Rattle.rw_subst.proofs.WellSorted.{equal_parts}
use Rattle.rw_programs.specs.declared.prog.Spec.{Spec}
use Rattle.rw_programs.specs.declared.prog.Pin.{Pin}
use Rattle.rw_programs.specs.declared.prog.Prog.{Prog}
use Rattle.rw_programs.specs.Made.{Seq, Con}
use Rattle.rw_programs.specs.State.{Name, State, Holds, Within, is_in, put_all}
use Rattle.rw_programs.specs.Tables.{Table, pin_names, pin_terms}
use Rattle.rw_programs.specs.Meaning.{Sure, MayEnd, values}
use Rattle.rw_programs.specs.Refine.{is_value_entry, HasValues}
use Rattle.rw_programs.specs.Laws.{KeepsValues}
use Rattle.rw_programs.proofs.Beside.{FitsBeside}
use Rattle.rw_programs.proofs.Frames.{within_fits, within_trans}
use Rattle.rw_programs.proofs.Rules.{within_values}
use Rattle.rw_meaning.proofs.Tests.{same_bytes, bytes_same}
use Rattle.rw_derived.specs.Causes.{each_is}
use Rattle.rw_derived.specs.Derived.{pins_for, constants_for, constant, with_constants, with_constant, sort_or_int, pinned, pinned_pre}
use Rattle.rw_laws.specs.Laws.{pin}
use Rattle.rw_soundness.specs.Sound.{IsReady}
use Rattle.rw_soundness.proofs.Bits.{listed_in}
use Rattle.rw_soundness.proofs.Bridges.{term_agrees}
use Rattle.rw_soundness.proofs.Causes.{Naming, Pinning}
use Rattle.rw_soundness.proofs.Ready.{scope_agrees, initial_of_frame}
use Rattle.rw_soundness.proofs.Shapes.{PinsHold, pinned_holds}
use Rattle.rw_soundness.proofs.Single.{Better}
use Rattle.rw_soundness.proofs.Assigning.{equal_sorts, var_sort}
use Rattle.rw_soundness.proofs.Constants as blocks
use Rattle.rw_soundness.proofs.Constants.{AreFor, entry_names, begun, left}

-- a sort that is known is the one that is taken
pub sort_taken : (o : Option Sort) (s : Sort) → o ≡ Some s → o ≡ Some (sort_or_int o)
sort_taken None s e = absurd (cc)
sort_taken (Some r) s e = refl

pub sort_there : (o : Option Sort) → is_some o ≡ true → o ≡ Some (sort_or_int o)
sort_there None e = absurd (true≢false (sym e))
sort_there (Some r) e = refl

equals_itself : (o : Option Sort) → may_equal o o ≡ true
equals_itself None = refl
equals_itself (Some Int) = refl
equals_itself (Some (Array n)) = eq-eqb n n refl

-- a variable of the scope is found in it
found_variable : (scope : List Entry) (x : Name) → is_some (variable_sort scope x) ≡ true → find (has_name x) scope ≡ None → ⊥
found_variable scope x e n = true≢false (sym e ∙ ap (λ o. is_some (option_and_then (λ e. as_variable e.kind e.sort) o)) n)

module _ (scope : List Entry) (heads : List Head) (w : Spec) (ready : IsReady scope heads w) where
  pub in_scope : (x : Name) → is_in x w.frame ≡ true → find (has_name x) scope ≡ None → ⊥
  in_scope x i = found_variable scope x (ready.variables x i)

  module _ (x : Name) (t : Term) (tests : Naming scope x t) where
    pub sorted : (s : Sort) × (sort_in scope [] t ≡ Some s)
    sorted =
        let c = checked scope [] t in
        let good : (not (may_equal c.sort c.sort) || (c.bad || c.bad)) ≡ false = ap (λ b. not b || (c.bad || c.bad)) (equals_itself c.sort) ∙ ap (λ b. b || b) tests.sorted in
        (equal_parts (sort_in scope [] t) (sort_in scope [] t) (equal_sorts scope t t tests.known tests.known good)).0

    pub own : AreFor scope (pin x t ∷ []) (constant x (sort_in scope [] t) ∷ [])
    own = ((sort_taken (sort_in scope [] t) sorted.0 sorted.1, refl), tt)

    pub new : each_is (λ y. is_fresh y scope) (x ∷ []) ≡ true
    new = and_from _ _ tests.fresh refl

    -- the term has in the wider state the value that it had
    same_term : (s s' : State) → ((y : Name) → (find (has_name y) scope ≡ None → ⊥) → s'.own y ≡ s.own y) → value s'.own s'.own [] t ≡ value s.own s.own [] t
    same_term s s' keeps = term_agrees t (in_states s'.own s'.own) (in_states s.own s.own) same
      where
        there : (g : Form) (y : Name) → is_allowed_as scope g y ≡ true → find (has_name y) scope ≡ None → ⊥
        there form.Variable y e n = true≢false (sym e ∙ ap (λ o. is_some (option_and_then (λ e. as_variable e.kind e.sort) o)) n)
        there form.Initial y e n = true≢false (sym e ∙ ap (λ o. is_some (option_and_then (λ e. as_variable e.kind e.sort) o)) n)
        there form.Constant y e n = true≢false (sym e ∙ ap (λ o. is_some (option_and_then (λ e. as_constant e.kind e.sort) o)) n)

        found : (g : Form) (y : Name) → stands_in_term g y t ≡ true → find (has_name y) scope ≡ None → ⊥
        found g y h = there g y (term_allowed scope g y [] t sorted.0 sorted.1 h)

        same : (g : Form) (y : Name) → stands_in_term g y t ≡ true → in_states s'.own s'.own g y ≡ in_states s.own s.own g y
        same form.Variable y h = ap given (keeps y (found form.Variable y h))
        same form.Initial y h = ap given (keeps y (found form.Initial y h))
        same form.Constant y h = ap given (keeps y (found form.Constant y h))

    abbrev pub own_pins : List Pin
    own_pins = pin x t ∷ []

    abbrev pub own_entries : List Entry
    own_entries = constant x (sort_in scope [] t) ∷ []

    pub con_sound : (fixed : Map) (others : Name → Map) (E : Table) (p k : ℕ) (c : Prog) → Better fixed others (with_constant scope x t) E p k w.frame (pinned_pre w x t) w.post c → Better fixed others scope E p k w.frame w.pre w.post (Con (pin x t ∷ []) c)
    con_sound fixed others E p k c kid = blocks.block_sound scope own_pins own_entries own new refl fixed others E p k w c in_scope body
      where
        keeps : (s : State) (y : Name) → (find (has_name y) scope ≡ None → ⊥) → (begun own_pins s).own y ≡ s.own y
        keeps = blocks.begun_keeps scope own_pins own_entries own new refl

        leaves : (m : State) (y : Name) → (find (has_name y) scope ≡ None → ⊥) → (left own_pins m).own y ≡ m.own y
        leaves = blocks.left_keeps scope own_pins own_entries own new refl

        -- the constant has the value of the term
        has_value : (s : State) → value_in (begun own_pins s).own x ≡ value s.own s.own [] t
        has_value s = (λ i. given (if (bytes_same x x refl i) then Some (value s.own s.own [] t) else s.own x))

        pre_holds : (s : State) → FitsBeside others scope s → Holds E.library w.pre s s → Holds E.library (pinned_pre w x t) (begun own_pins s) (begun own_pins s)
        pre_holds s fits pre =
            let s' = begun own_pins s in
            let fits' = blocks.begun_fits scope own_pins own_entries own new refl s fits in
            let before = (scope_agrees scope heads w.pre ready.pre.1 E.library s'.own s'.own s.own s.own (λ y f. (keeps s y f, keeps s y f))).1 pre in
            let equal : value s'.own s'.own [] (v.Const x) ≡ value s'.own s'.own [] t =
            plain_value (in_states s'.own s'.own) [] form.Constant x ∙ (has_value s ∙ sym (same_term s s' (keeps s))) in
            let equation : holds E.library (formula.Eq (v.Const x) t) s'.own s'.own [] =
            subst (λ f. holds E.library f s'.own s'.own []) (formula.rolls-Eq (v.Const x) t)
            (from_layer (predicates_of (reverse E.library)) (value_in s'.own) (value_in s'.own) (value_in s'.own) (Formula-F.Eq (v.Const x) t) [] equal) in
            (conj_with_holds (with_constant scope x t) E.library s'.own s'.own fits'.names fits'.names w.pre (formula.Eq (v.Const x) t ∷ [])).1 (before, (equation, tt))

        body : (s : State) → FitsBeside others scope s → HasValues scope fixed s → Holds E.library w.pre s s
            → Sure E p k c (begun own_pins s) × ((m : State) → MayEnd E p k c (begun own_pins s) m → Within w.frame (begun own_pins s) m × Holds E.library w.post s (left own_pins m))
        body s fits has pre =
            let inside = kid (begun own_pins s) (blocks.begun_fits scope own_pins own_entries own new refl s fits) (blocks.begun_has scope own_pins own_entries own new refl fixed s has) (pre_holds s fits pre) in (
              inside.0,
              λ m e. let i = inside.1 m e in (
                i.0,
                (scope_agrees scope heads w.post ready.post.1 E.library (begun own_pins s).own m.own s.own (left own_pins m).own (λ y f. (keeps s y f, sym (leaves m y f)))).0 i.1,
              ),
            )

  module _ (names : List Name) (f : Formula) (tests : Pinning scope heads w names f) where
    abbrev pub pins : List Pin
    pins = pins_for w.frame names

    abbrev pub es : List Entry
    es = constants_for scope w.frame names

    abbrev pub inner : List Entry
    inner = with_constants scope w.frame names

    pub long : length w.frame ≡ length names
    long = sym tests.long

    lower : (a b : ℕ) → suc a ≡ suc b → a ≡ b
    lower a b q = cc

    entries_are : (frame cs : List Name) → ((y : Name) → is_in y frame ≡ true → is_some (variable_sort scope y) ≡ true) → length frame ≡ length cs → AreFor scope (pins_for frame cs) (constants_for scope frame cs)
    entries_are [] cs there e = tt
    entries_are (y ∷ frame) [] there e = absurd (cc)
    entries_are (y ∷ frame) (c ∷ cs) there e = (
      (var_sort scope y ∙ sort_there (variable_sort scope y) (there y (ap (λ b. b || is_in y frame) (bytes_same y y refl))), refl),
      entries_are frame cs (λ z i. there z (or_right (bytes_eq z y) (is_in z frame) i)) (lower (length frame) (length cs) e),
    )

    pub are : AreFor scope pins es
    are = entries_are w.frame names ready.variables long

    same_names : (frame cs : List Name) → length frame ≡ length cs → entry_names (constants_for scope frame cs) ≡ cs
    same_names [] [] e = refl
    same_names [] (c ∷ cs) e = absurd (cc)
    same_names (y ∷ frame) [] e = absurd (cc)
    same_names (y ∷ frame) (c ∷ cs) e = ap (λ l. c ∷ l) (same_names frame cs (lower (length frame) (length cs) e))

    pub named : entry_names es ≡ names
    named = same_names w.frame names long

    pub fresh : each_is (λ y. is_fresh y scope) (entry_names es) ≡ true
    fresh = ap (each_is (λ y. is_fresh y scope)) named ∙ (and_parts (each_is (λ y. is_fresh y scope) names) (not (is_twice names)) tests.fresh).0

    pub apart : is_twice names ≡ false
    apart = not-true (is_twice names) (and_parts (each_is (λ y. is_fresh y scope) names) (not (is_twice names)) tests.fresh).1

    pub once : is_twice (entry_names es) ≡ false
    once = ap is_twice named ∙ apart

    -- constants that hold in a map hold in another that agrees on them
    moved : (s m m' : Map) (frame cs : List Name) → ((c : Name) → is_in c cs ≡ true → m' c ≡ m c) → PinsHold s m frame cs → PinsHold s m' frame cs
    moved s m m' [] cs same h = tt
    moved s m m' (y ∷ frame) [] same h = tt
    moved s m m' (y ∷ frame) (c ∷ cs) same h = (
      same c (ap (λ b. b || is_in c cs) (bytes_same c c refl)) ∙ h.0,
      moved s m m' frame cs (λ d i. same d (or_right (bytes_eq d c) (is_in d cs) i)) h.1,
    )

    -- constants that are put hold
    put_hold : (s : State) → ((y : Name) → is_in y w.frame ≡ true → Some (value s.own s.own [] (v.Var y)) ≡ s.own y) → (frame cs : List Name) → ((y : Name) → is_in y frame ≡ true → is_in y w.frame ≡ true)
        → is_twice cs ≡ false → PinsHold s.own (put_all (pin_names (pins_for frame cs)) (values (pin_terms (pins_for frame cs)) s) s.own) frame cs
    put_hold s valued [] cs within e = tt
    put_hold s valued (y ∷ frame) [] within e = tt
    put_hold s valued (y ∷ frame) (c ∷ cs) within e = (
      (λ i. if (bytes_same c c refl i) then Some (value s.own s.own [] (v.Var y)) else put_all (pin_names (pins_for frame cs)) (values (pin_terms (pins_for frame cs)) s) s.own c)
          ∙ valued y (within y (ap (λ b. b || is_in y frame) (bytes_same y y refl))),
      moved s.own (put_all (pin_names (pins_for frame cs)) (values (pin_terms (pins_for frame cs)) s) s.own) (put_all (pin_names (pins_for (y ∷ frame) (c ∷ cs))) (values (pin_terms (pins_for (y ∷ frame) (c ∷ cs))) s) s.own) frame cs (λ d i. behind d (bytes_eq d c) refl i) (put_hold s valued frame cs (λ z i. within z (or_right (bytes_eq z y) (is_in z frame) i)) (or_parts (is_listed cs c) (is_twice cs) e).1),
    )
      where
        behind : (d : Name) (b : Bool) → bytes_eq d c ≡ b → is_in d cs ≡ true → (if bytes_eq d c then Some (value s.own s.own [] (v.Var y)) else (put_all (pin_names (pins_for frame cs)) (values (pin_terms (pins_for frame cs)) s) s.own) d) ≡ (put_all (pin_names (pins_for frame cs)) (values (pin_terms (pins_for frame cs)) s) s.own) d
        behind d true q i = absurd (true≢false (sym i ∙ (ap (λ z. is_in z cs) (same_bytes d c q) ∙ (sym (listed_in cs c) ∙ (or_parts (is_listed cs c) (is_twice cs) e).0))))
        behind d false q i = rw q

    -- the value of a variable of the frame
    variable_valued : (s : State) → FitsMap scope s.own → (y : Name) → is_in y w.frame ≡ true → Some (value s.own s.own [] (v.Var y)) ≡ s.own y
    variable_valued s fits y i = ap Some (plain_value (in_states s.own s.own) [] form.Variable y) ∙ there (find (has_name y) scope) refl (s.own y) (fits y)
      where
        there : (o : Option Entry) → find (has_name y) scope ≡ o → (u : Option Value) → FitsEntry o u → Some (given u) ≡ u
        there None n u a = absurd (in_scope y i n)
        there (Some b) n None a = absurd a
        there (Some b) n (Some u) a = refl

    keeps : (s : State) (y : Name) → (find (has_name y) scope ≡ None → ⊥) → (begun pins s).own y ≡ s.own y
    keeps = blocks.begun_keeps scope pins es are fresh once

    leaves : (m : State) (y : Name) → (find (has_name y) scope ≡ None → ⊥) → (left pins m).own y ≡ m.own y
    leaves = blocks.left_keeps scope pins es are fresh once

    -- no constant is in the frame
    outside_frame : (c : Name) → is_in c names ≡ true → is_in c w.frame ≡ false
    outside_frame c i = false_from_ne_true (is_in c w.frame) (λ j. true≢false (sym i ∙ (ap (is_in c) (sym (sym (blocks.names_are scope pins es are) ∙ named)) ∙ blocks.not_pinned scope pins es are fresh once c (in_scope c j))))

    -- the constants hold in every state within the frame of the one in which the body begins
    pins_hold : (s : State) → FitsMap scope s.own → (m : State) → Within w.frame (begun pins s) m → PinsHold (begun pins s).own m.own w.frame names
    pins_hold s fits m within =
        first_kept w.frame names (λ y i. i) (moved s.own (begun pins s).own m.own w.frame names (λ c i. within.off c (outside_frame c i)) (put_hold s (variable_valued s fits) w.frame names (λ y i. i) apart))
      where
        first_kept : (frame cs : List Name) → ((y : Name) → is_in y frame ≡ true → is_in y w.frame ≡ true) → PinsHold s.own m.own frame cs → PinsHold (begun pins s).own m.own frame cs
        first_kept [] cs into h = tt
        first_kept (y ∷ frame) [] into h = tt
        first_kept (y ∷ frame) (c ∷ cs) into h = (
          h.0 ∙ sym (keeps s y (in_scope y (into y (ap (λ b. b || is_in y frame) (bytes_same y y refl))))),
          first_kept frame cs (λ z i. into z (or_right (bytes_eq z y) (is_in z frame) i)) h.1,
        )

    no_values : KeepsValues inner w.frame
    no_values x i = ap is_value_entry (blocks.found_before scope pins es are fresh once x (in_scope x i)) ∙ ready.no_values x i

    pub seqcon_sound : (fixed : Map) (others : Name → Map) (E : Table) (p k : ℕ) (c d : Prog) → Better fixed others inner E p k w.frame w.pre f c → Better fixed others inner E p k w.frame (pinned w.frame names f) (pinned w.frame names w.post) d
        → Better fixed others scope E p k w.frame w.pre w.post (Con pins (Seq c d))
    seqcon_sound fixed others E p k c d one two = blocks.block_sound scope pins es are fresh once fixed others E p k w (Seq c d) in_scope body
      where
        second : (s : State) → FitsBeside others scope s → HasValues scope fixed s → (m : State) → Within w.frame (begun pins s) m × Holds E.library f (begun pins s) m
            → Sure E p k d m × ((n : State) → MayEnd E p k d m n → Within w.frame m n × Holds E.library (pinned w.frame names w.post) m n)
        second s fits has m i =
            let fits' = blocks.begun_fits scope pins es are fresh once s fits in
            let has' = blocks.begun_has scope pins es are fresh once fixed s has in
            two m (within_fits inner w.frame (begun pins s) m fits' i.0) (within_values inner fixed w.frame (begun pins s) m no_values has' i.0)
            ((pinned_holds (begun pins s).own m.own E.library f m.own w.frame names long (pins_hold s fits.names m i.0) (initial_of_frame w.frame f tests.initial)).1 i.1)

        body : (s : State) → FitsBeside others scope s → HasValues scope fixed s → Holds E.library w.pre s s
            → Sure E p k (Seq c d) (begun pins s) × ((m : State) → MayEnd E p k (Seq c d) (begun pins s) m → Within w.frame (begun pins s) m × Holds E.library w.post s (left pins m))
        body s fits has pre =
            let fits' = blocks.begun_fits scope pins es are fresh once s fits in
            let has' = blocks.begun_has scope pins es are fresh once fixed s has in
            let before = (scope_agrees scope heads w.pre ready.pre.1 E.library (begun pins s).own (begun pins s).own s.own s.own (λ y q. (keeps s y q, keeps s y q))).1 pre in
            let first = one (begun pins s) fits' has' before in (
              (first.0, λ m e. (second s fits has m (first.1 m e)).0),
              λ n e. let i = first.1 e.0 e.1 in let j = (second s fits has e.0 i).1 n e.2 in
                  let within = within_trans w.frame (begun pins s) e.0 n i.0 j.0 in
                  let after = (pinned_holds (begun pins s).own n.own E.library w.post e.0.own w.frame names long (pins_hold s fits.names n within) (initial_of_frame w.frame w.post ready.initial)).0 j.1 in
                  (within, (scope_agrees scope heads w.post ready.post.1 E.library (begun pins s).own n.own s.own (left pins n).own (λ y q. (keeps s y q, sym (leaves n y q)))).0 after),
            )
