-- A program that meets the concrete head of an operation simulates the operation.
use mathlib.Core.Path.{fun_ext}
use Rattle.std.proofs.Common.{◌≡◌, refl, sym, ap, ◌∙◌, subst, subst₂, Bool, true, false, if◌then◌else◌, List, [], ◌++◌, map, find, reverse, Option, None, true≢false}
use Rattle.std.proofs.lemmas.Bool.{false_from_ne_true}
use Rattle.rw_terms.specs.declared.scope.Entry.{Entry}
use Rattle.rw_terms.specs.declared.term.Formula.{Formula}
use Rattle.rw_terms.specs.declared.term.Formula.TheVariants as formula
use Rattle.rw_terms.specs.Scopes.{has_name}
use Rattle.rw_terms.specs.State.{Value, given, value_in, State as Map, Fits as FitsMap}
use Rattle.rw_terms.specs.Truth.{Definition}
use Rattle.rw_terms.specs.Validity.{Each}
use Rattle.rw_subst.specs.declared.slot.Form.TheVariants as form
use Rattle.rw_subst.specs.declared.slot.Slot.TheVariants as slot
use Rattle.rw_subst.specs.Replaced.{replaced_formula, to_initial}
use Rattle.rw_subst.specs.Looks.{Looks, holds_of, changed_looks, in_states}
use Rattle.rw_subst.proofs.ClosedTerms.{plain_value}
use Rattle.rw_subst.proofs.Replacing.{replacement_keeps_truth, initial_changes_are_closed}
use Rattle.rw_programs.specs.State.{Name, State, Fits, Holds, SameSort, Within, alone, is_in, only, put_all, read_all, names_of, ValuesFor}
use Rattle.rw_programs.proofs.Frames.{put_all_off, within_fits}
use Rattle.rw_meaning.specs.Filling.{module_entries}
use Rattle.rw_meaning.proofs.Scopes.{put_all_on}
use Rattle.rw_derived.specs.Derived.{keeps_value}
use Rattle.rw_soundness.proofs.Ready.{fits_both}
use Rattle.rw_heads.specs.declared.head.Module.{Module}
use Rattle.rw_heads.specs.declared.head.Oper.{Oper}
use Rattle.rw_modules.specs.Quantified.{for_some, Sorted, with_values, onto}
use Rattle.rw_modules.specs.Heads.{results_in, kept_by, kept_post, augmented, oper_head, oper_scope}
use Rattle.rw_modules.proofs.Quantifying.{for_all_holds, for_some_holds}
use Rattle.rw_simulation.specs.Classical.{Classically}
use Rattle.rw_simulation.specs.Coupling.{joined, Pairing, Coupled, begun, Simulates}
use Rattle.rw_simulation.specs.Concrete.{pair_of, IsFormed, IsFormedOper, Meets, SpecSure, SpecEnds}
use Rattle.rw_simulation.proofs.Classics.{thence, fits_stable}
use Rattle.rw_simulation.proofs.Relating.{put_all_same}
use Rattle.rw_simulation.proofs.Mapped.{mapped_in, mapped_out}
use Rattle.rw_simulation.proofs.Chosen.{vals, chosen, values_off, values_of_map, values_chosen, values_past, vals_sorted, chosen_fits, fits_off}
use Rattle.rw_simulation.proofs.Lists.{in_left, in_right, in_none, of_joined, in_without, out_without, read_same}
use Rattle.rw_simulation.proofs.Spoken.{spoken_same, and_holds, holds_and, imp_holds, conj_parts, each_kept, same_given}

module _ (library : List Definition) (m : Module) (o : Oper) (fm : IsFormed m) (fo : IsFormedOper m o) where
  abbrev A : List Name
  A = names_of m.state

  abbrev C : List Name
  C = names_of m.concrete

  abbrev V : List Name
  V = names_of o.values

  abbrev Z : List Name
  Z = names_of o.results

  abbrev pair : Pairing
  pair = pair_of library m

  abbrev definitions : List Definition
  definitions = reverse library

  abbrev begins : Map → List (Option Value) → List (Option Value) → State
  begins a args rs = begun o.values o.results a args rs

  -- the names of the states are no values and results
  not_value : (x : Name) → (is_in x (V ++ Z) ≡ true → ⊥) → is_in x V ≡ false
  not_value x n = false_from_ne_true (is_in x V) (λ i. n (in_left V Z x i))

  not_result : (x : Name) → (is_in x (V ++ Z) ≡ true → ⊥) → is_in x Z ≡ false
  not_result x n = false_from_ne_true (is_in x Z) (λ i. n (in_right V Z x i))

  abstract_new : (x : Name) → is_in x A ≡ true → is_in x (V ++ Z) ≡ true → ⊥
  abstract_new x i j = true≢false (sym i ∙ (fo.new x j).0)

  concrete_new : (x : Name) → is_in x C ≡ true → is_in x (V ++ Z) ≡ true → ⊥
  concrete_new x i j = true≢false (sym i ∙ (fo.new x j).1)

  not_abstract : (x : Name) → is_in x C ≡ true → is_in x A ≡ false
  not_abstract x i = false_from_ne_true (is_in x A) (λ j. true≢false (sym i ∙ fm.apart x j))

  -- what a body begins with
  begins_other : (a : Map) (args rs : List (Option Value)) (x : Name) → (is_in x (V ++ Z) ≡ true → ⊥) → (begins a args rs).own x ≡ a x
  begins_other a args rs x n = put_all_off Z rs (put_all V args a) x (not_result x n) ∙ put_all_off V args a x (not_value x n)

  begins_value : (a c : Map) (args rs : List (Option Value)) (x : Name) → is_in x V ≡ true → (begins a args rs).own x ≡ (begins c args rs).own x
  begins_value a c args rs x i = put_all_same Z rs (put_all V args a) (put_all V args c) x (put_all_on V args a c x i)

  begins_same : (a c : Map) (args rs : List (Option Value)) (x : Name) → a x ≡ c x → (begins a args rs).own x ≡ (begins c args rs).own x
  begins_same a c args rs x e = put_all_same Z rs (put_all V args a) (put_all V args c) x (put_all_same V args a c x e)

  -- a value of the abstract state is none of the concrete one, and both are nothing elsewhere
  elsewhere : (a c : Map) → Coupled pair a c → (x : Name) → is_in x A ≡ false → is_in x C ≡ false → a x ≡ c x
  elsewhere a c coupled x i j = fits_off m.state a x coupled.abstract i ∙ sym (fits_off m.concrete c x coupled.concrete j)

  -- the precondition and the coupling, by look-ups that are those of the two states
  record Looked (looks : Looks) (a c : Map) (s : State) : Type 0 where
    of_abstract : (x : Name) → is_in x A ≡ true → looks form.Variable x ≡ given (a x)
    of_concrete : (x : Name) → is_in x C ≡ true → looks form.Variable x ≡ given (c x)
    of_value : (x : Name) → is_in x V ≡ true → looks form.Variable x ≡ value_in s.own x

  both_hold : (looks : Looks) (a c : Map) (args rs : List (Option Value)) → Looked looks a c (begins a args rs) → Coupled pair a c → Holds library o.spec.pre (begins a args rs) (begins a args rs) → (b : List Value)
      → holds_of definitions looks (formula.And o.spec.pre m.coupling) b
  both_hold looks a c args rs l coupled pre b =
      holds_and definitions looks b o.spec.pre m.coupling (
        (spoken_same (V ++ A) [] o.spec.pre fo.pre definitions looks (in_states (begins a args rs).own (begins a args rs).own)
            (λ x i. of_joined (looks form.Variable x ≡ value_in (begins a args rs).own x) V A x (l.of_value x) (λ j. l.of_abstract x j ∙ ap given (sym (begins_other a args rs x (abstract_new x j)))) i)
            (λ x i. absurd (true≢false (sym i))) b []).1 pre,
        (spoken_same (A ++ C) [] m.coupling fm.coupling definitions looks (in_states (joined m.state a c) (joined m.state a c))
            (λ x i. of_joined (looks form.Variable x ≡ value_in (joined m.state a c) x) A C x
            (λ j. l.of_abstract x j ∙ ap given (sym (ap (λ t. if t then a x else c x) j)))
            (λ j. l.of_concrete x j ∙ ap given (sym (ap (λ t. if t then a x else c x) (not_abstract x j)))) i)
            (λ x i. absurd (true≢false (sym i))) b []).1 coupled.meet,
      )

  module _ (S' : State → Type 0) (N' : State → State → Type 0) (meets : Meets library (oper_scope m o) (oper_head m o.spec) S' N')
      (enters : (c : Map) (args rs : List (Option Value)) → ValuesFor o.values args → ValuesFor o.results rs → FitsMap (module_entries m.concrete) c → Fits (oper_scope m o) (begins c args rs)) where
    -- where an abstract state is coupled that meets the precondition, the head's precondition holds
    head_pre : (c : Map) (args rs : List (Option Value)) → Classically ((a : Map) × Coupled pair a c × SpecSure library o.spec (begins a args rs)) → Holds library (oper_head m o.spec).pre (begins c args rs) (begins c args rs)
    head_pre c args rs k =
        let s' = begins c args rs in
        let looks = in_states s'.own s'.own in
        (for_some_holds slot.Var m.state (formula.And o.spec.pre m.coupling) definitions looks []).1
        (λ n. k (λ z.
        let a = z.0 in
        let vs = vals m.state a in
        let there = with_values slot.Var m.state vs looks in
        let l : Looked there a c (begins a args rs) = record {
          of_abstract = λ x i. values_of_map slot.Var form.Variable (λ x y. refl) m.state a looks x i;
          of_concrete = λ x i. values_off slot.Var form.Variable (λ x y. refl) m.state vs looks x (not_abstract x i) ∙ ap given (begins_other c args rs x (concrete_new x i));
          of_value = λ x i. values_off slot.Var form.Variable (λ x y. refl) m.state vs looks x (fo.new x (in_left V Z x i)).0 ∙ ap given (begins_value c a args rs x i);
        } in
        n vs (vals_sorted m.state a fm.differ z.1.abstract) (both_hold there a c args rs l z.1 z.2 (onto vs []))))

    pub head_sure : (c : Map) (args rs : List (Option Value)) → ValuesFor o.values args → ValuesFor o.results rs → Classically ((a : Map) × Coupled pair a c × SpecSure library o.spec (begins a args rs)) → S' (begins c args rs)
    head_sure c args rs hv hr k =
        (meets (begins c args rs) (enters c args rs hv hr (fits_stable (module_entries m.concrete) c (thence k (λ z. z.1.concrete)))) (head_pre c args rs k)).0

    module _ (a c : Map) (args rs : List (Option Value)) (t' : State) (coupled : Coupled pair a c) (pre : SpecSure library o.spec (begins a args rs)) (within : Within (oper_head m o.spec).frame (begins c args rs) t')
        (after : Holds library (oper_head m o.spec).post (begins c args rs) t') where
      abbrev s : State
      s = begins a args rs

      abbrev s' : State
      s' = begins c args rs

      abbrev frame : List Name
      frame = (augmented m o.spec).frame

      -- the names of the frame
      abstract_in : (x : Name) → is_in x A ≡ true → is_in x frame ≡ true
      abstract_in x i = in_right (results_in m o.spec.frame) (A ++ C) x (in_left A C x i)

      concrete_in : (x : Name) → is_in x C ≡ true → is_in x frame ≡ true
      concrete_in x i = in_right (results_in m o.spec.frame) (A ++ C) x (in_right A C x i)

      head_in : (x : Name) → is_in x frame ≡ true → is_in x A ≡ false → is_in x (oper_head m o.spec).frame ≡ true
      head_in x i off = in_without A frame x i off

      off_frame : (x : Name) → is_in x o.spec.frame ≡ false → is_in x A ≡ false → is_in x C ≡ false → is_in x frame ≡ false
      off_frame x i j k = in_none (results_in m o.spec.frame) (A ++ C) x (out_without A o.spec.frame x i) (in_none A C x j k)

      value_off : (x : Name) → is_in x V ≡ true → is_in x frame ≡ false
      value_off x i =
          let n = fo.new x (in_left V Z x i) in
          off_frame x (false_from_ne_true (is_in x o.spec.frame) (λ j. true≢false (sym (fo.frame x j n.0) ∙ fo.differ x i))) n.0 n.1

      kept : (x : Name) → is_in x frame ≡ false → t'.own x ≡ s'.own x
      kept x i = within.off x (out_without A frame x i)

      abbrev looks : Looks
      looks = in_states s'.own t'.own

      abbrev firsts : List Value
      firsts = vals m.state a

      -- the initial variables of the abstract state have its values
      abbrev before : Looks
      before = with_values slot.Init m.state firsts looks

      before_abstract : (x : Name) → is_in x A ≡ true → before form.Initial x ≡ given (a x)
      before_abstract x i = values_of_map slot.Init form.Initial (λ x y. refl) m.state a looks x i

      before_other : (x : Name) → is_in x A ≡ false → before form.Initial x ≡ value_in s'.own x
      before_other x i = values_off slot.Init form.Initial (λ x y. refl) m.state firsts looks x i

      before_now : (x : Name) → before form.Variable x ≡ value_in t'.own x
      before_now x = values_past slot.Init form.Variable (λ x y. refl) m.state firsts looks x

      -- and the frame's variables are its initial ones
      abbrev first : Looks
      first = changed_looks (map to_initial frame) before

      first_in : (x : Name) → is_in x frame ≡ true → first form.Variable x ≡ before form.Initial x
      first_in x i = mapped_in to_initial form.Variable before (λ x y. refl) frame x i ∙ plain_value before [] form.Initial x

      first_off : (x : Name) → is_in x frame ≡ false → first form.Variable x ≡ before form.Variable x
      first_off x i = mapped_out to_initial form.Variable before (λ x y. refl) frame x i

      looked : Looked first a c s
      looked = record {
        of_abstract = λ x i. first_in x (abstract_in x i) ∙ before_abstract x i;
        of_concrete = λ x i. first_in x (concrete_in x i) ∙ (before_other x (not_abstract x i) ∙ ap given (begins_other c args rs x (concrete_new x i)));
        of_value = λ x i. first_off x (value_off x i) ∙ (before_now x ∙ ap given (kept x (value_off x i) ∙ begins_value c a args rs x i));
      }

      abbrev met : Formula
      met = formula.And (kept_post m o.spec) m.coupling

      -- so some abstract state meets the postcondition
      some_after : holds_of definitions before (for_some slot.Var m.state met) (onto firsts [])
      some_after =
          imp_holds definitions before (onto firsts []) (replaced_formula (map to_initial frame) (formula.And o.spec.pre m.coupling)) (for_some slot.Var m.state met)
          ((for_all_holds slot.Init m.state (formula.Imp (replaced_formula (map to_initial frame) (formula.And o.spec.pre m.coupling)) (for_some slot.Var m.state met)) definitions looks []).0 after firsts
          (vals_sorted m.state a fm.differ coupled.abstract))
          ((replacement_keeps_truth (map to_initial frame) (formula.And o.spec.pre m.coupling) (initial_changes_are_closed frame).0 definitions before (onto firsts [])).1
          (both_hold first a c args rs looked coupled pre (onto firsts [])))

      module _ (ws : List Value) (sorted : Sorted m.state ws) (meet : holds_of definitions (with_values slot.Var m.state ws before) met (onto ws (onto firsts []))) where
        abbrev b : List Value
        b = onto ws (onto firsts [])

        abbrev now : Looks
        now = with_values slot.Var m.state ws before

        now_abstract : (x : Name) → is_in x A ≡ true → now form.Variable x ≡ given (chosen m.state ws x)
        now_abstract x i = values_chosen slot.Var form.Variable (λ x y. refl) m.state ws before x sorted fm.differ i

        now_other : (x : Name) → is_in x A ≡ false → now form.Variable x ≡ value_in t'.own x
        now_other x i = values_off slot.Var form.Variable (λ x y. refl) m.state ws before x i ∙ before_now x

        now_before : (x : Name) → now form.Initial x ≡ before form.Initial x
        now_before x = values_past slot.Var form.Initial (λ x y. refl) m.state ws before x

        -- the abstract end: the chosen values, and what the concrete end has off the states
        abbrev mixed : Map
        mixed x = if is_in x A then chosen m.state ws x else if is_in x C then None else t'.own x

        abbrev t : State
        t = alone mixed

        at_abstract : (x : Name) → is_in x A ≡ true → mixed x ≡ chosen m.state ws x
        at_abstract x i = ap (λ d. if d then chosen m.state ws x else if is_in x C then None else t'.own x) i

        at_concrete : (x : Name) → is_in x A ≡ false → is_in x C ≡ true → mixed x ≡ None
        at_concrete x i j = ap (λ d. if d then chosen m.state ws x else if is_in x C then None else t'.own x) i ∙ ap (λ d. if d then None else t'.own x) j

        at_other : (x : Name) → is_in x A ≡ false → is_in x C ≡ false → mixed x ≡ t'.own x
        at_other x i j = ap (λ d. if d then chosen m.state ws x else if is_in x C then None else t'.own x) i ∙ ap (λ d. if d then None else t'.own x) j

        at_call : (x : Name) → is_in x (V ++ Z) ≡ true → mixed x ≡ t'.own x
        at_call x i = let n = fo.new x i in at_other x n.0 n.1

        parts : holds_of definitions now (kept_post m o.spec) b × holds_of definitions now m.coupling b
        parts = and_holds definitions now b (kept_post m o.spec) m.coupling meet

        posts : holds_of definitions now o.spec.post b × Each (λ g. holds_of definitions now g b) (map keeps_value (kept_by m o.spec.frame))
        posts = conj_parts definitions now b o.spec.post (map keeps_value (kept_by m o.spec.frame)) parts.0

        abbrev entry_of : Name → Option Entry
        entry_of x = find (has_name x) (module_entries m.state)

        within_frame : Within o.spec.frame s t
        within_frame = record { off = λ x i. off x i (is_in x A) refl (is_in x C) refl; sorts = λ x i. sorts x i (is_in x A) refl; parts = refl }
          where
            off : (x : Name) → is_in x o.spec.frame ≡ false → (d : Bool) → is_in x A ≡ d → (e : Bool) → is_in x C ≡ e → mixed x ≡ s.own x
            off x i true j e k =
                let stays = each_kept definitions now b (kept_by m o.spec.frame) posts.1 x (in_without o.spec.frame A x j i) in
                at_abstract x j
                ∙ (same_given (entry_of x) (chosen m.state ws x) (a x) (chosen_fits m.state ws sorted x) (coupled.abstract x) (sym (now_abstract x j) ∙ (stays ∙ (now_before x ∙ before_abstract x j)))
                ∙ sym (begins_other a args rs x (abstract_new x j)))
            off x i false j true k = at_concrete x j k ∙ (sym (fits_off m.state a x coupled.abstract j) ∙ sym (begins_other a args rs x (concrete_new x k)))
            off x i false j false k = at_other x j k ∙ (kept x (off_frame x i j k) ∙ begins_same c a args rs x (sym (elsewhere a c coupled x j k)))

            sorts : (x : Name) → is_in x o.spec.frame ≡ true → (d : Bool) → is_in x A ≡ d → SameSort (s.own x) (mixed x)
            sorts x i true j =
                subst₂ SameSort (sym (begins_other a args rs x (abstract_new x j))) (sym (at_abstract x j)) (fits_both (entry_of x) (a x) (chosen m.state ws x) (coupled.abstract x) (chosen_fits m.state ws sorted x))
            sorts x i false j =
                let result = fo.frame x i j in
                let n = fo.new x (in_right V Z x result) in
                subst₂ SameSort (begins_same c a args rs x (sym (elsewhere a c coupled x n.0 n.1))) (sym (at_other x n.0 n.1))
                (within.sorts x (head_in x (in_left (results_in m o.spec.frame) (A ++ C) x (in_without A o.spec.frame x i j)) j))

        post_holds : Holds library o.spec.post s t
        post_holds =
            (spoken_same ((V ++ Z) ++ A) A o.spec.post fo.post definitions now (in_states s.own t.own)
            (λ x i. of_joined (now form.Variable x ≡ value_in mixed x) (V ++ Z) A x (λ j. now_other x (fo.new x j).0 ∙ ap given (sym (at_call x j))) (λ j. now_abstract x j ∙ ap given (sym (at_abstract x j))) i)
            (λ x i. now_before x ∙ (before_abstract x i ∙ ap given (sym (begins_other a args rs x (abstract_new x i))))) b []).0 posts.0

        abstract_end : only A mixed ≡ chosen m.state ws
        abstract_end = fun_ext (λ x. go x (is_in x A) refl)
          where
            go : (x : Name) (d : Bool) → is_in x A ≡ d → only A mixed x ≡ chosen m.state ws x
            go x true i = ap (λ d. if d then mixed x else None) i ∙ at_abstract x i
            go x false i = ap (λ d. if d then mixed x else None) i ∙ sym (fits_off m.state (chosen m.state ws) x (chosen_fits m.state ws sorted) i)

        concrete_fits : FitsMap (module_entries m.concrete) (only C t'.own)
        concrete_fits =
            (within_fits (module_entries m.concrete) C (alone c) (alone (only C t'.own)) (record { names = coupled.concrete; parts = refl })
            (record { off = λ x i. off x i; sorts = sorts; parts = refl })).names
          where
            off : (x : Name) → is_in x C ≡ false → only C t'.own x ≡ c x
            off x i = ap (λ d. if d then t'.own x else None) i ∙ sym (fits_off m.concrete c x coupled.concrete i)

            sorts : (x : Name) → is_in x C ≡ true → SameSort (c x) (only C t'.own x)
            sorts x i =
                subst₂ SameSort (begins_other c args rs x (concrete_new x i)) (sym (ap (λ d. if d then t'.own x else None) i)) (within.sorts x (head_in x (concrete_in x i) (not_abstract x i)))

        coupled_after : Coupled pair (only A mixed) (only C t'.own)
        coupled_after = subst (λ y. Coupled pair y (only C t'.own)) (sym abstract_end) (record {
          abstract = chosen_fits m.state ws sorted;
          concrete = concrete_fits;
          meet = (spoken_same (A ++ C) [] m.coupling fm.coupling definitions now (in_states both both)
              (λ x i. of_joined (now form.Variable x ≡ value_in both x) A C x
              (λ j. now_abstract x j ∙ ap given (sym (ap (λ d. if d then chosen m.state ws x else only C t'.own x) j)))
              (λ j. now_other x (not_abstract x j) ∙ ap given (sym (ap (λ d. if d then chosen m.state ws x else only C t'.own x) (not_abstract x j) ∙ ap (λ d. if d then t'.own x else None) j))) i)
              (λ x i. absurd (true≢false (sym i))) b []).0 parts.1;
        })
          where
            both : Map
            both = joined m.state (chosen m.state ws) (only C t'.own)

        an_end : (t : State) × SpecEnds library o.spec s t × (read_all Z t'.own ≡ read_all Z t.own) × (read_all V t'.own ≡ read_all V t.own) × Coupled pair (only A t.own) (only C t'.own)
        an_end = (
          t,
          (within_frame, post_holds),
          read_same Z t'.own mixed (λ x i. sym (at_call x (in_right V Z x i))),
          read_same V t'.own mixed (λ x i. sym (at_call x (in_left V Z x i))),
          coupled_after,
        )

      pub ends_after : Classically ((t : State) × SpecEnds library o.spec s t × (read_all Z t'.own ≡ read_all Z t.own) × (read_all V t'.own ≡ read_all V t.own) × Coupled pair (only A t.own) (only C t'.own))
      ends_after n = (for_some_holds slot.Var m.state met definitions before (onto firsts [])).0 some_after (λ ws sorted meet. n (an_end ws sorted meet))

    pub oper_simulates : Simulates pair o.values o.results (SpecSure library o.spec) (SpecEnds library o.spec) S' N'
    oper_simulates = record {
      sure = head_sure;
      ends = λ a c args rs t' hv hr coupled pre e.
          let met = (meets (begins c args rs) (enters c args rs hv hr coupled.concrete) (head_pre c args rs (λ n. n (a, coupled, pre)))).1 t' e in
          ends_after a c args rs t' coupled pre met.0 met.1;
    }
