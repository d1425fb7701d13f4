-- The law of calls of operations is sound.
use Rattle.std.proofs.Common.{◌≡◌, ◌<◌, ℕ, suc, Bool, true, false, ◌||◌, not, List, [], ◌∷◌, ◌++◌, map, filter, if◌then◌else◌, find, length, reverse, Option, Some, None, IsSomeAnd, refl, sym, ap, ◌∙◌, subst, subst₂, true≢false}
use Rattle.std.specs.Prelude.{bytes_eq}
use Rattle.std.proofs.lemmas.Bool.{and_from, and_parts, false_from_ne_true, ltb-true}
use Rattle.rw_terms.specs.declared.scope.Entry.{Entry}
use Rattle.rw_terms.specs.declared.scope.Head.{Head}
use Rattle.rw_terms.specs.declared.scope.Kind.TheVariants as kind
use Rattle.rw_terms.specs.declared.term.Sort.{Sort}
use Rattle.rw_terms.specs.declared.term.Term.{Term}
use Rattle.rw_terms.specs.declared.term.Term.TheVariants as v
use Rattle.rw_terms.specs.declared.term.Term.TheOpen.{Term-F}
use Rattle.rw_terms.specs.declared.term.Term.TheFolds.{fold-roll-Term}
use Rattle.rw_terms.specs.Scopes.{has_name}
use Rattle.rw_terms.specs.Rules.{sort_in}
use Rattle.rw_terms.specs.State.{Value, given, value_in, FitsEntry, State as Map, Fits as FitsMap}
use Rattle.rw_terms.specs.Value.{value}
use Rattle.rw_terms.specs.Truth.{Definition}
use Rattle.rw_terms.specs.Validity.{Each, Valid}
use Rattle.rw_terms.proofs.Restricted.{valid_follows}
use Rattle.rw_faults.specs.Initial.{is_listed, is_twice, term_outside}
use Rattle.rw_subst.specs.declared.slot.Form.{Form}
use Rattle.rw_subst.specs.declared.slot.Form.TheVariants as form
use Rattle.rw_subst.specs.declared.slot.Slot.TheVariants as slot
use Rattle.rw_subst.specs.declared.slot.Change.{Change}
use Rattle.rw_subst.specs.Closed.{closed_step, is_closed, are_closed}
use Rattle.rw_subst.specs.Definedness.{definedness_of}
use Rattle.rw_subst.specs.Looks.{Looks, value_of, changed_looks, in_states}
use Rattle.rw_subst.specs.Replaced.{replaced_term, replaced_formula, to_initial}
use Rattle.rw_subst.specs.Stands.{stands_in_term, stands_in}
use Rattle.rw_subst.proofs.ClosedTerms.{plain_value}
use Rattle.rw_subst.proofs.KindLemmas.{names_of_terms_have_one_kind}
use Rattle.rw_subst.proofs.Replacing.{replacement_keeps_values, initial_changes_are_closed}
use Rattle.rw_programs.specs.declared.prog.Param.{Param}
use Rattle.rw_programs.specs.declared.prog.ProcCode.{ProcCode}
use Rattle.rw_programs.specs.declared.prog.ModCode.{ModCode}
use Rattle.rw_programs.specs.declared.prog.Spec.{Spec}
use Rattle.rw_programs.specs.declared.prog.Prog.TheVariants as prog
use Rattle.rw_programs.specs.declared.applied.Context.{Context}
use Rattle.rw_programs.specs.declared.applied.Applied.{Applied}
use Rattle.rw_programs.specs.State.{Name, State, Fits, Holds, Within, empty, is_in, only, put_all, read_all, names_of, with_own, ValuesFor}
use Rattle.rw_programs.specs.Tables.{Table, find_proc, find_module, Begins, returned, held, hold}
use Rattle.rw_programs.specs.Meaning.{bodies_before, MayEnd, Sure, AllDefined, values}
use Rattle.rw_programs.specs.Refine.{RefinesGiven}
use Rattle.rw_programs.proofs.Frames.{put_all_off, within_fits}
use Rattle.rw_programs.proofs.Skipping.{stable}
use Rattle.rw_meaning.specs.Filling.{fill, module_entries}
use Rattle.rw_meaning.proofs.Grow.{ends_of_any, before_ends, sure_before}
use Rattle.rw_meaning.proofs.Scopes.{put_all_on}
use Rattle.rw_meaning.proofs.Tests.{same_bytes, bytes_same}
use Rattle.rw_derived.specs.Causes.{each_is, is_assignable, is_entry_of, is_kind, is_module_kind}
use Rattle.rw_derived.specs.Derived.{set_to, initial_pre}
use Rattle.rw_soundness.specs.Sound.{IsReady, FitsContext, RefinesWhere}
use Rattle.rw_soundness.proofs.Assigning.{each_map, each_all, defined_by}
use Rattle.rw_soundness.proofs.Bits.{either, listed_in}
use Rattle.rw_soundness.proofs.Bridges.{bridge, term_agrees}
use Rattle.rw_soundness.proofs.Initials.{none_in_term}
use Rattle.rw_soundness.proofs.Ready.{constants_off, within_by_fits}
use Rattle.rw_soundness.proofs.Replaced.{sort_kept}
use Rattle.rw_soundness.proofs.Shapes.{initial_holds, followed_holds}
use Rattle.rw_soundness.proofs.Single.{follows_of}
use Rattle.rw_soundness.proofs.Sorted.{sorted_closed}
use Rattle.rw_heads.specs.declared.head.Module.{Module}
use Rattle.rw_heads.specs.declared.head.Oper.{Oper}
use Rattle.rw_procs.specs.Derived.{called_pre, args_before}
use Rattle.rw_modules.specs.Laws.{operated_post, left_post, left_by, abstract_frame}
use Rattle.rw_modules.specs.Heads.{entries}
use Rattle.rw_simulation.specs.Coupling.{begun}
use Rattle.rw_simulation.specs.Concrete.{IsFormedOper}
use Rattle.rw_simulation.proofs.Chosen.{fits_off, values_on}
use Rattle.rw_simulation.proofs.Entered.{names_in, both_fit, found_in, found_out, values_fit, kind_fits}
use Rattle.rw_simulation.proofs.Lists.{in_left, in_right, of_joined, taken_out}
use Rattle.rw_simulation.proofs.Link.{some_here, here_some}
use Rattle.rw_simulation.proofs.Mapped.{mapped_in, mapped_out, mapped_past}
use Rattle.rw_simulation.proofs.Spoken.{spoken_same}
use Rattle.rw_calls.specs.Sound.{op_scope, OpMeets, OperationsAreSound}
use Rattle.rw_calls.proofs.CallLaw.{left_is_true, right_is_true, off_names, long_read, long_map, none_behind, each_outside, initial_sorts}
use Rattle.rw_calls.proofs.BlockOfModule.{joined_thrice}
use Rattle.rw_calls.proofs.Args.{ArgsFor, args_sorted, args_long, args_have_sorts, args_values, names_take, names_long}
use Rattle.rw_calls.proofs.Looked.{Valued, set_value, set_past, set_closed, read_put, put_read}
use Rattle.rw_calls.proofs.Tests.{Operating, op_tests}
use Rattle.rw_programs.proofs.Beside.{FitsBeside, with_no_parts, without_parts}
use Rattle.rw_terms.specs.declared.sequent.Sequent.{Sequent}
use Rattle.rw_derived.specs.Making.{sequent_over}

-- the state in which an abstract operation begins
module _ (m : Module) (o : Oper) (fo : IsFormedOper m o) (c : Map) (args rs : List (Option Value)) (hv : ValuesFor o.values args) (hr : ValuesFor o.results rs) (fits : FitsMap (module_entries m.state) c) where
  own : Map
  own = put_all (names_of o.results) rs (put_all (names_of o.values) args c)

  op_value : (x : Name) → is_in x (names_of o.values) ≡ true → own x ≡ put_all (names_of o.values) args empty x
  unfolding own
  op_value x i = put_all_off (names_of o.results) rs (put_all (names_of o.values) args c) x (fo.differ x i) ∙ put_all_on (names_of o.values) args c empty x i

  op_result : (x : Name) → is_in x (names_of m.state) ≡ false → is_in x (names_of o.values) ≡ false → (b : Bool) → is_in x (names_of o.results) ≡ b → own x ≡ put_all (names_of o.results) rs empty x
  unfolding own
  op_result x i j true k = put_all_on (names_of o.results) rs (put_all (names_of o.values) args c) empty x k
  op_result x i j false k =
      put_all_off (names_of o.results) rs (put_all (names_of o.values) args c) x k ∙ (put_all_off (names_of o.values) args c x j
      ∙ (fits_off m.state c x fits i ∙ sym (put_all_off (names_of o.results) rs empty x k)))

  op_state : (x : Name) → is_in x (names_of m.state) ≡ true → own x ≡ c x
  unfolding own
  op_state x i =
      put_all_off (names_of o.results) rs (put_all (names_of o.values) args c) x (false_from_ne_true (is_in x (names_of o.results)) (λ j. true≢false (sym i ∙ (fo.new x (in_right (names_of o.values) (names_of o.results) x j)).0)))
      ∙ put_all_off (names_of o.values) args c x (false_from_ne_true (is_in x (names_of o.values)) (λ j. true≢false (sym i ∙ (fo.new x (in_left (names_of o.values) (names_of o.results) x j)).0)))

  op_value_fits : (x : Name) → is_in x (names_of o.values) ≡ true → FitsEntry (find (has_name x) (entries kind.Value o.values)) (own x)
  op_value_fits x i = subst (FitsEntry (find (has_name x) (entries kind.Value o.values))) (sym (op_value x i)) (values_fit kind.Value o.values args hv x)

  op_result_fits : (x : Name) → is_in x (names_of m.state) ≡ false → is_in x (names_of o.values) ≡ false → FitsEntry (find (has_name x) (entries kind.Outcome o.results)) (own x)
  op_result_fits x i j = subst (FitsEntry (find (has_name x) (entries kind.Outcome o.results))) (sym (op_result x i j (is_in x (names_of o.results)) refl)) (values_fit kind.Outcome o.results rs hr x)

  -- values and results, off the concrete state
  op_call_fits : (x : Name) → is_in x (names_of m.state) ≡ false → FitsEntry (find (has_name x) (entries kind.Value o.values ++ entries kind.Outcome o.results)) (own x)
  op_call_fits x i = go (is_in x (names_of o.values)) refl
    where
      go : (b : Bool) → is_in x (names_of o.values) ≡ b → FitsEntry (find (has_name x) (entries kind.Value o.values ++ entries kind.Outcome o.results)) (own x)
      go true j =
          subst (λ e. FitsEntry e (own x)) (sym (found_in (entries kind.Value o.values) (entries kind.Outcome o.results) x (ap (is_in x) (names_in kind.Value o.values) ∙ j))) (op_value_fits x j)
      go false j =
          subst (λ e. FitsEntry e (own x)) (sym (found_out (entries kind.Value o.values) (entries kind.Outcome o.results) x (ap (is_in x) (names_in kind.Value o.values) ∙ j))) (op_result_fits x i j)

  op_own_fits : FitsMap (op_scope m o) own
  op_own_fits =
      both_fit (module_entries m.state) (entries kind.Value o.values ++ entries kind.Outcome o.results) own
      (λ x i. subst (FitsEntry (find (has_name x) (module_entries m.state))) (sym (op_state x (sym (ap (is_in x) (names_in kind.Module m.state)) ∙ i))) (kind_fits kind.Module kind.Module m.state x (c x) (fits x)))
      (λ x i. op_call_fits x (sym (ap (is_in x) (names_in kind.Module m.state)) ∙ i))

  op_enters : Fits (op_scope m o) (begun o.values o.results c args rs)
  unfolding own
  op_enters = record { names = op_own_fits; parts = refl }

-- what is in a filtered list passes the test
in_filtered : (test : Name → Bool) (frame : List Name) (x : Name) → is_in x (filter test frame) ≡ true → (is_in x frame ≡ true) × (test x ≡ true)
in_filtered test [] x i = absurd (true≢false (sym i))
in_filtered test (y ∷ frame) x i = go (test y) refl i (in_filtered test frame x)
  where
    go : (b : Bool) → test y ≡ b → is_in x (filter test (y ∷ frame)) ≡ true → (is_in x (filter test frame) ≡ true → (is_in x frame ≡ true) × (test x ≡ true)) → (is_in x (y ∷ frame) ≡ true) × (test x ≡ true)
    go true t i ih =
        either ((is_in x (y ∷ frame) ≡ true) × (test x ≡ true)) (bytes_eq x y) (is_in x (filter test frame)) (λ e. (left_is_true (bytes_eq x y) _ e, ap test (same_bytes x y e) ∙ t)) (λ j. let r = ih j in (right_is_true (bytes_eq x y) _ r.0, r.1))
        (sym (ap (λ b. is_in x (if b then y ∷ filter test frame else filter test frame)) t) ∙ i)
    go false t i ih = let r = ih (sym (ap (λ b. is_in x (if b then y ∷ filter test frame else filter test frame)) t) ∙ i) in (right_is_true (bytes_eq x y) _ r.0, r.1)

-- and what passes the test in the list is in it
filtered_in : (test : Name → Bool) (frame : List Name) (x : Name) → is_in x frame ≡ true → test x ≡ true → is_in x (filter test frame) ≡ true
filtered_in test [] x i t = absurd (true≢false (sym i))
filtered_in test (y ∷ frame) x i t = go (test y) refl (bytes_eq x y) refl i (λ j. filtered_in test frame x j t)
  where
    go : (b : Bool) → test y ≡ b → (c : Bool) → bytes_eq x y ≡ c → (c || is_in x frame) ≡ true → (is_in x frame ≡ true → is_in x (filter test frame) ≡ true) → is_in x (filter test (y ∷ frame)) ≡ true
    go true k true e j ih = ap (λ b. is_in x (if b then y ∷ filter test frame else filter test frame)) k ∙ left_is_true (bytes_eq x y) _ e
    go true k false e j ih = ap (λ b. is_in x (if b then y ∷ filter test frame else filter test frame)) k ∙ right_is_true (bytes_eq x y) _ (ih j)
    go false k true e j ih = absurd (true≢false (sym t ∙ (ap test (same_bytes x y e) ∙ k)))
    go false k false e j ih = ap (λ b. is_in x (if b then y ∷ filter test frame else filter test frame)) k ∙ ih j

-- each of names that are listed is in the list
listed_each : (frame names : List Name) → each_is (is_listed frame) names ≡ true → (x : Name) → is_in x names ≡ true → is_in x frame ≡ true
listed_each frame [] h x i = absurd (true≢false (sym i))
listed_each frame (y ∷ names) h x i =
    either (is_in x frame ≡ true) (bytes_eq x y) (is_in x names) (λ e. ap (λ z. is_in z frame) (same_bytes x y e) ∙ (sym (listed_in frame y) ∙ (and_parts (is_listed frame y) _ h).0)) (listed_each frame names (and_parts (is_listed frame y) _ h).1 x) i

-- what a call of an operation is to show
abbrev owed_for : Context → Spec → Module → Oper → List Term → List Name → List Sequent
owed_for context w m o args names =
    sequent_over context.scope (w.pre ∷ []) (definedness_of context.scope args ∷ [])
    ∷ sequent_over context.scope (w.pre ∷ []) (called_pre o.values args o.spec.pre ∷ [])
    ∷ sequent_over context.scope (initial_pre w ∷ operated_post w m o args names ∷ []) (left_post w m o names ∷ []) ∷ []

module _ (context : Context) (heads : List Head) (w : Spec) (args : List Term) (names : List Name) (m : Module) (o : Oper) (place : ℕ) (ready : IsReady context.scope heads w) (fo : IsFormedOper m o) (results_differ : is_twice (names_of o.results) ≡ false)
    (opened : (x : Name) → is_in x (names_of m.state) ≡ true → find (has_name x) context.scope ≡ find (has_name x) (module_entries m.state))
    (tests : Operating context w args names m o place) (E : Table) (valid : Each (Valid E.library) (owed_for context w m o args names)) where
  abbrev scope : List Entry
  scope = context.scope

  abbrev A : List Name
  A = names_of m.state

  abbrev V : List Name
  V = names_of o.values

  abbrev Z : List Name
  Z = names_of o.results

  abbrev definitions : List Definition
  definitions = reverse E.library

  args_for : ArgsFor scope o.values args
  args_for = args_sorted scope o.values o.results args tests.known tests.args_fit

  sorts : Each (λ t. (s : Sort) × (sort_in scope [] t ≡ Some s)) args
  sorts = args_have_sorts scope o.values args args_for

  outside : Each (λ t. term_outside [] t ≡ false) args
  outside = each_outside args tests.no_initial

  not_result : (x : Name) → is_in x V ≡ true → is_in x Z ≡ false
  not_result x i = fo.differ x i

  not_value : (x : Name) → is_in x Z ≡ true → is_in x V ≡ false
  not_value x i = false_from_ne_true (is_in x V) (λ j. true≢false (sym i ∙ not_result x j))

  value_apart : (x : Name) → is_in x V ≡ true → is_in x A ≡ false
  value_apart x i = (fo.new x (in_left V Z x i)).0

  result_apart : (x : Name) → is_in x Z ≡ true → is_in x A ≡ false
  result_apart x i = (fo.new x (in_right V Z x i)).0

  abstract_value : (x : Name) → is_in x A ≡ true → is_in x V ≡ false
  abstract_value x i = false_from_ne_true (is_in x V) (λ j. true≢false (sym i ∙ value_apart x j))

  abstract_result : (x : Name) → is_in x A ≡ true → is_in x Z ≡ false
  abstract_result x i = false_from_ne_true (is_in x Z) (λ j. true≢false (sym i ∙ result_apart x j))

  off_results : (x : Name) → is_in x w.frame ≡ false → is_in x names ≡ false
  off_results = off_names scope w.frame names tests.in_frame

  -- names of results are not of kind module, so they are no abstract names
  names_apart : (x : Name) → is_in x names ≡ true → is_in x A ≡ false
  names_apart x i = false_from_ne_true (is_in x A) (λ j. true≢false (sym (module_kind x j) ∙ assignable names tests.in_frame i))
    where
      assignable : (ys : List Name) → each_is (is_assignable scope w.frame) ys ≡ true → is_in x ys ≡ true → is_kind is_module_kind scope x ≡ false
      assignable [] h i = absurd (true≢false (sym i))
      assignable (y ∷ ys) h i =
          either (is_kind is_module_kind scope x ≡ false) (bytes_eq x y) (is_in x ys)
          (λ e. ap (is_kind is_module_kind scope) (same_bytes x y e) ∙ not_true (is_kind is_module_kind scope y) (and_parts (is_listed w.frame y) _ (and_parts (is_assignable scope w.frame y) _ h).0).1)
          (assignable ys (and_parts (is_assignable scope w.frame y) _ h).1) i
        where
          not_true : (b : Bool) → not b ≡ true → b ≡ false
          not_true true e = absurd (true≢false (sym e))
          not_true false e = refl

      module_kind : (x : Name) → is_in x A ≡ true → is_kind is_module_kind scope x ≡ true
      module_kind x j = ap (is_entry_of is_module_kind) (opened x j) ∙ of_entries m.state x j
        where
          of_entries : (ps : List Param) (x : Name) → is_in x (names_of ps) ≡ true → is_entry_of is_module_kind (find (has_name x) (module_entries ps)) ≡ true
          of_entries [] x i = absurd (true≢false (sym i))
          of_entries (p ∷ ps) x i = go (bytes_eq x p.name) refl (bytes_eq p.name x) refl i (of_entries ps x)
            where
              go : (a : Bool) → bytes_eq x p.name ≡ a → (b : Bool) → bytes_eq p.name x ≡ b → (a || is_in x (names_of ps)) ≡ true → (is_in x (names_of ps) ≡ true → is_entry_of is_module_kind (find (has_name x) (module_entries ps)) ≡ true)
                  → is_entry_of is_module_kind (find (has_name x) (module_entries (p ∷ ps))) ≡ true
              go a e true k i ih = rw k refl
              go true e false k i ih = absurd (true≢false (sym (bytes_same p.name x (sym (same_bytes x p.name e))) ∙ k))
              go false e false k i ih = rw k (ih i)

  -- values are not in the frame of the operation
  value_kept : (x : Name) → is_in x V ≡ true → is_in x o.spec.frame ≡ false
  value_kept x i = false_from_ne_true (is_in x o.spec.frame) (λ j. true≢false (sym (fo.frame x j (value_apart x i)) ∙ not_result x i))

  -- an abstract name of the operation's frame is in the frame
  abstract_in : (x : Name) → is_in x A ≡ true → is_in x o.spec.frame ≡ true → is_in x (abstract_frame m o) ≡ true
  abstract_in x i j = filtered_in (λ y. is_listed A y) o.spec.frame x j (listed_in A x ∙ i)

  frame_in : (x : Name) → is_in x A ≡ true → is_in x o.spec.frame ≡ true → is_in x w.frame ≡ true
  frame_in x i j = listed_each w.frame (abstract_frame m o) tests.frame x (abstract_in x i j)

  module _ (s : State) (fit : FitsMap scope s.own) (before : Holds E.library w.pre s s) where
    given_args : ValuesFor o.values (values args s)
    given_args = args_values scope s fit o.values args args_for

    pub op_defined : AllDefined args s
    op_defined =
        each_all _ args (defined_by scope E.library s.own s.own fit fit args sorts
        (stable E.library (definedness_of scope args) s s (follows_of scope E w.pre (definedness_of scope args) valid.0 s fit before)))

    -- the abstract state of the module
    abbrev held_here : Map
    held_here = only A s.own

    held_at : (x : Name) → is_in x A ≡ true → held_here x ≡ s.own x
    held_at x i = ap (λ b. if b then s.own x else None) i

    held_fits : FitsMap (module_entries m.state) held_here
    held_fits x = go (is_in x A) refl
      where
        go : (b : Bool) → is_in x A ≡ b → FitsEntry (find (has_name x) (module_entries m.state)) (held_here x)
        go true i = subst (FitsEntry (find (has_name x) (module_entries m.state))) (sym (held_at x i)) (subst (λ e. FitsEntry e (s.own x)) (opened x i) (fit x))
        go false i =
            subst₂ FitsEntry (sym (found_out (module_entries m.state) [] x (ap (is_in x) (names_in kind.Module m.state) ∙ i)) ∙ ap (find (has_name x)) (none_behind (module_entries m.state))) (sym (ap (λ b. if b then s.own x else None) i)) tt

    module _ (rs : List (Option Value)) (hr : ValuesFor o.results rs) where
      abbrev a : State
      a = begun o.values o.results held_here (values args s) rs

      a_abstract : (x : Name) → is_in x A ≡ true → a.own x ≡ s.own x
      a_abstract x i = put_all_off Z rs (put_all V (values args s) held_here) x (abstract_result x i) ∙ (put_all_off V (values args s) held_here x (abstract_value x i) ∙ held_at x i)

      at_value : (x : Name) → is_in x V ≡ true → a.own x ≡ put_all V (values args s) empty x
      at_value x i = put_all_off Z rs (put_all V (values args s) held_here) x (not_result x i) ∙ put_all_on V (values args s) held_here empty x i

      begun_fits : Fits (op_scope m o) a
      begun_fits = op_enters m o fo held_here (values args s) rs given_args hr held_fits

      begun_pre : Holds E.library o.spec.pre a a
      begun_pre =
          (spoken_same (V ++ A) [] o.spec.pre fo.pre definitions (in_states s.own (put_all V (values args s) s.own)) (in_states a.own a.own)
          (λ x i. ap given (of_joined (put_all V (values args s) s.own x ≡ a.own x) V A x (λ j. put_all_on V (values args s) s.own empty x j ∙ sym (at_value x j))
          (λ j. put_all_off V (values args s) s.own x (abstract_value x j) ∙ sym (a_abstract x j)) i)) (λ x i. absurd (true≢false (sym i))) [] []).0
          ((followed_holds E.library o.spec.pre V args (args_long scope o.values args args_for) (each_map (λ t. (q : Sort) × (sort_in scope [] t ≡ Some q)) (λ t. is_closed t ≡ true) (λ t q. sorted_closed scope t q.0 q.1) args sorts) s.own s
          (each_same args) (λ x i. absurd (fo.pre.constant x i))).0
          (stable E.library (called_pre o.values args o.spec.pre) s s (follows_of scope E w.pre (called_pre o.values args o.spec.pre) valid.1.0 s fit before)))
        where
          each_same : (ts : List Term) → Each (λ t. value s.own s.own [] t ≡ value s.own s.own [] t) ts
          each_same [] = tt
          each_same (t ∷ ts) = (refl, each_same ts)

      module _ (b : State) (within : Within o.spec.frame a b) (after : Holds E.library o.spec.post a b) where
        abbrev vs : List (Option Value)
        vs = read_all Z b.own

        abbrev mixed : Map
        mixed x = if is_in x A then b.own x else put_all names vs s.own x

        abbrev t : State
        t = with_own s mixed

        t_abstract : (x : Name) → is_in x A ≡ true → t.own x ≡ b.own x
        t_abstract x i = ap (λ c. if c then b.own x else put_all names vs s.own x) i

        t_other : (x : Name) → is_in x A ≡ false → t.own x ≡ put_all names vs s.own x
        t_other x i = ap (λ c. if c then b.own x else put_all names vs s.own x) i

        end_fits : Fits (op_scope m o) b
        end_fits = without_parts (op_scope m o) b (within_fits (op_scope m o) o.spec.frame a b (with_no_parts (op_scope m o) a begun_fits) within)

        given_results : ValuesFor o.results vs
        given_results = values_on o.results b.own results_differ on
          where
            on : (x : Name) → is_in x Z ≡ true → FitsEntry (find (has_name x) (entries kind.Module o.results)) (b.own x)
            on x i =
                kind_fits kind.Outcome kind.Module o.results x (b.own x)
                (subst (λ e. FitsEntry e (b.own x)) (found_out (module_entries m.state) (entries kind.Value o.values ++ entries kind.Outcome o.results) x (ap (is_in x) (names_in kind.Module m.state) ∙ result_apart x i)
                ∙ found_out (entries kind.Value o.values) (entries kind.Outcome o.results) x (ap (is_in x) (names_in kind.Value o.values) ∙ not_value x i)) (end_fits.names x))

        after_fits : FitsBeside s.part scope t
        after_fits = record { names = λ x. go x (is_in x A) refl; parts = refl }
          where
            go : (x : Name) (c : Bool) → is_in x A ≡ c → FitsEntry (find (has_name x) scope) (t.own x)
            go x true i =
                subst₂ FitsEntry (sym (opened x i)) (sym (t_abstract x i))
                (subst (λ e. FitsEntry e (b.own x)) (found_in (module_entries m.state) (entries kind.Value o.values ++ entries kind.Outcome o.results) x (ap (is_in x) (names_in kind.Module m.state) ∙ i)) (end_fits.names x))
            go x false i = subst (FitsEntry (find (has_name x) scope)) (sym (t_other x i)) (names_take scope o.results names vs s.own tests.names_fit given_results fit x)

        -- an abstract name that the operation leaves is as it was
        left_abstract : (x : Name) → is_in x A ≡ true → is_in x o.spec.frame ≡ false → b.own x ≡ s.own x
        left_abstract x i off = within.off x off ∙ a_abstract x i

        kept : (x : Name) → is_in x w.frame ≡ false → t.own x ≡ s.own x
        kept x off = go (is_in x A) refl
          where
            go : (c : Bool) → is_in x A ≡ c → t.own x ≡ s.own x
            go true i = t_abstract x i ∙ left_abstract x i (false_from_ne_true (is_in x o.spec.frame) (λ j. true≢false (sym (frame_in x i j) ∙ off)))
            go false i = t_other x i ∙ put_all_off names vs s.own x (off_results x off)

        pub op_within : Within w.frame s t
        op_within = within_by_fits scope w.frame s t (record { names = fit; parts = refl }) after_fits kept

        abbrev looks : Looks
        looks = in_states s.own t.own

        -- an argument, said of the state before, has after the call the value that it had before
        arg_before : (u : Term) (q : Sort) → sort_in scope [] u ≡ Some q → term_outside [] u ≡ false → value_of looks [] (replaced_term (map to_initial w.frame) u) ≡ value s.own s.own [] u
        arg_before u q sorted free =
            replacement_keeps_values (map to_initial w.frame) u ((initial_changes_are_closed w.frame).0) looks []
            ∙ term_agrees u (changed_looks (map to_initial w.frame) looks) (in_states s.own s.own) agree
          where
            variable : (x : Name) (c : Bool) → is_in x w.frame ≡ c → changed_looks (map to_initial w.frame) looks form.Variable x ≡ value_in s.own x
            variable x true i = mapped_in to_initial form.Variable looks (λ x y. refl) w.frame x i ∙ plain_value looks [] form.Initial x
            variable x false i = mapped_out to_initial form.Variable looks (λ x y. refl) w.frame x i ∙ ap given (kept x i)

            constant : (x : Name) → stands_in_term form.Constant x u ≡ true → (c : Bool) → is_in x w.frame ≡ c → value_in t.own x ≡ value_in s.own x
            constant x k true i =
                absurd (names_of_terms_have_one_kind scope u [] q (slot.Var x ∷ []) sorted (and_from _ _ (ready.variables x i) refl) x (right_is_true (stands_in_term form.Variable x u) _ (left_is_true (bytes_eq x x) _ (bytes_same x x refl)))
                (left_is_true (stands_in_term form.Constant x u) _ k))
            constant x k false i = ap given (kept x i)

            agree : (g : Form) (x : Name) → stands_in_term g x u ≡ true → changed_looks (map to_initial w.frame) looks g x ≡ in_states s.own s.own g x
            agree form.Variable x k = variable x (is_in x w.frame) refl
            agree form.Initial x k = absurd (none_in_term x u free k)
            agree form.Constant x k = mapped_past to_initial form.Constant looks (λ x y. refl) w.frame x ∙ constant x k (is_in x w.frame) refl

        abbrev befores : List Term
        befores = args_before w.frame args

        befores_valued : (ts : List Term) → Each (λ t. (q : Sort) × (sort_in scope [] t ≡ Some q)) ts → Each (λ t. term_outside [] t ≡ false) ts → Valued looks [] (args_before w.frame ts) (values ts s)
        befores_valued [] q o = tt
        befores_valued (u ∷ ts) q o = (arg_before u q.0.0 q.0.1 o.0, befores_valued ts q.1 o.1)

        befores_closed : (ts : List Term) → Each (λ t. (q : Sort) × (sort_in scope [] t ≡ Some q)) ts → Each (λ t. is_closed t ≡ true) (args_before w.frame ts)
        befores_closed [] q = tt
        befores_closed (u ∷ ts) q =
            (sorted_closed scope (replaced_term (map to_initial w.frame) u) q.0.0 (sort_kept scope scope (map to_initial w.frame) (initial_sorts scope w.frame) 0 [] u q.0.0 q.0.1 ∙ q.0.1), befores_closed ts q.1)

        befores_long : (ts : List Term) → length (args_before w.frame ts) ≡ length ts
        befores_long [] = refl
        befores_long (u ∷ ts) = ap suc (befores_long ts)

        -- names of results are no abstract names, and have after the call what the body ended with
        abbrev vars : List Term
        vars = map (λ x. v.Var x) names

        vars_valued : (xs : List Name) → ((x : Name) → is_in x xs ≡ true → is_in x A ≡ false) → Valued looks [] (map (λ x. v.Var x) xs) (read_all xs (put_all names vs s.own))
        vars_valued [] off = tt
        vars_valued (x ∷ xs) off =
            (plain_value looks [] form.Variable x ∙ ap given (t_other x (off x (left_is_true (bytes_eq x x) _ (bytes_same x x refl)))), vars_valued xs (λ y i. off y (right_is_true (bytes_eq y x) _ i)))

        names_same : length names ≡ length vs
        names_same = names_long scope o.results names tests.names_fit ∙ sym (long_read Z b.own)

        results_valued : Valued looks [] vars vs
        results_valued = subst (Valued looks [] vars) (read_put names vs s.own names_same tests.once) (vars_valued names (λ x i. names_apart x i))

        vars_closed : (xs : List Name) → Each (λ u. is_closed u ≡ true) (map (λ x. v.Var x) xs)
        vars_closed [] = tt
        vars_closed (x ∷ xs) = (ap is_closed (sym (v.rolls-Var x)) ∙ fold-roll-Term Bool closed_step (Term-F.Var x), vars_closed xs)

        abbrev left_names : List Name
        left_names = filter (λ x. is_listed A x) (left_by w m o names)

        abbrev rest : List Change
        rest = map to_initial left_names

        abbrev puts : List Change
        puts = set_to Z vars ++ rest

        results_long : length Z ≡ length vars
        results_long = sym (long_map names ∙ names_long scope o.results names tests.names_fit)

        abbrev based : Map
        based y = if is_in y left_names then s.own y else t.own y

        put_rest : (y : Name) → changed_looks rest looks form.Variable y ≡ value_in based y
        put_rest y = go (is_in y left_names) refl
          where
            go : (c : Bool) → is_in y left_names ≡ c → changed_looks rest looks form.Variable y ≡ value_in based y
            go true i = mapped_in to_initial form.Variable looks (λ x y. refl) left_names y i ∙ (plain_value looks [] form.Initial y ∙ ap given (sym (ap (λ c. if c then s.own y else t.own y) i)))
            go false i = mapped_out to_initial form.Variable looks (λ x y. refl) left_names y i ∙ ap given (sym (ap (λ c. if c then s.own y else t.own y) i))

        put_results : (y : Name) → changed_looks puts looks form.Variable y ≡ value_in (put_all Z vs based) y
        put_results y = set_value looks rest Z vars vs based results_long results_valued y (put_rest y)

        put_args : (y : Name) → changed_looks (set_to V befores ++ puts) looks form.Variable y ≡ value_in (put_all V (values args s) (put_all Z vs based)) y
        put_args y = set_value looks puts V befores (values args s) (put_all Z vs based) (args_long scope o.values args args_for ∙ sym (befores_long args)) (befores_valued args sorts outside) y (put_results y)

        -- an abstract name that is left is as it was, and another is what it is now
        based_abstract : (x : Name) → is_in x A ≡ true → based x ≡ b.own x
        based_abstract x i = go (is_in x left_names) refl
          where
            go : (c : Bool) → is_in x left_names ≡ c → based x ≡ b.own x
            go false j = ap (λ c. if c then s.own x else t.own x) j ∙ t_abstract x i
            go true j =
                ap (λ c. if c then s.own x else t.own x) j
                ∙ sym (left_abstract x i (false_from_ne_true (is_in x o.spec.frame) (λ k.
                true≢false (sym (in_filtered (λ y. is_listed A y) (left_by w m o names) x j).0 ∙ taken_out (names ++ abstract_frame m o) w.frame x (in_right names (abstract_frame m o) x (abstract_in x i k))))))

        operated_holds : Holds E.library (operated_post w m o args names) s t
        operated_holds =
            subst (λ cs. Holds E.library (replaced_formula cs o.spec.post) s t) (sym (joined_thrice (set_to V befores) (set_to Z vars) rest))
            ((bridge (set_to V befores ++ puts) o.spec.post definitions looks (in_states a.own b.own) closed same).1 after)
          where
            closed : are_closed (set_to V befores ++ puts) ≡ true
            closed = set_closed looks puts V befores (befores_closed args sorts) (set_closed looks rest Z vars (vars_closed names) ((initial_changes_are_closed left_names).0))

            on_call : (x : Name) → is_in x (V ++ Z) ≡ true → changed_looks (set_to V befores ++ puts) looks form.Variable x ≡ value_in b.own x
            on_call x k =
                of_joined (changed_looks (set_to V befores ++ puts) looks form.Variable x ≡ value_in b.own x) V Z x
                (λ i. put_args x ∙ ap given (put_all_on V (values args s) (put_all Z vs based) empty x i ∙ (sym (at_value x i) ∙ sym (within.off x (value_kept x i)))))
                (λ i. put_args x ∙ ap given (put_all_off V (values args s) (put_all Z vs based) x (not_value x i) ∙ put_read Z b.own based x i)) k

            on_abstract : (x : Name) → is_in x A ≡ true → changed_looks (set_to V befores ++ puts) looks form.Variable x ≡ value_in b.own x
            on_abstract x i =
                put_args x ∙ ap given (put_all_off V (values args s) (put_all Z vs based) x (abstract_value x i) ∙ (put_all_off Z vs based x (abstract_result x i) ∙ based_abstract x i))

            past : (x : Name) → changed_looks (set_to V befores ++ puts) looks form.Initial x ≡ value_in s.own x
            past x = set_past looks puts form.Initial (λ x y. refl) V befores x ∙ (set_past looks rest form.Initial (λ x y. refl) Z vars x ∙ mapped_past to_initial form.Initial looks (λ x y. refl) left_names x)

            same : (g : Form) (x : Name) → stands_in g x o.spec.post ≡ true → changed_looks (set_to V befores ++ puts) looks g x ≡ in_states a.own b.own g x
            same form.Variable x k = of_joined (changed_looks (set_to V befores ++ puts) looks form.Variable x ≡ value_in b.own x) (V ++ Z) A x (on_call x) (on_abstract x) (fo.post.variable x k)
            same form.Initial x k = past x ∙ ap given (sym (a_abstract x (fo.post.initial x k)))
            same form.Constant x k = absurd (fo.post.constant x k)

        -- of the frame only the results' names and the operation's abstract names have changed
        unchanged : Holds E.library (left_post w m o names) s t → Holds E.library w.post s t
        unchanged = (bridge (map to_initial (left_by w m o names)) w.post definitions looks looks ((initial_changes_are_closed (left_by w m o names)).0) same).0
          where
            not_taken : (x : Name) → is_in x (left_by w m o names) ≡ true → is_in x (names ++ abstract_frame m o) ≡ false
            not_taken x i = false_from_ne_true (is_in x (names ++ abstract_frame m o)) (λ j. true≢false (sym i ∙ taken_out (names ++ abstract_frame m o) w.frame x j))

            stays : (x : Name) → is_in x (left_by w m o names) ≡ true → (c : Bool) → is_in x A ≡ c → t.own x ≡ s.own x
            stays x i true j = t_abstract x j ∙ left_abstract x j (false_from_ne_true (is_in x o.spec.frame) (λ k. true≢false (sym (in_right names (abstract_frame m o) x (abstract_in x j k)) ∙ not_taken x i)))
            stays x i false j = t_other x j ∙ put_all_off names vs s.own x (false_from_ne_true (is_in x names) (λ k. true≢false (sym (in_left names (abstract_frame m o) x k) ∙ not_taken x i)))

            variable : (x : Name) (c : Bool) → is_in x (left_by w m o names) ≡ c → changed_looks (map to_initial (left_by w m o names)) looks form.Variable x ≡ value_in t.own x
            variable x true i = mapped_in to_initial form.Variable looks (λ x y. refl) (left_by w m o names) x i ∙ (plain_value looks [] form.Initial x ∙ ap given (sym (stays x i (is_in x A) refl)))
            variable x false i = mapped_out to_initial form.Variable looks (λ x y. refl) (left_by w m o names) x i

            same : (g : Form) (x : Name) → stands_in g x w.post ≡ true → changed_looks (map to_initial (left_by w m o names)) looks g x ≡ looks g x
            same form.Variable x k = variable x (is_in x (left_by w m o names)) refl
            same form.Initial x k = mapped_past to_initial form.Initial looks (λ x y. refl) (left_by w m o names) x
            same form.Constant x k = mapped_past to_initial form.Constant looks (λ x y. refl) (left_by w m o names) x

        pub op_post : Holds E.library w.post s t
        op_post =
            stable E.library w.post s t (λ n.
            valid_follows E.library scope (initial_pre w ∷ operated_post w m o args names ∷ []) (left_post w m o names ∷ []) valid.1.1.0 s.own t.own fit after_fits.names
            ((initial_holds E.library w.pre s.own t.own w.frame kept (constants_off scope heads w.pre ready.pre.1 w.frame ready.variables)).1 before, (operated_holds, tt)) ((λ c. n (unchanged c)), tt))

    module _ (k : ℕ) (name : Name) (meets : OpMeets E m o place) (same_name : m.name ≡ name) where
      abbrev d : ModCode
      d = meets.entry

      abbrev e : ProcCode
      e = meets.proc

      found : find_module name E.modules ≡ Some d
      found = subst (λ n. find_module n E.modules ≡ Some d) same_name meets.found

      -- the state of the module that is held
      as_held : held E.is_concrete d s ≡ held_here
      as_held = (λ i. held (meets.abstract i) d s) ∙ (λ i. only (names_of (meets.state_is i)) s.own)

      as_begun : (rs : List (Option Value)) → begun e.values e.results (held E.is_concrete d s) (values args s) rs ≡ begun o.values o.results held_here (values args s) rs
      as_begun rs = λ i. begun (meets.values_are i) (meets.results_are i) (as_held i) (values args s) rs

      as_after : (b : State) → hold E.is_concrete d b.own (returned e names b s) ≡ with_own s (λ x. if is_in x A then b.own x else put_all names (read_all Z b.own) s.own x)
      as_after b =
          (λ i. hold (meets.abstract i) d b.own (returned e names b s))
          ∙ (λ i. with_own s (λ x. if is_in x (names_of (meets.state_is i)) then b.own x else put_all names (read_all (names_of (meets.results_are i)) b.own) s.own x))

      abbrev Met : State → Type 0
      Met a = (j : ℕ) × Sure E place j e.body a × ((t : State) → MayEnd E place j e.body a t → Within o.spec.frame a t × Holds E.library o.spec.post a t)

      met : (rs : List (Option Value)) → ValuesFor o.results rs → Met (begun o.values o.results held_here (values args s) rs)
      met rs hr = meets.meets (begun o.values o.results held_here (values args s) rs) (begun_fits rs hr) (begun_pre rs hr)

      result_values : (rs : List (Option Value)) → ValuesFor e.results rs → ValuesFor o.results rs
      result_values rs hr = subst (λ ps. ValuesFor ps rs) meets.results_are hr

      op_sure : Sure E context.order k (prog.OpCall name o.name args names) s
      op_sure = (
        op_defined,
        here_some (find_module name E.modules) d (λ d. IsSomeAnd (find_proc o.name d.operations) (λ e. (a : State) → Begins (held E.is_concrete d s) e (values args s) a → (bodies_before E context.order).sure d.place e.body a)) found
            (here_some (find_proc o.name d.operations) e (λ e. (a : State) → Begins (held E.is_concrete d s) e (values args s) a → (bodies_before E context.order).sure d.place e.body a) meets.found_proc
            (λ a y. subst (λ z. (bodies_before E context.order).sure z e.body a) (sym meets.place_is)
            (subst (λ z. (bodies_before E context.order).sure place e.body z) (sym (y.2 ∙ as_begun y.0)) (let r = met y.0 (result_values y.0 y.1) in
            sure_before E context.order place e.body (begun o.values o.results held_here (values args s) y.0) earlier (r.0, r.1))))),
      )
        where
          earlier : place < context.order
          earlier = ltb-true place context.order tests.earlier

      op_ends : (t : State) → MayEnd E context.order k (prog.OpCall name o.name args names) s t → Within w.frame s t × Holds E.library w.post s t
      op_ends t x =
          let x1 = some_here (find_module name E.modules) d (λ d. IsSomeAnd (find_proc o.name d.operations) (λ e. (a b : State) × Begins (held E.is_concrete d s) e (values args s) a × (bodies_before E context.order).ends d.place e.body a b
          × (t ≡ hold E.is_concrete d b.own (returned e names b s)))) found x in
          let y = some_here (find_proc o.name d.operations) e (λ e. (a b : State) × Begins (held E.is_concrete d s) e (values args s) a × (bodies_before E context.order).ends d.place e.body a b
          × (t ≡ hold E.is_concrete d b.own (returned e names b s))) meets.found_proc x1 in
          let rs = y.2.0 in
          let hr = result_values rs y.2.1 in
          let a = begun o.values o.results held_here (values args s) rs in
          let r = met rs hr in
          let end = (before_ends E context.order d.place e.body y.0 y.1 y.3).1 in
          let end_here : MayEnd E place end.0 e.body a y.1 = subst (λ z. MayEnd E place end.0 e.body z y.1) (y.2.2 ∙ as_begun rs) (subst (λ z. MayEnd E z end.0 e.body y.0 y.1) meets.place_is end.1) in
          let q = r.2 y.1 (ends_of_any E place e.body r.0 end.0 a y.1 r.1 end_here) in
          subst (λ t. Within w.frame s t × Holds E.library w.post s t) (sym (y.4 ∙ as_after y.1)) (op_within rs hr y.1 q.0 q.1, op_post rs hr y.1 q.0 q.1)

      pub op_better : Sure E context.order k (prog.OpCall name o.name args names) s × ((t : State) → MayEnd E context.order k (prog.OpCall name o.name args names) s t → Within w.frame s t × Holds E.library w.post s t)
      op_better = (op_sure, op_ends)

pub operations_are_sound : OperationsAreSound
operations_are_sound context heads w name args names m o place a ready fo results_differ opened same_name found law fixed E k kids meets valid =
    let r = op_tests context w name o.name args names m o place a found law in
    let valid' : Each (Valid E.library) (owed_for context w m o args names) = subst (λ (a : Applied). Each (Valid E.library) a.obligations) r.1 valid in
    subst (λ (a : Applied). RefinesWhere FitsContext fixed E context.order k context (prog.Spec w) (fill kids a.skeleton)) (sym r.1)
    (λ s fit has before. op_better context heads w args names m o place ready fo results_differ opened r.0 E valid' s fit.names before k name meets same_name)
