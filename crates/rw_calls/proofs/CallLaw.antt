-- The law of calls is sound.
use Rattle.std.proofs.Common.{◌≡◌, ◌<◌, ℕ, suc, Bool, true, false, ◌||◌, not, List, [], ◌∷◌, ◌++◌, map, find, length, reverse, Option, Some, inl, inr, refl, sym, ap, ◌∙◌, subst, true≢false, lt_irrefl}
use Rattle.std.specs.Prelude.{bytes_eq}
use Rattle.std.proofs.lemmas.Bool.{and_from, and_parts, false_from_ne_true, ltb-true, or_parts}
use Rattle.rw_terms.specs.declared.scope.Entry.{Entry}
use Rattle.rw_terms.specs.declared.scope.Head.{Head}
use Rattle.rw_terms.specs.declared.scope.Kind.TheVariants as kind
use Rattle.rw_terms.specs.declared.term.Sort.{Sort}
use Rattle.rw_terms.specs.declared.term.Term.{Term}
use Rattle.rw_terms.specs.declared.term.Term.TheVariants as v
use Rattle.rw_terms.specs.declared.term.Term.TheOpen.{Term-F}
use Rattle.rw_terms.specs.declared.term.Term.TheFolds.{fold-roll-Term}
use Rattle.rw_terms.specs.Scopes.{has_name}
use Rattle.rw_terms.specs.Sorts.{variable_sort}
use Rattle.rw_terms.specs.Rules.{sort_in}
use Rattle.rw_terms.specs.State.{Value, given, value_in, FitsEntry, State as Map, Fits as FitsMap}
use Rattle.rw_terms.specs.Value.{value}
use Rattle.rw_terms.specs.Truth.{Definition}
use Rattle.rw_terms.specs.Validity.{Each, Valid}
use Rattle.rw_terms.proofs.Restricted.{valid_follows}
use Rattle.rw_faults.specs.Initial.{is_listed, is_twice, term_outside, terms_outside}
use Rattle.rw_subst.specs.declared.slot.Form.{Form}
use Rattle.rw_subst.specs.declared.slot.Form.TheVariants as form
use Rattle.rw_subst.specs.declared.slot.Slot.TheVariants as slot
use Rattle.rw_subst.specs.declared.slot.Change.{Change}
use Rattle.rw_subst.specs.Closed.{closed_step, is_closed, are_closed}
use Rattle.rw_subst.specs.Definedness.{definedness_of}
use Rattle.rw_subst.specs.Looks.{Looks, value_of, changed_looks, in_states}
use Rattle.rw_subst.specs.Replaced.{replaced_term, to_initial}
use Rattle.rw_subst.specs.Slots.{changed}
use Rattle.rw_subst.specs.Stands.{stands_in_term, stands_in}
use Rattle.rw_subst.proofs.ClosedTerms.{plain_value}
use Rattle.rw_subst.proofs.KindLemmas.{names_of_terms_have_one_kind}
use Rattle.rw_subst.proofs.Replacing.{replacement_keeps_values, initial_changes_are_closed}
use Rattle.rw_programs.specs.declared.prog.Param.{Param}
use Rattle.rw_programs.specs.declared.prog.ProcCode.{ProcCode}
use Rattle.rw_programs.specs.declared.prog.Spec.{Spec}
use Rattle.rw_programs.specs.declared.prog.Prog.TheVariants as prog
use Rattle.rw_programs.specs.declared.applied.Context.{Context}
use Rattle.rw_programs.specs.declared.applied.Applied.{Applied}
use Rattle.rw_programs.specs.State.{Name, State, Fits, Holds, Within, empty, is_in, put_all, read_all, names_of, with_own, ValuesFor}
use Rattle.rw_programs.specs.Tables.{Table, find_proc, Begins, returned}
use Rattle.rw_programs.specs.Meaning.{bodies, MayEnd, Sure, AllDefined, values}
use Rattle.rw_programs.specs.Refine.{RefinesGiven}
use Rattle.rw_programs.proofs.Frames.{put_all_off, within_fits}
use Rattle.rw_programs.proofs.Skipping.{stable}
use Rattle.rw_meaning.specs.Filling.{fill}
use Rattle.rw_meaning.specs.Calls.{CallEnds}
use Rattle.rw_meaning.proofs.CallRows.{call_sure_of, call_ends_to}
use Rattle.rw_meaning.proofs.Grow.{ends_of_any}
use Rattle.rw_meaning.proofs.Scopes.{put_all_on}
use Rattle.rw_meaning.proofs.Tests.{same_bytes, bytes_same}
use Rattle.rw_derived.specs.Causes.{each_is, is_assignable, is_kind, is_module_kind}
use Rattle.rw_derived.specs.Derived.{set_to, without, initial_pre}
use Rattle.rw_soundness.specs.Sound.{IsReady, FitsContext, RefinesWhere, FitsWith}
use Rattle.rw_soundness.proofs.Assigning.{each_map, each_all, defined_by}
use Rattle.rw_soundness.proofs.Bits.{either, listed_in}
use Rattle.rw_soundness.proofs.Bridges.{bridge, term_agrees}
use Rattle.rw_soundness.proofs.Initials.{none_in, none_in_term}
use Rattle.rw_soundness.proofs.Ready.{constants_off, initial_free, within_by_fits}
use Rattle.rw_soundness.proofs.Replaced.{KeepsSorts, sort_kept}
use Rattle.rw_soundness.proofs.Shapes.{initial_holds, followed_holds}
use Rattle.rw_soundness.proofs.Single.{follows_of}
use Rattle.rw_soundness.proofs.Sorted.{sorted_closed}
use Rattle.rw_soundness.proofs.Unchanged.{plain_sort}
use Rattle.rw_heads.specs.declared.head.ProcHead.{ProcHead}
use Rattle.rw_procs.specs.Derived.{called_pre, called_post, changed_post, args_before}
use Rattle.rw_procs.specs.Laws.{asked, promised, wanted}
use Rattle.rw_modules.specs.Heads.{entries}
use Rattle.rw_simulation.specs.Coupling.{begun}
use Rattle.rw_simulation.specs.Concrete.{Speaks}
use Rattle.rw_simulation.proofs.Chosen.{first_differs, rest_differ, values_on}
use Rattle.rw_simulation.proofs.Entered.{names_in, both_fit, found_out, values_fit, kind_fits}
use Rattle.rw_simulation.proofs.Lists.{in_joined, of_joined, taken_out}
use Rattle.rw_simulation.proofs.Link.{some_here, here_some}
use Rattle.rw_simulation.proofs.Mapped.{mapped_in, mapped_out, mapped_past}
use Rattle.rw_simulation.proofs.Speaking.{NoConstants, speaks_of}
use Rattle.rw_simulation.proofs.Spoken.{spoken_same}
use Rattle.rw_calls.specs.Sound.{proc_scope, IsFormedHead, EntryMeets, CallsAreSound, CallsAreSoundWhere, CallsAreSoundBeside}
use Rattle.rw_calls.proofs.Args.{ArgsFor, args_sorted, args_long, args_have_sorts, args_values, names_take, names_long}
use Rattle.rw_calls.proofs.Looked.{Valued, set_value, set_closed, read_put, put_read}
use Rattle.rw_calls.proofs.Tests.{Calling, call_tests}
use Rattle.rw_programs.proofs.Beside.{FitsBeside, with_no_parts, without_parts}
use Rattle.rw_terms.specs.declared.sequent.Sequent.{Sequent}
use Rattle.rw_derived.specs.Making.{sequent_over}

pub left_is_true : (a b : Bool) → a ≡ true → (a || b) ≡ true
left_is_true true b e = refl
left_is_true false b e = absurd (true≢false (sym e))

pub right_is_true : (a b : Bool) → b ≡ true → (a || b) ≡ true
right_is_true true b e = refl
right_is_true false b e = e

-- names that differ are in one of two lists alone
pub apart_lists : (xs ys : List Name) (x : Name) → is_twice (xs ++ ys) ≡ false → is_in x xs ≡ true → is_in x ys ≡ false
apart_lists [] ys x once i = absurd (true≢false (sym i))
apart_lists (z ∷ xs) ys x once i = go (bytes_eq x z) refl i (apart_lists xs ys x (rest_differ z (xs ++ ys) once))
  where
    go : (b : Bool) → bytes_eq x z ≡ b → (b || is_in x xs) ≡ true → (is_in x xs ≡ true → is_in x ys ≡ false) → is_in x ys ≡ false
    go true e k ih =
        ap (λ y. is_in y ys) (same_bytes x z e) ∙ (or_parts (is_in z xs) (is_in z ys) (sym (in_joined xs ys z) ∙ first_differs z (xs ++ ys) once)).1
    go false e k ih = ih k

pub second_once : (xs ys : List Name) → is_twice (xs ++ ys) ≡ false → is_twice ys ≡ false
second_once [] ys once = once
second_once (z ∷ xs) ys once = second_once xs ys (rest_differ z (xs ++ ys) once)

-- a name off the frame is not among names of the frame
pub off_names : (scope : List Entry) (frame names : List Name) → each_is (is_assignable scope frame) names ≡ true → (x : Name) → is_in x frame ≡ false → is_in x names ≡ false
off_names scope frame [] in_frame x off = refl
off_names scope frame (y ∷ names) in_frame x off = false_from_ne_true (is_in x (y ∷ names)) (either ⊥ (bytes_eq x y) (is_in x names) first (λ i. true≢false (sym i ∙ off_names scope frame names (and_parts (is_assignable scope frame y) _ in_frame).1 x off)))
  where
    first : bytes_eq x y ≡ true → ⊥
    first i =
        let listed = (and_parts (is_listed frame y) (not (is_kind is_module_kind scope y)) (and_parts (is_assignable scope frame y) (each_is (is_assignable scope frame) names) in_frame).0).0 in
        true≢false (sym (sym (listed_in frame y) ∙ listed) ∙ (ap (λ z. is_in z frame) (sym (same_bytes x y i)) ∙ off))

-- parameters are no constants
value_entries : (ps : List Param) → NoConstants (entries kind.Value ps)
value_entries [] = tt
value_entries (p ∷ ps) = (refl, value_entries ps)

result_entries : (ps : List Param) → NoConstants (entries kind.Outcome ps)
result_entries [] = tt
result_entries (p ∷ ps) = (refl, result_entries ps)

both_entries : (es more : List Entry) → NoConstants es → NoConstants more → NoConstants (es ++ more)
both_entries [] more h k = k
both_entries (e ∷ es) more h k = (h.0, both_entries es more h.1 k)

pub names_joined : (es more : List Entry) → map (λ e. e.name) (es ++ more) ≡ map (λ e. e.name) es ++ map (λ e. e.name) more
names_joined [] more = refl
names_joined (e ∷ es) more = ap (λ l. e.name ∷ l) (names_joined es more)

pub long_read : (xs : List Name) (m : Map) → length (read_all xs m) ≡ length xs
long_read [] m = refl
long_read (x ∷ xs) m = ap suc (long_read xs m)

pub long_map : (names : List Name) → length (map (λ x. v.Var x) names) ≡ length names
long_map [] = refl
long_map (x ∷ names) = ap suc (long_map names)

pub none_behind : {X : Type 0} (xs : List X) → xs ++ [] ≡ xs
none_behind [] = refl
none_behind (x ∷ xs) = ap (λ l. x ∷ l) (none_behind xs)

pub each_outside : (terms : List Term) → terms_outside [] terms ≡ false → Each (λ t. term_outside [] t ≡ false) terms
each_outside [] e = tt
each_outside (t ∷ terms) e = ((or_parts (term_outside [] t) (terms_outside [] terms) e).0, each_outside terms (or_parts (term_outside [] t) (terms_outside [] terms) e).1)

-- variables of the frame and their initial variables have one sort
pub initial_sorts : (scope : List Entry) (frame : List Name) → KeepsSorts scope scope (map to_initial frame)
initial_sorts scope [] g x s h b = plain_sort scope g x b ∙ h
initial_sorts scope (y ∷ frame) form.Variable x s h b = go (bytes_eq x y) refl (initial_sorts scope frame form.Variable x s h b)
  where
    go : (c : Bool) → bytes_eq x y ≡ c → sort_in scope b (changed (map to_initial frame) form.Variable x) ≡ Some s → sort_in scope b (changed (map to_initial (y ∷ frame)) form.Variable x) ≡ Some s
    go true e ih = rw e (plain_sort scope form.Initial y b ∙ (ap (variable_sort scope) (sym (same_bytes x y e)) ∙ h))
    go false e ih = rw e ih
initial_sorts scope (y ∷ frame) form.Initial x s h b = initial_sorts scope frame form.Initial x s h b
initial_sorts scope (y ∷ frame) form.Constant x s h b = initial_sorts scope frame form.Constant x s h b

-- what a call is to show
abbrev owed : Context → Spec → List Term → List Name → ProcHead → List Sequent
owed context w args names h =
    sequent_over context.scope (w.pre ∷ []) (definedness_of context.scope args ∷ [])
    ∷ sequent_over context.scope (w.pre ∷ []) (called_pre h.values args h.pre ∷ [])
    ∷ sequent_over context.scope (initial_pre w ∷ called_post w.frame h.values h.results args names h.post ∷ []) (changed_post w names ∷ []) ∷ []

module _ (context : Context) (heads : List Head) (w : Spec) (args : List Term) (names : List Name) (h : ProcHead) (place : ℕ) (ready : IsReady context.scope heads w) (formed : IsFormedHead heads h) (tests : Calling context w args names h place)
    (E : Table) (valid : Each (Valid E.library) (owed context w args names h)) where
  abbrev scope : List Entry
  scope = context.scope

  abbrev V : List Name
  V = names_of h.values

  abbrev Z : List Name
  Z = names_of h.results

  abbrev definitions : List Definition
  definitions = reverse E.library

  args_for : ArgsFor scope h.values args
  args_for = args_sorted scope h.values h.results args tests.known tests.args_fit

  sorts : Each (λ t. (s : Sort) × (sort_in scope [] t ≡ Some s)) args
  sorts = args_have_sorts scope h.values args args_for

  outside : Each (λ t. term_outside [] t ≡ false) args
  outside = each_outside args tests.no_initial

  not_result : (x : Name) → is_in x V ≡ true → is_in x Z ≡ false
  not_result x i = apart_lists V Z x formed.differ i

  not_value : (x : Name) → is_in x Z ≡ true → is_in x V ≡ false
  not_value x i = false_from_ne_true (is_in x V) (λ j. true≢false (sym i ∙ not_result x j))

  off_results : (x : Name) → is_in x w.frame ≡ false → is_in x names ≡ false
  off_results = off_names scope w.frame names tests.in_frame

  pre_speaks : Speaks (map (λ e. e.name) (entries kind.Value h.values)) [] h.pre
  pre_speaks = speaks_of (entries kind.Value h.values) heads [] h.pre formed.pre.1 formed.pre_initial (value_entries h.values)

  post_speaks : Speaks (map (λ e. e.name) (proc_scope h.values h.results)) [] h.post
  post_speaks =
      speaks_of (proc_scope h.values h.results) heads [] h.post formed.post.1 formed.post_initial (both_entries (entries kind.Value h.values) (entries kind.Outcome h.results) (value_entries h.values) (result_entries h.results))

  module _ (s : State) (fit : FitsMap scope s.own) (before : Holds E.library w.pre s s) where
    given_args : ValuesFor h.values (values args s)
    given_args = args_values scope s fit h.values args args_for

    pub call_defined : AllDefined args s
    call_defined =
        each_all _ args (defined_by scope E.library s.own s.own fit fit args sorts
        (stable E.library (definedness_of scope args) s s (follows_of scope E w.pre (definedness_of scope args) valid.0 s fit before)))

    module _ (rs : List (Option Value)) (hr : ValuesFor h.results rs) where
      abbrev a : State
      a = begun h.values h.results empty (values args s) rs

      at_value : (x : Name) → is_in x V ≡ true → a.own x ≡ put_all V (values args s) empty x
      at_value x i = put_all_off Z rs (put_all V (values args s) empty) x (not_result x i)

      begun_fits : Fits (proc_scope h.values h.results) a
      begun_fits = record {
        names = both_fit (entries kind.Value h.values) (entries kind.Outcome h.results) a.own (λ x i. value x (sym (ap (is_in x) (names_in kind.Value h.values)) ∙ i)) (λ x i. result x (sym (ap (is_in x) (names_in kind.Value h.values)) ∙ i) (is_in x Z) refl);
        parts = refl;
      }
        where
          value : (x : Name) → is_in x V ≡ true → FitsEntry (find (has_name x) (entries kind.Value h.values)) (a.own x)
          value x i = subst (FitsEntry (find (has_name x) (entries kind.Value h.values))) (sym (at_value x i)) (values_fit kind.Value h.values (values args s) given_args x)

          result : (x : Name) → is_in x V ≡ false → (b : Bool) → is_in x Z ≡ b → FitsEntry (find (has_name x) (entries kind.Outcome h.results)) (a.own x)
          result x i true j = subst (FitsEntry (find (has_name x) (entries kind.Outcome h.results))) (put_all_on Z rs empty (put_all V (values args s) empty) x j) (values_fit kind.Outcome h.results rs hr x)
          result x i false j =
              subst (FitsEntry (find (has_name x) (entries kind.Outcome h.results))) (put_all_off Z rs empty x j ∙ sym (put_all_off Z rs (put_all V (values args s) empty) x j ∙ put_all_off V (values args s) empty x i)) (values_fit kind.Outcome h.results rs hr x)

      begun_pre : Holds E.library h.pre a a
      begun_pre =
          (spoken_same (map (λ e. e.name) (entries kind.Value h.values)) [] h.pre pre_speaks definitions (in_states s.own (put_all V (values args s) s.own)) (in_states a.own a.own)
          (λ x i. ap given (at x (sym (ap (is_in x) (names_in kind.Value h.values)) ∙ i))) (λ x i. absurd (true≢false (sym i))) [] []).0
          ((followed_holds E.library h.pre V args (args_long scope h.values args args_for) (each_map (λ t. (q : Sort) × (sort_in scope [] t ≡ Some q)) (λ t. is_closed t ≡ true) (λ t q. sorted_closed scope t q.0 q.1) args sorts) s.own s
          (each_same args) (λ x i. absurd (pre_speaks.constant x i))).0
          (stable E.library (called_pre h.values args h.pre) s s (follows_of scope E w.pre (called_pre h.values args h.pre) valid.1.0 s fit before)))
        where
          at : (x : Name) → is_in x V ≡ true → put_all V (values args s) s.own x ≡ a.own x
          at x i = put_all_on V (values args s) s.own empty x i ∙ sym (at_value x i)

          each_same : (ts : List Term) → Each (λ t. value s.own s.own [] t ≡ value s.own s.own [] t) ts
          each_same [] = tt
          each_same (t ∷ ts) = (refl, each_same ts)

      module _ (b : State) (within : Within Z a b) (after : Holds E.library h.post a b) where
        abbrev vs : List (Option Value)
        vs = read_all Z b.own

        abbrev t : State
        t = with_own s (put_all names vs s.own)

        end_fits : Fits (proc_scope h.values h.results) b
        end_fits = without_parts (proc_scope h.values h.results) b (within_fits (proc_scope h.values h.results) Z a b (with_no_parts (proc_scope h.values h.results) a begun_fits) within)

        given_results : ValuesFor h.results vs
        given_results = values_on h.results b.own (second_once V Z formed.differ) on
          where
            on : (x : Name) → is_in x Z ≡ true → FitsEntry (find (has_name x) (entries kind.Module h.results)) (b.own x)
            on x i =
                kind_fits kind.Outcome kind.Module h.results x (b.own x)
                (subst (λ o. FitsEntry o (b.own x)) (found_out (entries kind.Value h.values) (entries kind.Outcome h.results) x (ap (is_in x) (names_in kind.Value h.values) ∙ not_value x i)) (end_fits.names x))

        after_fits : FitsBeside s.part scope t
        after_fits = record { names = names_take scope h.results names vs s.own tests.names_fit given_results fit; parts = refl }

        kept : (x : Name) → is_in x w.frame ≡ false → t.own x ≡ s.own x
        kept x i = put_all_off names vs s.own x (off_results x i)

        pub call_within : Within w.frame s t
        call_within = within_by_fits scope w.frame s t (record { names = fit; parts = refl }) after_fits kept

        abbrev looks : Looks
        looks = in_states s.own t.own

        -- an argument, said of the state before, has after the call the value that it had before
        arg_before : (u : Term) (q : Sort) → sort_in scope [] u ≡ Some q → term_outside [] u ≡ false → value_of looks [] (replaced_term (map to_initial w.frame) u) ≡ value s.own s.own [] u
        arg_before u q sorted free =
            replacement_keeps_values (map to_initial w.frame) u ((initial_changes_are_closed w.frame).0) looks []
            ∙ term_agrees u (changed_looks (map to_initial w.frame) looks) (in_states s.own s.own) agree
          where
            variable : (x : Name) (c : Bool) → is_in x w.frame ≡ c → changed_looks (map to_initial w.frame) looks form.Variable x ≡ value_in s.own x
            variable x true i = mapped_in to_initial form.Variable looks (λ x y. refl) w.frame x i ∙ plain_value looks [] form.Initial x
            variable x false i = mapped_out to_initial form.Variable looks (λ x y. refl) w.frame x i ∙ ap given (kept x i)

            constant : (x : Name) → stands_in_term form.Constant x u ≡ true → (c : Bool) → is_in x w.frame ≡ c → value_in t.own x ≡ value_in s.own x
            constant x k true i =
                absurd (names_of_terms_have_one_kind scope u [] q (slot.Var x ∷ []) sorted (and_from _ _ (ready.variables x i) refl) x (right_is_true (stands_in_term form.Variable x u) _ (left_is_true (bytes_eq x x) _ (bytes_same x x refl)))
                (left_is_true (stands_in_term form.Constant x u) _ k))
            constant x k false i = ap given (kept x i)

            agree : (g : Form) (x : Name) → stands_in_term g x u ≡ true → changed_looks (map to_initial w.frame) looks g x ≡ in_states s.own s.own g x
            agree form.Variable x k = variable x (is_in x w.frame) refl
            agree form.Initial x k = absurd (none_in_term x u free k)
            agree form.Constant x k = mapped_past to_initial form.Constant looks (λ x y. refl) w.frame x ∙ constant x k (is_in x w.frame) refl

        abbrev befores : List Term
        befores = args_before w.frame args

        befores_valued : (ts : List Term) → Each (λ t. (q : Sort) × (sort_in scope [] t ≡ Some q)) ts → Each (λ t. term_outside [] t ≡ false) ts → Valued looks [] (args_before w.frame ts) (values ts s)
        befores_valued [] q o = tt
        befores_valued (u ∷ ts) q o = (arg_before u q.0.0 q.0.1 o.0, befores_valued ts q.1 o.1)

        befores_closed : (ts : List Term) → Each (λ t. (q : Sort) × (sort_in scope [] t ≡ Some q)) ts → Each (λ t. is_closed t ≡ true) (args_before w.frame ts)
        befores_closed [] q = tt
        befores_closed (u ∷ ts) q =
            (sorted_closed scope (replaced_term (map to_initial w.frame) u) q.0.0 (sort_kept scope scope (map to_initial w.frame) (initial_sorts scope w.frame) 0 [] u q.0.0 q.0.1 ∙ q.0.1), befores_closed ts q.1)

        befores_long : (ts : List Term) → length (args_before w.frame ts) ≡ length ts
        befores_long [] = refl
        befores_long (u ∷ ts) = ap suc (befores_long ts)

        -- the results' names have after the call what the body ended with
        abbrev vars : List Term
        vars = map (λ x. v.Var x) names

        vars_valued : (xs : List Name) → Valued looks [] (map (λ x. v.Var x) xs) (read_all xs t.own)
        vars_valued [] = tt
        vars_valued (x ∷ xs) = (plain_value looks [] form.Variable x, vars_valued xs)

        names_same : length names ≡ length vs
        names_same = names_long scope h.results names tests.names_fit ∙ sym (long_read Z b.own)

        results_valued : Valued looks [] vars vs
        results_valued = subst (Valued looks [] vars) (read_put names vs s.own names_same tests.once) (vars_valued names)

        vars_closed : (xs : List Name) → Each (λ u. is_closed u ≡ true) (map (λ x. v.Var x) xs)
        vars_closed [] = tt
        vars_closed (x ∷ xs) = (ap is_closed (sym (v.rolls-Var x)) ∙ fold-roll-Term Bool closed_step (Term-F.Var x), vars_closed xs)

        abbrev puts : List Change
        puts = set_to Z vars

        results_long : length Z ≡ length vars
        results_long = sym (long_map names ∙ names_long scope h.results names tests.names_fit)

        put_results : (y : Name) → changed_looks puts looks form.Variable y ≡ value_in (put_all Z vs t.own) y
        put_results y = ap (λ cs. changed_looks cs looks form.Variable y) (sym (none_behind puts)) ∙ set_value looks [] Z vars vs t.own results_long results_valued y refl

        put_args : (y : Name) → changed_looks (set_to V befores ++ puts) looks form.Variable y ≡ value_in (put_all V (values args s) (put_all Z vs t.own)) y
        put_args y = set_value looks puts V befores (values args s) (put_all Z vs t.own) (args_long scope h.values args args_for ∙ sym (befores_long args)) (befores_valued args sorts outside) y (put_results y)

        called_holds : Holds E.library (called_post w.frame h.values h.results args names h.post) s t
        called_holds = (bridge (set_to V befores ++ puts) h.post definitions looks (in_states b.own b.own) closed same).1 (initial_free E.library h.post formed.post_initial a b b after)
          where
            closed : are_closed (set_to V befores ++ puts) ≡ true
            closed = set_closed looks puts V befores (befores_closed args sorts) (subst (λ cs. are_closed cs ≡ true) (none_behind puts) (set_closed looks [] Z vars (vars_closed names) refl))

            on_value : (x : Name) → is_in x (map (λ e. e.name) (entries kind.Value h.values)) ≡ true → changed_looks (set_to V befores ++ puts) looks form.Variable x ≡ value_in b.own x
            on_value x k =
                let i = sym (ap (is_in x) (names_in kind.Value h.values)) ∙ k in
                put_args x ∙ ap given (put_all_on V (values args s) (put_all Z vs t.own) empty x i ∙ (sym (at_value x i) ∙ sym (within.off x (not_result x i))))

            on_result : (x : Name) → is_in x (map (λ e. e.name) (entries kind.Outcome h.results)) ≡ true → changed_looks (set_to V befores ++ puts) looks form.Variable x ≡ value_in b.own x
            on_result x k =
                let i = sym (ap (is_in x) (names_in kind.Outcome h.results)) ∙ k in
                put_args x ∙ ap given (put_all_off V (values args s) (put_all Z vs t.own) x (not_value x i) ∙ put_read Z b.own t.own x i)

            same : (g : Form) (x : Name) → stands_in g x h.post ≡ true → changed_looks (set_to V befores ++ puts) looks g x ≡ in_states b.own b.own g x
            same form.Variable x k =
                of_joined (changed_looks (set_to V befores ++ puts) looks form.Variable x ≡ value_in b.own x) (map (λ e. e.name) (entries kind.Value h.values)) (map (λ e. e.name) (entries kind.Outcome h.results)) x (on_value x) (on_result x)
                (sym (ap (is_in x) (names_joined (entries kind.Value h.values) (entries kind.Outcome h.results))) ∙ post_speaks.variable x k)
            same form.Initial x k = absurd (none_in x h.post formed.post_initial k)
            same form.Constant x k = absurd (post_speaks.constant x k)

        -- of the frame only the results' names have changed
        unchanged : Holds E.library (changed_post w names) s t → Holds E.library w.post s t
        unchanged = (bridge (map to_initial (without names w.frame)) w.post definitions looks looks ((initial_changes_are_closed (without names w.frame)).0) same).0
          where
            others : List Name
            others = without names w.frame

            stays : (x : Name) → is_in x (without names w.frame) ≡ true → value_in s.own x ≡ value_in t.own x
            stays x i = ap given (sym (put_all_off names vs s.own x (false_from_ne_true (is_in x names) (λ j. true≢false (sym i ∙ taken_out names w.frame x j)))))

            variable : (x : Name) (c : Bool) → is_in x (without names w.frame) ≡ c → changed_looks (map to_initial (without names w.frame)) looks form.Variable x ≡ value_in t.own x
            variable x true i = mapped_in to_initial form.Variable looks (λ x y. refl) (without names w.frame) x i ∙ (plain_value looks [] form.Initial x ∙ stays x i)
            variable x false i = mapped_out to_initial form.Variable looks (λ x y. refl) (without names w.frame) x i

            same : (g : Form) (x : Name) → stands_in g x w.post ≡ true → changed_looks (map to_initial (without names w.frame)) looks g x ≡ looks g x
            same form.Variable x k = variable x (is_in x (without names w.frame)) refl
            same form.Initial x k = mapped_past to_initial form.Initial looks (λ x y. refl) (without names w.frame) x
            same form.Constant x k = mapped_past to_initial form.Constant looks (λ x y. refl) (without names w.frame) x

        pub call_post : Holds E.library w.post s t
        call_post =
            stable E.library w.post s t (λ n.
            valid_follows E.library scope (initial_pre w ∷ called_post w.frame h.values h.results args names h.post ∷ []) (changed_post w names ∷ []) valid.1.1.0 s.own t.own fit after_fits.names
            ((initial_holds E.library w.pre s.own t.own w.frame kept (constants_off scope heads w.pre ready.pre.1 w.frame ready.variables)).1 before, (called_holds, tt)) ((λ c. n (unchanged c)), tt))

    module _ (k : ℕ) (name : Name) (meets : EntryMeets E h place) (same_name : h.name ≡ name) where
      abbrev e : ProcCode
      e = meets.entry

      earlier : place < context.order
      earlier = ltb-true place context.order tests.earlier

      found : find_proc name E.procs ≡ Some e
      found = subst (λ n. find_proc n E.procs ≡ Some e) same_name meets.found

      as_head : (rs : List (Option Value)) → begun e.values e.results empty (values args s) rs ≡ begun h.values h.results empty (values args s) rs
      as_head rs = λ i. begun (meets.values_are i) (meets.results_are i) empty (values args s) rs

      abbrev Met : State → Type 0
      Met a = (j : ℕ) × Sure E place j e.body a × ((t : State) → MayEnd E place j e.body a t → Within Z a t × Holds E.library h.post a t)

      met : (rs : List (Option Value)) → ValuesFor h.results rs → Met (begun h.values h.results empty (values args s) rs)
      met rs hr = meets.meets (begun h.values h.results empty (values args s) rs) (begun_fits rs hr) (begun_pre rs hr)

      result_values : (rs : List (Option Value)) → ValuesFor e.results rs → ValuesFor h.results rs
      result_values rs hr = subst (λ ps. ValuesFor ps rs) meets.results_are hr

      call_sure : Sure E context.order k (prog.Call name args names) s
      call_sure = (
        call_defined,
        here_some (find_proc name E.procs) e (λ e. (a : State) → Begins empty e (values args s) a → (bodies E context.order k).sure e.place e.body a) found
            (λ a y. subst (λ z. (bodies E context.order k).sure z e.body a) (sym meets.place_is)
            (subst (λ z. (bodies E context.order k).sure place e.body z) (sym (y.2 ∙ as_head y.0)) (let m = met y.0 (result_values y.0 y.1) in
            call_sure_of E context.order k place e.body (begun h.values h.results empty (values args s) y.0) (inr (earlier, (m.0, m.1)))))),
      )

      ended : (a b : State) → (bodies E context.order k).ends e.place e.body a b → (j : ℕ) × MayEnd E place j e.body a b
      ended a b x = go (call_ends_to E context.order k place e.body a b (subst (λ z. (bodies E context.order k).ends z e.body a b) meets.place_is x))
        where
          go : CallEnds E context.order k place e.body a b → (j : ℕ) × MayEnd E place j e.body a b
          go (inl o) = absurd (lt_irrefl context.order (subst (λ q. q < context.order) o.0 earlier))
          go (inr o) = o.1

      call_ends : (t : State) → MayEnd E context.order k (prog.Call name args names) s t → Within w.frame s t × Holds E.library w.post s t
      call_ends t x =
          let y = some_here (find_proc name E.procs) e (λ e. (a b : State) × Begins empty e (values args s) a × (bodies E context.order k).ends e.place e.body a b × (t ≡ returned e names b s)) found x in
          let rs = y.2.0 in
          let hr = result_values rs y.2.1 in
          let a = begun h.values h.results empty (values args s) rs in
          let m = met rs hr in
          let end = ended (y.0) y.1 y.3 in
          let end_here : MayEnd E place end.0 e.body a y.1 = subst (λ z. MayEnd E place end.0 e.body z y.1) (y.2.2 ∙ as_head rs) end.1 in
          let r = m.2 y.1 (ends_of_any E place e.body m.0 end.0 a y.1 m.1 end_here) in
          subst (λ t. Within w.frame s t × Holds E.library w.post s t) ((λ i. with_own s (put_all names (read_all (names_of (sym meets.results_are i)) y.1.own) s.own)) ∙ sym y.4) (call_within rs hr y.1 r.0 r.1, call_post rs hr y.1 r.0 r.1)

      pub call_better : Sure E context.order k (prog.Call name args names) s × ((t : State) → MayEnd E context.order k (prog.Call name args names) s t → Within w.frame s t × Holds E.library w.post s t)
      call_better = (call_sure, call_ends)

calls_are_sound_where : (At : Table → Context → State → Type 0) → ((E : Table) (context : Context) (s : State) → At E context s → FitsMap context.scope s.own) → CallsAreSoundWhere At
unfolding asked promised wanted
calls_are_sound_where At fit_of context heads w step h place a ready formed same_name law fixed E k kids meets valid =
    let r = call_tests context w step h place a law in
    let valid' : Each (Valid E.library) (owed context w step.args step.results h) = subst (λ (a : Applied). Each (Valid E.library) a.obligations) r.1 valid in
    subst (λ (a : Applied). RefinesWhere At fixed E context.order k context (prog.Spec w) (fill kids a.skeleton)) (sym r.1)
    (λ s fit has before. call_better context heads w step.args step.results h place ready formed r.0 E valid' s (fit_of E context s fit) before k step.name meets same_name)

pub calls_are_sound : CallsAreSound
calls_are_sound = calls_are_sound_where FitsContext (λ E context s fit. fit.names)

pub calls_are_sound_beside : CallsAreSoundBeside
calls_are_sound_beside parts = calls_are_sound_where (FitsWith parts) (λ E context s fit. fit.0)
