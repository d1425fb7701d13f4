-- By a table of heads, calls end in states that fit, and so do starts.
use Rattle.std.proofs.Common.{◌≡◌, inl, inr, refl, sym, ap, ◌∙◌, subst, subst₂, ℕ, Bool, true, false, if◌then◌else◌, List, [], ◌++◌, find, Option, Some, None, IsSomeAnd, true≢false}
use Rattle.std.proofs.lemmas.Bool.{false_from_ne_true}
use Rattle.rw_terms.specs.declared.scope.Entry.{Entry}
use Rattle.rw_terms.specs.declared.scope.Kind.TheVariants as kind
use Rattle.rw_terms.specs.declared.term.Term.{Term}
use Rattle.rw_terms.specs.Scopes.{has_name}
use Rattle.rw_terms.specs.State.{Value, FitsEntry, State as Map, Fits as FitsMap}
use Rattle.rw_faults.specs.Initial.{is_twice}
use Rattle.rw_programs.specs.declared.prog.Param.{Param}
use Rattle.rw_programs.specs.declared.prog.ProcCode.{ProcCode}
use Rattle.rw_programs.specs.declared.prog.ModCode.{ModCode}
use Rattle.rw_programs.specs.declared.prog.Spec.{Spec as Promise}
use Rattle.rw_programs.specs.declared.prog.Prog.{Spec, Call, OpCall}
use Rattle.rw_programs.specs.State.{Name, State, Fits, Within, empty, is_in, only, put_all, read_all, names_of, ValuesFor}
use Rattle.rw_programs.specs.Tables.{Table, find_proc, find_module, Begins, returned, held, hold}
use Rattle.rw_programs.specs.Meaning.{Bodies, bodies, bodies_before, values}
use Rattle.rw_programs.proofs.Frames.{put_all_off, within_fits}
use Rattle.rw_meaning.specs.Filling.{module_entries, FitsIn, KeepsBy, StartFits}
use Rattle.rw_meaning.specs.Calls.{CallEnds}
use Rattle.rw_meaning.proofs.CallRows.{call_ends_to}
use Rattle.rw_meaning.proofs.Grow.{before_ends}
use Rattle.rw_meaning.proofs.Scopes.{put_all_on}
use Rattle.rw_procs.specs.Causes.{wrong_names}
use Rattle.rw_modules.specs.Heads.{entries}
use Rattle.rw_simulation.specs.Coupling.{start_state}
use Rattle.rw_simulation.proofs.Chosen.{fits_off, values_on}
use Rattle.rw_simulation.proofs.Entered.{names_in, both_fit, found_in, found_out, values_fit, kind_fits}
use Rattle.rw_simulation.proofs.Link.{some_here}
use Rattle.rw_simulation.proofs.Lists.{in_left, in_right}
use Rattle.rw_calls.proofs.Args.{names_take}
use Rattle.rw_calls.proofs.CallLaw.{apart_lists, second_once, none_behind}
use Rattle.rw_programs.proofs.Beside.{with_no_parts, without_parts}

-- a body begins in a state that fits its scope
module _ (ps vals ress : List Param) (new : (x : Name) → is_in x (names_of vals ++ names_of ress) ≡ true → is_in x (names_of ps) ≡ false) (differ : (x : Name) → is_in x (names_of vals) ≡ true → is_in x (names_of ress) ≡ false)
    (c : Map) (args rs : List (Option Value)) (hv : ValuesFor vals args) (hr : ValuesFor ress rs) (fits : FitsMap (module_entries ps) c) where
  abbrev own : Map
  own = put_all (names_of ress) rs (put_all (names_of vals) args c)

  at_value : (x : Name) → is_in x (names_of vals) ≡ true → own x ≡ put_all (names_of vals) args empty x
  at_value x i = put_all_off (names_of ress) rs (put_all (names_of vals) args c) x (differ x i) ∙ put_all_on (names_of vals) args c empty x i

  at_result : (x : Name) → is_in x (names_of ps) ≡ false → is_in x (names_of vals) ≡ false → (b : Bool) → is_in x (names_of ress) ≡ b → own x ≡ put_all (names_of ress) rs empty x
  at_result x i j true k = put_all_on (names_of ress) rs (put_all (names_of vals) args c) empty x k
  at_result x i j false k =
      put_all_off (names_of ress) rs (put_all (names_of vals) args c) x k ∙ (put_all_off (names_of vals) args c x j
      ∙ (fits_off ps c x fits i ∙ sym (put_all_off (names_of ress) rs empty x k)))

  at_state : (x : Name) → is_in x (names_of ps) ≡ true → own x ≡ c x
  at_state x i =
      put_all_off (names_of ress) rs (put_all (names_of vals) args c) x (false_from_ne_true (is_in x (names_of ress)) (λ j. true≢false (sym i ∙ new x (in_right (names_of vals) (names_of ress) x j))))
      ∙ put_all_off (names_of vals) args c x (false_from_ne_true (is_in x (names_of vals)) (λ j. true≢false (sym i ∙ new x (in_left (names_of vals) (names_of ress) x j))))

  value_fits : (x : Name) → is_in x (names_of vals) ≡ true → FitsEntry (find (has_name x) (entries kind.Value vals)) (own x)
  value_fits x i = subst (FitsEntry (find (has_name x) (entries kind.Value vals))) (sym (at_value x i)) (values_fit kind.Value vals args hv x)

  result_fits : (x : Name) → is_in x (names_of ps) ≡ false → is_in x (names_of vals) ≡ false → FitsEntry (find (has_name x) (entries kind.Outcome ress)) (own x)
  result_fits x i j = subst (FitsEntry (find (has_name x) (entries kind.Outcome ress))) (sym (at_result x i j (is_in x (names_of ress)) refl)) (values_fit kind.Outcome ress rs hr x)

  -- values and results, off the concrete state
  call_fits : (x : Name) → is_in x (names_of ps) ≡ false → FitsEntry (find (has_name x) (entries kind.Value vals ++ entries kind.Outcome ress)) (own x)
  call_fits x i = go (is_in x (names_of vals)) refl
    where
      go : (b : Bool) → is_in x (names_of vals) ≡ b → FitsEntry (find (has_name x) (entries kind.Value vals ++ entries kind.Outcome ress)) (own x)
      go true j =
          subst (λ e. FitsEntry e (own x)) (sym (found_in (entries kind.Value vals) (entries kind.Outcome ress) x (ap (is_in x) (names_in kind.Value vals) ∙ j))) (value_fits x j)
      go false j =
          subst (λ e. FitsEntry e (own x)) (sym (found_out (entries kind.Value vals) (entries kind.Outcome ress) x (ap (is_in x) (names_in kind.Value vals) ∙ j))) (result_fits x i j)

  pub begins_fit : FitsMap (module_entries ps ++ (entries kind.Value vals ++ entries kind.Outcome ress)) own
  begins_fit =
      both_fit (module_entries ps) (entries kind.Value vals ++ entries kind.Outcome ress) own
      (λ x i. subst (FitsEntry (find (has_name x) (module_entries ps))) (sym (at_state x (sym (ap (is_in x) (names_in kind.Module ps)) ∙ i))) (kind_fits kind.Module kind.Module ps x (c x) (fits x)))
      (λ x i. call_fits x (sym (ap (is_in x) (names_in kind.Module ps)) ∙ i))

-- a map that gives what is held of a module, where its names are in scope
module _ (E : Table) (opened : List Name) (scope : List Entry) (d : ModCode) (known : (x : Name) → is_in x (names_of d.state) ≡ true → find (has_name x) scope ≡ find (has_name x) (module_entries d.state)) where
  held_fits : (s : State) → FitsIn E opened scope s → FitsMap (module_entries d.state) (only (names_of d.state) s.own)
  held_fits s fits x = go (is_in x (names_of d.state)) refl
    where
      go : (b : Bool) → is_in x (names_of d.state) ≡ b → FitsEntry (find (has_name x) (module_entries d.state)) (only (names_of d.state) s.own x)
      go true i = subst (FitsEntry (find (has_name x) (module_entries d.state))) (sym (ap (λ c. if c then s.own x else None) i)) (subst (λ e. FitsEntry e (s.own x)) (known x i) (fits.names x))
      go false i =
          subst₂ FitsEntry (sym (found_out (module_entries d.state) [] x (ap (is_in x) (names_in kind.Module d.state) ∙ i)) ∙ ap (find (has_name x)) (none_behind (module_entries d.state))) (sym (ap (λ c. if c then s.own x else None) i)) tt

module _ (E : Table) (p k : ℕ) (opened : List Name) (scope : List Entry) (args : List Term) (names : List Name) (proc : ProcCode) (w : Promise) (is_spec : proc.body ≡ Spec w)
    (once : is_twice (names_of proc.values ++ names_of proc.results) ≡ false) (takes : (s : State) → FitsIn E opened scope s → ValuesFor proc.values (values args s)) (fit : wrong_names scope proc.results names ≡ false) where
  abbrev V : List Name
  V = names_of proc.values

  abbrev Z : List Name
  Z = names_of proc.results

  not_result : (x : Name) → is_in x V ≡ true → is_in x Z ≡ false
  not_result x i = apart_lists V Z x once i

  not_value : (x : Name) → is_in x Z ≡ true → is_in x V ≡ false
  not_value x i = false_from_ne_true (is_in x V) (λ j. true≢false (sym i ∙ not_result x j))

  abbrev call_scope : List Entry
  call_scope = entries kind.Value proc.values ++ entries kind.Outcome proc.results

  -- results that are read where they fit
  results_of : (es : List Entry) (b : Map) → ((x : Name) → is_in x Z ≡ true → find (has_name x) es ≡ find (has_name x) call_scope) → FitsMap es b → ValuesFor proc.results (read_all Z b)
  results_of es b same fits = values_on proc.results b (second_once V Z once) on
    where
      on : (x : Name) → is_in x Z ≡ true → FitsEntry (find (has_name x) (entries kind.Module proc.results)) (b x)
      on x i =
          kind_fits kind.Outcome kind.Module proc.results x (b x)
          (subst (λ o. FitsEntry o (b x)) (same x i ∙ found_out (entries kind.Value proc.values) (entries kind.Outcome proc.results) x (ap (is_in x) (names_in kind.Value proc.values) ∙ not_value x i)) (fits x))

  -- a call of a procedure whose body is a specification ends in states that fit
  pub call_keeps : (f : Name) → find_proc f E.procs ≡ Some proc → KeepsBy E (bodies E p k) (bodies_before E p) opened scope (Call f args names)
  call_keeps f found s t fits sure x = ended (some_here (find_proc f E.procs) proc (λ e. (a b : State) × Begins empty e (values args s) a × (bodies E p k).ends e.place e.body a b × (t ≡ returned e names b s)) found x)
    where
      ended : (a b : State) × Begins empty proc (values args s) a × (bodies E p k).ends proc.place proc.body a b × (t ≡ returned proc names b s) → FitsIn E opened scope t
      ended y = subst (FitsIn E opened scope) (sym y.4) (record { names = names_take scope proc.results names (read_all Z y.1.own) s.own fit (results_of call_scope y.1.own (λ z i. refl) b_fits.names) fits.names; parts = fits.parts })
        where
          a_fits : Fits call_scope y.0
          a_fits =
              subst (Fits call_scope) (sym y.2.2)
              (record { names = begins_fit [] proc.values proc.results (λ z i. refl) not_result empty (values args s) y.2.0 (takes s fits) y.2.1 (λ z. tt); parts = refl })

          within : CallEnds E p k proc.place (Spec w) y.0 y.1 → Within w.frame y.0 y.1
          within (inl o) = o.1.2.0
          within (inr o) = o.1.1.0

          b_fits : Fits call_scope y.1
          b_fits = without_parts call_scope y.1
              (within_fits call_scope w.frame y.0 y.1 (with_no_parts call_scope y.0 a_fits) (within (call_ends_to E p k proc.place (Spec w) y.0 y.1 (subst (λ c. (bodies E p k).ends proc.place c y.0 y.1) is_spec y.3))))

  -- so does a call of an operation, by an abstract table, where the names of the module are in scope
  pub op_keeps : E.is_concrete ≡ false → (m o : Name) (d : ModCode) → find_module m E.modules ≡ Some d → find_proc o d.operations ≡ Some proc
      → ((x : Name) → is_in x (V ++ Z) ≡ true → is_in x (names_of d.state) ≡ false)
      → ((x : Name) → is_in x (names_of d.state) ≡ true → find (has_name x) scope ≡ find (has_name x) (module_entries d.state))
      → KeepsBy E (bodies E p k) (bodies_before E p) opened scope (OpCall m o args names)
  op_keeps abstract m o d found found_proc new known s t fits sure x =
      let x1 = some_here (find_module m E.modules) d (λ d. IsSomeAnd (find_proc o d.operations) (λ e. (a b : State) × Begins (held E.is_concrete d s) e (values args s) a × (bodies_before E p).ends d.place e.body a b
      × (t ≡ hold E.is_concrete d b.own (returned e names b s)))) found x in
      let x2 = some_here (find_proc o d.operations) proc (λ e. (a b : State) × Begins (held E.is_concrete d s) e (values args s) a × (bodies_before E p).ends d.place e.body a b
      × (t ≡ hold E.is_concrete d b.own (returned e names b s))) found_proc x1 in
      ended (subst (λ c. (a b : State) × Begins (held c d s) proc (values args s) a × (bodies_before E p).ends d.place proc.body a b × (t ≡ hold c d b.own (returned proc names b s))) abstract x2)
    where
      es : List Entry
      es = module_entries d.state ++ call_scope

      apart : (x : Name) → is_in x Z ≡ true → find (has_name x) (module_entries d.state ++ call_scope) ≡ find (has_name x) call_scope
      apart x i = found_out (module_entries d.state) call_scope x (ap (is_in x) (names_in kind.Module d.state) ∙ new x (in_right V Z x i))

      ended : (a b : State) × Begins (held false d s) proc (values args s) a × (bodies_before E p).ends d.place proc.body a b × (t ≡ hold false d b.own (returned proc names b s)) → FitsIn E opened scope t
      ended y = subst (FitsIn E opened scope) (sym y.4) (record { names = λ z. at z (is_in z (names_of d.state)) refl; parts = fits.parts })
        where
          a_fits : Fits (module_entries d.state ++ call_scope) y.0
          a_fits =
              subst (Fits (module_entries d.state ++ call_scope)) (sym y.2.2)
              (record { names = begins_fit d.state proc.values proc.results new not_result (only (names_of d.state) s.own) (values args s) y.2.0 (takes s fits) y.2.1 (held_fits E opened scope d known s fits); parts = refl })

          b_fits : Fits (module_entries d.state ++ call_scope) y.1
          b_fits =
              without_parts (module_entries d.state ++ call_scope) y.1
              (within_fits (module_entries d.state ++ call_scope) w.frame y.0 y.1 (with_no_parts (module_entries d.state ++ call_scope) y.0 a_fits)
              (before_ends E p d.place (Spec w) y.0 y.1 (subst (λ c. (bodies_before E p).ends d.place c y.0 y.1) is_spec y.3)).1.1.0)

          at : (z : Name) (c : Bool) → is_in z (names_of d.state) ≡ c → FitsEntry (find (has_name z) scope) (if is_in z (names_of d.state) then y.1.own z else put_all names (read_all Z y.1.own) s.own z)
          at z true i =
              subst₂ FitsEntry (sym (known z i)) (sym (ap (λ c. if c then y.1.own z else put_all names (read_all Z y.1.own) s.own z) i))
              (subst (λ o. FitsEntry o (y.1.own z)) (found_in (module_entries d.state) call_scope z (ap (is_in z) (names_in kind.Module d.state) ∙ i)) (b_fits.names z))
          at z false i =
              subst (FitsEntry (find (has_name z) scope)) (sym (ap (λ c. if c then y.1.own z else put_all names (read_all Z y.1.own) s.own z) i))
              (names_take scope proc.results names (read_all Z y.1.own) s.own fit (results_of (module_entries d.state ++ call_scope) y.1.own apart b_fits.names) fits.names z)

-- a start that is a specification ends in states of the module
pub start_fits : (E : Table) (p : ℕ) (calls : Bodies) (m : Name) (d : ModCode) (w : Promise) → find_module m E.modules ≡ Some d → d.start ≡ Spec w → StartFits E calls (bodies_before E p) m
start_fits E p calls m d w found is_spec e found_e vs hv sure a ends =
    let same : d ≡ e = same_one (find_module m E.modules) d e found found_e in
    (within_fits (module_entries e.state) w.frame (start_state e.state vs) a (record { names = values_fit kind.Module e.state vs hv; parts = refl })
    (before_ends E p e.place (Spec w) (start_state e.state vs) a (subst (λ c. (bodies_before E p).ends e.place c (start_state e.state vs) a) (sym (ap (λ z. z.start) same) ∙ is_spec) ends)).1.1.0).names
  where
    same_one : (o : Option ModCode) (a b : ModCode) → o ≡ Some a → o ≡ Some b → a ≡ b
    same_one o a b q r = first (sym q ∙ r)
      where
        first : Some a ≡ Some b → a ≡ b
        first q = cc
