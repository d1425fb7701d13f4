-- What alternation, iteration and local blocks leave to their kids is well-formed where it stands.
use Rattle.std.proofs.Common.{◌≡◌, pos, Bool, true, false, not, if◌then◌else◌, ◌||◌, ◌&&◌, is_some, List, [], ◌∷◌, ◌++◌, map, find, length, Option, Some, None, refl, sym, ap, ◌∙◌, subst, true≢false}
use Rattle.std.proofs.lemmas.Bool.{and_parts, false_from_ne_true, or_from, or_left, or_parts, or_right}
use Rattle.std.specs.Prelude.{bytes_eq, option_and_then, nat_le}
use Rattle.std.specs.List.{list_all}
use Rattle.rw_terms.specs.declared.scope.Entry.{Entry}
use Rattle.rw_terms.specs.declared.scope.Head.{Head}
use Rattle.rw_terms.specs.declared.scope.Kind.TheVariants as kind
use Rattle.rw_terms.specs.declared.term.Sort.{Sort}
use Rattle.rw_terms.specs.declared.term.Sort.TheVariants.{Int, Array}
use Rattle.rw_terms.specs.declared.term.Term.{Term}
use Rattle.rw_terms.specs.declared.term.Term.TheVariants as v
use Rattle.rw_terms.specs.declared.term.Formula.{Formula}
use Rattle.rw_terms.specs.declared.term.Formula.TheVariants as formula
use Rattle.rw_terms.specs.declared.term.Formula.TheOpen.{Formula-F}
use Rattle.rw_terms.specs.declared.term.Formula.TheViews.{roll-Formula}
use Rattle.rw_terms.specs.declared.term.Formula.TheFolds.{map-Formula, fold-roll-Formula}
use Rattle.rw_terms.specs.Scopes.{has_name}
use Rattle.rw_terms.specs.Sorts.{as_variable, variable_sort}
use Rattle.rw_terms.specs.Formed.{is_sort}
use Rattle.rw_terms.specs.Rules.{of_ints, sort_in, keeps_step, keeps_rules}
use Rattle.rw_terms.specs.Validity.{Each}
use Rattle.rw_faults.specs.Limits.{is_small}
use Rattle.rw_faults.specs.Initial.{is_listed, is_twice, term_outside, formula_outside_step, initial_outside}
use Rattle.rw_subst.specs.declared.slot.Form.TheVariants as form
use Rattle.rw_subst.specs.Slots.{changed}
use Rattle.rw_subst.specs.Replaced.{to_initial, replaced_term}
use Rattle.rw_programs.specs.declared.prog.Spec.{Spec}
use Rattle.rw_programs.specs.declared.applied.Context.{Context}
use Rattle.rw_programs.specs.declared.applied.Child.{Child}
use Rattle.rw_programs.specs.State.{Name, is_in}
use Rattle.rw_programs.specs.Refine.{is_value, is_value_entry}
use Rattle.rw_meaning.proofs.Tests.{same_bytes, bytes_same}
use Rattle.rw_soundness.specs.Sound.{IsReady}
use Rattle.rw_soundness.proofs.Bits.{either, listed_in}
use Rattle.rw_soundness.proofs.Binders.{small}
use Rattle.rw_soundness.proofs.Conditions.{IsFine, fine, and_fine}
use Rattle.rw_soundness.proofs.Replaced.{KeepsSorts, sort_kept}
use Rattle.rw_soundness.proofs.Outside.{Leaves, outside_term}
use Rattle.rw_soundness.proofs.Unchanged.{plain_sort, plain_outside, outside_more}
use Rattle.rw_soundness.proofs.Readiness.{none_listed}
use Rattle.rw_soundness.proofs.Longer.{variable_found, ready_longer}
use Rattle.rw_loops.specs.declared.step.LoopStep.TheVariants as step
use Rattle.rw_subst.specs.Conj.{disj_with, disj}
use Rattle.rw_loops.specs.Code.{code_misfit}
use Rattle.rw_loops.specs.Limits.{sequent_within, child_within, is_within}
use Rattle.rw_loops.specs.Laws.{law_of, if_kid, if_made, if_law, not_below_0, is_less, turn, loop_code, loop_post, do_kid, do_made, do_misfit, do_law, block_misfit, block_made, block_law}
use Rattle.rw_terms.specs.Same.{same_formula}
use Rattle.rw_loops.specs.Sound.{KidsAreReady}
use Rattle.rw_programs.specs.declared.applied.Misfit.TheVariants as cause
use Rattle.rw_loops.proofs.Fitting.{fitting}
use Rattle.rw_loops.proofs.Placed.{is_code}

module _ (scope : List Entry) (heads : List Head) (names : List Name) where
  abbrev Fine : Formula → Type 0
  Fine = IsFine scope heads names

  abbrev keeps_now : Formula-F Formula → Bool
  keeps_now z = keeps_step scope heads (map-Formula Formula (List Sort → Bool) (keeps_rules scope heads) z) []

  abbrev out_now : Formula-F Formula → Bool
  out_now z = formula_outside_step names (map-Formula Formula Bool (initial_outside names) z)

  -- what a fine formula says of its parts
  unrolled : (z : Formula-F Formula) (f : Formula) → roll-Formula z ≡ f → Fine f → (keeps_now z ≡ true) × (out_now z ≡ false)
  unrolled z f e h = (
    sym (λ i. fold-roll-Formula (List Sort → Bool) (keeps_step scope heads) z i []) ∙ (ap (λ g. keeps_rules scope heads g []) e ∙ h.0),
    sym (fold-roll-Formula Bool (formula_outside_step names) z) ∙ (ap (initial_outside names) e ∙ h.1),
  )

  two : (f g : Formula) → ((keeps_rules scope heads f [] && keeps_rules scope heads g []) ≡ true) × ((initial_outside names f || initial_outside names g) ≡ false) → Fine f × Fine g
  two f g h = (
    ((and_parts (keeps_rules scope heads f []) (keeps_rules scope heads g []) h.0).0, (or_parts (initial_outside names f) (initial_outside names g) h.1).0),
    ((and_parts (keeps_rules scope heads f []) (keeps_rules scope heads g []) h.0).1, (or_parts (initial_outside names f) (initial_outside names g) h.1).1),
  )

  pub parts_of_and : (f g : Formula) → Fine (formula.And f g) → Fine f × Fine g
  parts_of_and f g h = two f g (unrolled (Formula-F.And f g) (formula.And f g) (formula.rolls-And f g) h)

  parts_of_or : (f g : Formula) → Fine (formula.Or f g) → Fine f × Fine g
  parts_of_or f g h = two f g (unrolled (Formula-F.Or f g) (formula.Or f g) (formula.rolls-Or f g) h)

  disj_with_parts : (f : Formula) (gs : List Formula) → Fine (disj_with f gs) → Fine f × Each Fine gs
  disj_with_parts f [] h = (h, tt)
  disj_with_parts f (g ∷ gs) h = let rest = disj_with_parts (formula.Or f g) gs h in let first = parts_of_or f g rest.0 in (first.0, (first.1, rest.1))

  pub disj_parts : (gs : List Formula) → Fine (disj gs) → Each Fine gs
  disj_parts [] h = tt
  disj_parts (g ∷ gs) h = disj_with_parts g gs h

  -- the terms of a comparison are integers
  ints : (a b : Option Sort) → is_some (of_ints a b) ≡ true → (a ≡ Some Int) × (b ≡ Some Int)
  ints None b e = absurd (true≢false (sym e))
  ints (Some (Array n)) b e = absurd (true≢false (sym e))
  ints (Some Int) None e = absurd (true≢false (sym e))
  ints (Some Int) (Some (Array n)) e = absurd (true≢false (sym e))
  ints (Some Int) (Some Int) e = (refl, refl)

  pub variant_is_int : (t : Term) → Fine (not_below_0 t) → (sort_in scope [] t ≡ Some Int) × (term_outside names t ≡ false)
  variant_is_int t h =
      let parts = unrolled (Formula-F.AtMost (v.Lit (pos 0)) t) (not_below_0 t) (formula.rolls-AtMost (v.Lit (pos 0)) t) h in
      ((ints (sort_in scope [] (v.Lit (pos 0))) (sort_in scope [] t) parts.0).1, (or_parts (term_outside names (v.Lit (pos 0))) (term_outside names t) parts.1).1)

  pub less_fine : (t u : Term) → sort_in scope [] t ≡ Some Int → sort_in scope [] u ≡ Some Int → term_outside names t ≡ false → term_outside names u ≡ false → Fine (formula.Less t u)
  less_fine t u st su ot ou =
      fine scope heads names (Formula-F.Less t u) (formula.Less t u) (formula.rolls-Less t u) (λ i. is_some (of_ints (st i) (su i))) (or_from (term_outside names t) (term_outside names u) ot ou)

-- a variable that became initial has its sort
initial_sorts : (scope : List Entry) (names : List Name) → KeepsSorts scope scope (map to_initial names)
initial_sorts scope [] g x s h b = plain_sort scope g x b ∙ h
initial_sorts scope (y ∷ names) form.Variable x s h b = one (bytes_eq x y) refl (initial_sorts scope names form.Variable x s h b)
  where
    one : (c : Bool) → bytes_eq x y ≡ c → sort_in scope b (changed (map to_initial names) form.Variable x) ≡ Some s → sort_in scope b (changed (map to_initial (y ∷ names)) form.Variable x) ≡ Some s
    one true i rest =
        (λ j. sort_in scope b (if (i j) then v.Init y else changed (map to_initial names) form.Variable x))
        ∙ (plain_sort scope form.Initial y b ∙ (ap (variable_sort scope) (sym (same_bytes x y i)) ∙ h))
    one false i rest = (λ j. sort_in scope b (if (i j) then v.Init y else changed (map to_initial names) form.Variable x)) ∙ rest
initial_sorts scope (y ∷ names) form.Initial x s h b = initial_sorts scope names form.Initial x s h b
initial_sorts scope (y ∷ names) form.Constant x s h b = initial_sorts scope names form.Constant x s h b

-- and its name is one of these
initial_leaves : (frame names : List Name) → ((x : Name) → is_in x names ≡ true → is_listed frame x ≡ true) → Leaves [] frame (map to_initial names)
initial_leaves frame [] into form.Variable x h = plain_outside frame form.Variable x
initial_leaves frame [] into form.Initial x h = absurd (true≢false h)
initial_leaves frame [] into form.Constant x h = plain_outside frame form.Constant x
initial_leaves frame (y ∷ names) into form.Variable x h = one (bytes_eq x y) refl (initial_leaves frame names (λ z i. into z (or_right (bytes_eq z y) (is_in z names) i)) form.Variable x h)
  where
    listed : is_listed frame y ≡ true
    listed = into y (ap (λ b. b || is_in y names) (bytes_same y y refl))

    one : (c : Bool) → bytes_eq x y ≡ c → term_outside frame (changed (map to_initial names) form.Variable x) ≡ false → term_outside frame (changed (map to_initial (y ∷ names)) form.Variable x) ≡ false
    one true i rest =
        (λ j. term_outside frame (if (i j) then v.Init y else changed (map to_initial names) form.Variable x)) ∙ (plain_outside frame form.Initial y ∙ ap not listed)
    one false i rest = (λ j. term_outside frame (if (i j) then v.Init y else changed (map to_initial names) form.Variable x)) ∙ rest
initial_leaves frame (y ∷ names) into form.Initial x h = absurd (true≢false h)
initial_leaves frame (y ∷ names) into form.Constant x h =
    initial_leaves frame names (λ z i. into z (or_right (bytes_eq z y) (is_in z names) i)) form.Constant x h

module _ (context : Context) (heads : List Head) (w : Spec) (ready : IsReady context.scope heads w) where
  abbrev scope : List Entry
  scope = context.scope

  abbrev IsReadyKid : Child → Type 0
  IsReadyKid c = IsReady c.context.scope heads c.spec

  -- the precondition behind a guard
  pre_fine : IsFine scope heads [] w.pre
  pre_fine = (ready.pre.1, ready.no_initial)

  wide : (f : Formula) → IsFine scope heads [] f → IsFine scope heads w.frame f
  wide f h = (h.0, outside_more [] w.frame f (none_listed w.frame) h.1)

  pre_small : (k : Child) → child_within k ≡ true → is_small k.spec.pre ≡ true
  pre_small k e = (and_parts (is_small k.spec.pre) (is_small k.spec.post) (and_parts (nat_le (length k.spec.frame) 64) (is_small k.spec.pre && is_small k.spec.post) e).1).0

  post_small : (k : Child) → child_within k ≡ true → is_small k.spec.post ≡ true
  post_small k e = (and_parts (is_small k.spec.pre) (is_small k.spec.post) (and_parts (nat_le (length k.spec.frame) 64) (is_small k.spec.pre && is_small k.spec.post) e).1).1

  if_ready : (g : Formula) → IsFine scope heads [] g → child_within (if_kid context w g) ≡ true → IsReadyKid (if_kid context w g)
  if_ready g h within =
      let both = and_fine scope heads [] g w.pre h pre_fine in record {
        pre = (small (formula.And g w.pre) (pre_small (if_kid context w g) within), both.0);
        post = ready.post;
        variables = ready.variables;
        no_values = ready.no_values;
        differ = ready.differ;
        no_initial = both.1;
        initial = ready.initial;
      }

  all_if : (gs : List Formula) → Each (IsFine scope heads []) gs → list_all child_within (map (if_kid context w) gs) ≡ true → Each IsReadyKid (map (if_kid context w) gs)
  all_if [] h within = tt
  all_if (g ∷ gs) h within = (
    if_ready g h.0 (and_parts (child_within (if_kid context w g)) (list_all child_within (map (if_kid context w) gs)) within).0,
    all_if gs h.1 (and_parts (child_within (if_kid context w g)) (list_all child_within (map (if_kid context w) gs)) within).1,
  )

  -- what each turn makes
  turn_fine : (t : Term) → IsFine scope heads [] (not_below_0 t) → IsFine scope heads w.frame (turn w t)
  turn_fine t h =
      let own = variant_is_int scope heads [] t h in
      let into : (x : Name) → is_in x w.frame ≡ true → is_listed w.frame x ≡ true = λ x i. listed_in w.frame x ∙ i in
      let before : sort_in scope [] (replaced_term (map to_initial w.frame) t) ≡ Some Int = sort_kept scope scope (map to_initial w.frame) (initial_sorts scope w.frame) 0 [] t Int own.0 ∙ own.0 in
      let outside : term_outside w.frame (replaced_term (map to_initial w.frame) t) ≡ false = outside_term [] w.frame (map to_initial w.frame) (initial_leaves w.frame w.frame into) 0 t own.1 in
      let wider = variant_is_int scope heads w.frame t (wide (not_below_0 t) h) in
      and_fine scope heads w.frame (formula.And w.pre (not_below_0 t)) (is_less w.frame t)
      (and_fine scope heads w.frame w.pre (not_below_0 t) (wide w.pre pre_fine) (wide (not_below_0 t) h))
      (less_fine scope heads w.frame t (replaced_term (map to_initial w.frame) t) own.0 before wider.1 outside)

  do_ready : (t : Term) → IsFine scope heads [] (not_below_0 t) → (g : Formula) → IsFine scope heads [] g → child_within (do_kid context w t g) ≡ true → IsReadyKid (do_kid context w t g)
  do_ready t variant g h within =
      let both = and_fine scope heads [] w.pre g pre_fine h in let after = turn_fine t variant in record {
        pre = (small (formula.And w.pre g) (pre_small (do_kid context w t g) within), both.0);
        post = (small (turn w t) (post_small (do_kid context w t g) within), after.0);
        variables = ready.variables;
        no_values = ready.no_values;
        differ = ready.differ;
        no_initial = both.1;
        initial = after.1;
      }

  all_do : (t : Term) → IsFine scope heads [] (not_below_0 t) → (gs : List Formula) → Each (IsFine scope heads []) gs → list_all child_within (map (do_kid context w t) gs) ≡ true → Each IsReadyKid (map (do_kid context w t) gs)
  all_do t variant [] h within = tt
  all_do t variant (g ∷ gs) h within = (
    do_ready t variant g h.0 (and_parts (child_within (do_kid context w t g)) (list_all child_within (map (do_kid context w t) gs)) within).0,
    all_do t variant gs h.1 (and_parts (child_within (do_kid context w t g)) (list_all child_within (map (do_kid context w t) gs)) within).1,
  )

  module _ (x : Name) (sort : Sort) (fresh : find (has_name x) scope ≡ None) where
    abbrev local : Entry
    local = record { name = x; sort = sort; kind = kind.Local }

    longer : IsReady (scope ++ local ∷ []) heads w
    longer = ready_longer scope (local ∷ []) heads w ready

    -- the local is found as itself
    found : (entries : List Entry) → find (has_name x) entries ≡ None → find (has_name x) (entries ++ local ∷ []) ≡ Some local
    found [] none = let same = bytes_same x x refl in rw same refl
    found (e ∷ entries) none = go (has_name x e) refl (found entries)
      where
        go : (b : Bool) → has_name x e ≡ b → (find (has_name x) entries ≡ None → find (has_name x) (entries ++ local ∷ []) ≡ Some local) → find (has_name x) ((e ∷ entries) ++ local ∷ []) ≡ Some local
        go true is rest = let clash : Some e ≡ None = sym (ap (λ b. if b then Some e else find (has_name x) entries) is) ∙ none in absurd (cc)
        go false is rest = rw is (rest (sym (ap (λ b. if b then Some e else find (has_name x) entries) is) ∙ none))

    here : find (has_name x) (scope ++ local ∷ []) ≡ Some local
    here = found scope fresh

    -- a name of the frame, or the local
    last : (frame : List Name) (y : Name) → is_in y (frame ++ x ∷ []) ≡ (is_in y frame || bytes_eq y x)
    last [] y = or_none (bytes_eq y x)
      where
        or_none : (a : Bool) → (a || false) ≡ a
        or_none true = refl
        or_none false = refl
    last (z ∷ frame) y = ap (λ b. bytes_eq y z || b) (last frame y) ∙ regroup (bytes_eq y z) (is_in y frame) (bytes_eq y x)
      where
        regroup : (a b c : Bool) → (a || (b || c)) ≡ ((a || b) || c)
        regroup true b c = refl
        regroup false b c = refl

    not_there : is_in x w.frame ≡ false
    not_there = false_from_ne_true (is_in x w.frame) (λ i. variable_found scope x (ready.variables x i) fresh)

    once : (frame : List Name) → is_twice frame ≡ false → is_in x frame ≡ false → is_twice (frame ++ x ∷ []) ≡ false
    once [] differ off = refl
    once (y ∷ frame) differ off =
        or_from (is_listed (frame ++ x ∷ []) y) (is_twice (frame ++ x ∷ []))
        (listed_in (frame ++ x ∷ []) y ∙ (last frame y ∙ or_from (is_in y frame) (bytes_eq y x) (sym (listed_in frame y) ∙ (or_parts (is_listed frame y) (is_twice frame) differ).0) (false_from_ne_true (bytes_eq y x) (λ i. true≢false (sym (bytes_same x y (sym (same_bytes y x i))) ∙ (or_parts (bytes_eq x y) (is_in x frame) off).0)))))
        (once frame (or_parts (is_listed frame y) (is_twice frame) differ).1 (or_parts (bytes_eq x y) (is_in x frame) off).1)

    block_ready : IsReady (scope ++ local ∷ []) heads (record { frame = w.frame ++ x ∷ []; pre = w.pre; post = w.post })
    block_ready = record {
      pre = longer.pre;
      post = longer.post;
      variables = λ y i. either (is_some (variable_sort (scope ++ local ∷ []) y) ≡ true) (is_in y w.frame) (bytes_eq y x) (longer.variables y)
          (λ same. ap (λ z. is_some (variable_sort (scope ++ local ∷ []) z)) (same_bytes y x same) ∙ ap (λ o. is_some (option_and_then (λ e. as_variable e.kind e.sort) o)) here) (sym (last w.frame y) ∙ i);
      no_values = λ y i. either (is_value (scope ++ local ∷ []) y ≡ false) (is_in y w.frame) (bytes_eq y x) (longer.no_values y)
          (λ same. ap (is_value (scope ++ local ∷ [])) (same_bytes y x same) ∙ ap is_value_entry here) (sym (last w.frame y) ∙ i);
      differ = once w.frame ready.differ not_there;
      no_initial = ready.no_initial;
      initial = outside_more w.frame (w.frame ++ x ∷ []) w.post (λ y h. listed_in (w.frame ++ x ∷ []) y ∙ (last w.frame y ∙ or_left (is_in y w.frame) (bytes_eq y x) (sym (listed_in w.frame y) ∙ h))) ready.initial;
    }

-- the tests of a loop's shape and code
loop_told : (scope : List Entry) (heads : List Head) (w : Spec) (t : Term) (guards : List Formula) → do_misfit scope heads w t guards ≡ None → code_misfit scope heads (loop_code t guards) ≡ None
loop_told scope heads w t guards e = go (same_formula w.post (loop_post w guards)) e
  where
    go : (b : Bool) → (if not b then Some cause.Shape else code_misfit scope heads (loop_code t guards)) ≡ None → code_misfit scope heads (loop_code t guards) ≡ None
    go true e = e
    go false e = absurd (cc)

-- the tests of a local
local_told : (scope : List Entry) (x : Name) (sort : Sort) → block_misfit scope x sort ≡ None → find (has_name x) scope ≡ None
local_told scope x sort e = go (find (has_name x) scope) refl e
  where
    go : (o : Option Entry) → find (has_name x) scope ≡ o → (if not (not (is_some o)) then Some cause.NotFresh else if not (is_sort sort) then Some cause.Sort else None) ≡ None → find (has_name x) scope ≡ None
    go None is e = is
    go (Some entry) is e = absurd (cc)

pub kids_are_ready : KidsAreReady
unfolding law_of if_law do_law block_law is_within
kids_are_ready context heads w (step.If guards) a ready e =
    let f = fitting (code_misfit context.scope heads (disj guards)) (if_made context w guards) a e in
    let code = is_code context.scope heads (disj guards) f.0 in
    subst (λ b. Each (λ c. IsReady c.context.scope heads c.spec) b.children) f.2
    (all_if context heads w ready guards (disj_parts context.scope heads [] guards (code.keeps, code.initial_free)) (and_parts (list_all sequent_within (if_made context w guards).obligations) _ f.1).1)
kids_are_ready context heads w (step.Do t guards) a ready e =
    let f = fitting (do_misfit context.scope heads w t guards) (do_made context w t guards) a e in
    let code = is_code context.scope heads (loop_code t guards) (loop_told context.scope heads w t guards f.0) in
    let parts = parts_of_and context.scope heads [] (not_below_0 t) (disj guards) (code.keeps, code.initial_free) in
    subst (λ b. Each (λ c. IsReady c.context.scope heads c.spec) b.children) f.2
    (all_do context heads w ready t parts.0 guards (disj_parts context.scope heads [] guards parts.1) (and_parts (list_all sequent_within (do_made context w t guards).obligations) _ f.1).1)
kids_are_ready context heads w (step.Block x sort) a ready e =
    let f = fitting (block_misfit context.scope x sort) (block_made context w x sort) a e in
    subst (λ b. Each (λ c. IsReady c.context.scope heads c.spec) b.children) f.2 (block_ready context heads w ready x sort (local_told context.scope x sort f.0), tt)
