-- What each law leaves to its kids is well-formed where it stands.
use Rattle.std.proofs.Common.{◌≡◌, Bool, true, false, not, if◌then◌else◌, ◌||◌, is_some, List, [], ◌∷◌, ◌++◌, map, find, Option, Some, None, refl, sym, ap, ◌∙◌, true≢false, eqb-true, eq-eqb}
use Rattle.std.proofs.lemmas.Bool.{and_parts, false_from_ne_true, not-false, or_from, or_left, or_parts, or_right}
use Rattle.std.specs.Prelude.{bytes_eq, option_and_then}
use Rattle.std.specs.List.{list_any}
use Rattle.rw_terms.specs.declared.scope.Entry.{Entry}
use Rattle.rw_terms.specs.declared.scope.Head.{Head}
use Rattle.rw_terms.specs.declared.scope.Kind.{Kind}
use Rattle.rw_terms.specs.declared.scope.Kind.TheVariants as kind
use Rattle.rw_terms.specs.declared.term.Sort.{Sort}
use Rattle.rw_terms.specs.declared.term.Sort.TheVariants.{Int, Array}
use Rattle.rw_terms.specs.declared.term.Term.{Term}
use Rattle.rw_terms.specs.declared.term.Term.TheVariants as v
use Rattle.rw_terms.specs.declared.term.Formula.{Formula}
use Rattle.rw_terms.specs.declared.term.Formula.TheVariants as formula
use Rattle.rw_terms.specs.declared.term.Formula.TheOpen.{Formula-F}
use Rattle.rw_terms.specs.Scopes.{has_name, is_fresh}
use Rattle.rw_terms.specs.Sorts.{as_variable, variable_sort}
use Rattle.rw_terms.specs.Formed.{same_sort}
use Rattle.rw_terms.specs.Rules.{may_equal_of, sort_in, keeps_rules}
use Rattle.rw_terms.specs.Validity.{Each}
use Rattle.rw_faults.specs.Limits.{is_small}
use Rattle.rw_faults.specs.Initial.{is_listed, is_twice, term_outside, terms_outside, initial_outside}
use Rattle.rw_subst.specs.declared.slot.Form.TheVariants as form
use Rattle.rw_subst.specs.Slots.{changed}
use Rattle.rw_subst.specs.Replaced.{from_initial, replaced_formula}
use Rattle.rw_subst.specs.Definedness.{definedness_of}
use Rattle.rw_programs.specs.declared.prog.Spec.{Spec}
use Rattle.rw_programs.specs.State.{Name, is_in}
use Rattle.rw_programs.specs.Refine.{is_value, is_value_entry, is_value_kind}
use Rattle.rw_programs.specs.Scoped.{each_set}
use Rattle.rw_meaning.proofs.Tests.{same_bytes, bytes_same}
use Rattle.rw_derived.specs.Causes.{new_cause, is_kind, is_entry_of, is_fixed_kind}
use Rattle.rw_derived.specs.Derived.{set_to, followed_post, without, contracted_post, keeps_value, expanded_post}
use Rattle.rw_soundness.specs.Sound.{IsReady}
use Rattle.rw_soundness.proofs.Bits.{either, listed_in}
use Rattle.rw_soundness.proofs.Causes.{new_tests, Assigning, Expanding}
use Rattle.rw_soundness.proofs.Replaced.{KeepsSorts, replaced_keeps}
use Rattle.rw_soundness.proofs.Outside.{Leaves, replaced_outside}
use Rattle.rw_soundness.proofs.Conditions.{IsFine, fine, and_fine, conj_with_fine, definedness_fine}
use Rattle.rw_soundness.proofs.Unchanged.{plain_sort, plain_outside, outside_more, term_outside_more}
use Rattle.rw_soundness.proofs.Binders.{small, sort_under}
use Rattle.rw_soundness.proofs.Assigning.{sets, have_sorts}

-- a sort is one with itself, and equal sorts are one
pub itself : (s : Sort) → same_sort s s ≡ true
itself Int = refl
itself (Array n) = eq-eqb n n refl

equal_is : (o p : Option Sort) → may_equal_of o p ≡ true → p ≡ o
equal_is None p e = absurd (true≢false (sym e))
equal_is (Some s) None e = absurd (true≢false (sym e))
equal_is (Some Int) (Some Int) e = refl
equal_is (Some Int) (Some (Array n)) e = absurd (true≢false (sym e))
equal_is (Some (Array m)) (Some Int) e = absurd (true≢false (sym e))
equal_is (Some (Array m)) (Some (Array n)) e = ap (λ k. Some (Array k)) (sym (eqb-true m n e))

pub none_listed : (names : List Name) (x : Name) → is_listed [] x ≡ true → is_listed names x ≡ true
none_listed names x h = absurd (true≢false (sym h))

module _ (scope : List Entry) (heads : List Head) (w : Spec) (ready : IsReady scope heads w) where
  pub weaken_ready : (f : Formula) → new_cause scope heads [] f ≡ None → is_small f ≡ true → IsReady scope heads (record { frame = w.frame; pre = f; post = w.post })
  weaken_ready f cause within =
      let tests = new_tests scope heads [] f cause in
      record {
        pre = (small f within, tests.1);
        post = ready.post;
        variables = ready.variables;
        no_values = ready.no_values;
        differ = ready.differ;
        no_initial = tests.0;
        initial = ready.initial;
      }

  pub strengthen_ready : (f : Formula) → (initial_outside w.frame f ≡ false) × (keeps_rules scope heads f [] ≡ true) → is_small f ≡ true → IsReady scope heads (record { frame = w.frame; pre = w.pre; post = f })
  strengthen_ready f tests within = record {
    pre = ready.pre;
    post = (small f within, tests.1);
    variables = ready.variables;
    no_values = ready.no_values;
    differ = ready.differ;
    no_initial = ready.no_initial;
    initial = tests.0;
  }

  -- the same, where the formula has no initial variable
  pub first_ready : (f : Formula) → (initial_outside [] f ≡ false) × (keeps_rules scope heads f [] ≡ true) → is_small f ≡ true → IsReady scope heads (record { frame = w.frame; pre = w.pre; post = f })
  first_ready f tests within = strengthen_ready f (outside_more [] w.frame f (none_listed w.frame) tests.0, tests.1) within

-- terms put for variables have their sorts
set_sorts : (scope : List Entry) (names : List Name) (terms : List Term) → each_set scope names terms ≡ true → KeepsSorts scope scope (set_to names terms)
set_sorts scope [] terms e g x s h b = plain_sort scope g x b ∙ h
set_sorts scope (y ∷ names) [] e g x s h b = plain_sort scope g x b ∙ h
set_sorts scope (y ∷ names) (t ∷ terms) e form.Variable x s h b =
    one (bytes_eq x y) refl (set_sorts scope names terms (and_parts (may_equal_of (variable_sort scope y) (sort_in scope [] t)) (each_set scope names terms) e).1 form.Variable x s h b)
  where
    one : (c : Bool) → bytes_eq x y ≡ c → sort_in scope b (changed (set_to names terms) form.Variable x) ≡ Some s → sort_in scope b (changed (set_to (y ∷ names) (t ∷ terms)) form.Variable x) ≡ Some s
    one true i rest =
        let of_y = ap (variable_sort scope) (sym (same_bytes x y i)) ∙ h in
        let here = equal_is (variable_sort scope y) (sort_in scope [] t) (and_parts (may_equal_of (variable_sort scope y) (sort_in scope [] t)) (each_set scope names terms) e).0 ∙ of_y in
        (λ j. sort_in scope b (if (i j) then t else changed (set_to names terms) form.Variable x)) ∙ (sort_under scope b t s here ∙ here)
    one false i rest = (λ j. sort_in scope b (if (i j) then t else changed (set_to names terms) form.Variable x)) ∙ rest
set_sorts scope (y ∷ names) (t ∷ terms) e form.Initial x s h b =
    set_sorts scope names terms (and_parts (may_equal_of (variable_sort scope y) (sort_in scope [] t)) (each_set scope names terms) e).1 form.Initial x s h b
set_sorts scope (y ∷ names) (t ∷ terms) e form.Constant x s h b =
    set_sorts scope names terms (and_parts (may_equal_of (variable_sort scope y) (sort_in scope [] t)) (each_set scope names terms) e).1 form.Constant x s h b

-- and bring no initial variable
set_outside : (left names : List Name) (terms : List Term) → terms_outside left terms ≡ false → Leaves left left (set_to names terms)
set_outside left [] terms o g x h = plain_outside left g x ∙ h
set_outside left (y ∷ names) [] o g x h = plain_outside left g x ∙ h
set_outside left (y ∷ names) (t ∷ terms) o form.Variable x h =
    one (bytes_eq x y) refl (set_outside left names terms (or_parts (term_outside left t) (terms_outside left terms) o).1 form.Variable x h)
  where
    one : (c : Bool) → bytes_eq x y ≡ c → term_outside left (changed (set_to names terms) form.Variable x) ≡ false → term_outside left (changed (set_to (y ∷ names) (t ∷ terms)) form.Variable x) ≡ false
    one true i rest = (λ j. term_outside left (if (i j) then t else changed (set_to names terms) form.Variable x)) ∙ (or_parts (term_outside left t) (terms_outside left terms) o).0
    one false i rest = (λ j. term_outside left (if (i j) then t else changed (set_to names terms) form.Variable x)) ∙ rest
set_outside left (y ∷ names) (t ∷ terms) o form.Initial x h = set_outside left names terms (or_parts (term_outside left t) (terms_outside left terms) o).1 form.Initial x h
set_outside left (y ∷ names) (t ∷ terms) o form.Constant x h = set_outside left names terms (or_parts (term_outside left t) (terms_outside left terms) o).1 form.Constant x h

terms_more : (left : List Name) (terms : List Term) → terms_outside [] terms ≡ false → terms_outside left terms ≡ false
terms_more left [] o = refl
terms_more left (t ∷ terms) o =
    or_from _ _ (term_outside_more [] left t (none_listed left) (or_parts (term_outside [] t) (terms_outside [] terms) o).0) (terms_more left terms (or_parts (term_outside [] t) (terms_outside [] terms) o).1)

module _ (scope : List Entry) (heads : List Head) (w : Spec) (ready : IsReady scope heads w) where
  pub follow_ready : (names : List Name) (terms : List Term) → Assigning scope w names terms → is_small (followed_post scope w names terms) ≡ true
      → IsReady scope heads (record { frame = w.frame; pre = w.pre; post = followed_post scope w names terms })
  follow_ready names terms tests within =
      let set_well = sets scope w.frame ready.variables names terms tests.in_frame tests.sorted tests.known in
      let none = terms_more w.frame terms tests.no_initial in
      let post : IsFine scope heads w.frame (replaced_formula (set_to names terms) w.post) = (replaced_keeps scope scope (set_to names terms) (set_sorts scope names terms set_well) heads w.post ready.post.1, replaced_outside w.frame w.frame (set_to names terms) (set_outside w.frame names terms none) w.post ready.initial) in
      let both = and_fine scope heads w.frame (replaced_formula (set_to names terms) w.post) (definedness_of scope terms) post
      (definedness_fine scope heads w.frame terms (have_sorts scope names terms tests.long set_well) none) in
      strengthen_ready scope heads w ready (followed_post scope w names terms) (both.1, both.0) within

-- initial variables put back to variables
back_sorts : (scope : List Entry) (names : List Name) → KeepsSorts scope scope (map from_initial names)
back_sorts scope [] g x s h b = plain_sort scope g x b ∙ h
back_sorts scope (y ∷ names) form.Variable x s h b = back_sorts scope names form.Variable x s h b
back_sorts scope (y ∷ names) form.Initial x s h b = one (bytes_eq x y) refl (back_sorts scope names form.Initial x s h b)
  where
    one : (c : Bool) → bytes_eq x y ≡ c → sort_in scope b (changed (map from_initial names) form.Initial x) ≡ Some s → sort_in scope b (changed (map from_initial (y ∷ names)) form.Initial x) ≡ Some s
    one true i rest =
        (λ j. sort_in scope b (if (i j) then v.Var y else changed (map from_initial names) form.Initial x))
        ∙ (plain_sort scope form.Variable y b ∙ (ap (variable_sort scope) (sym (same_bytes x y i)) ∙ h))
    one false i rest = (λ j. sort_in scope b (if (i j) then v.Var y else changed (map from_initial names) form.Initial x)) ∙ rest
back_sorts scope (y ∷ names) form.Constant x s h b = back_sorts scope names form.Constant x s h b

-- a name of the frame that is not taken out is left
kept_in : (names frame : List Name) (x : Name) → is_in x frame ≡ true → is_in x names ≡ false → is_in x (without names frame) ≡ true
kept_in names [] x i out = absurd (true≢false (sym i))
kept_in names (y ∷ frame) x i out = go (not (is_listed names y)) refl (bytes_eq x y) refl (λ k. kept_in names frame x k out)
  where
    go : (b : Bool) → not (is_listed names y) ≡ b → (c : Bool) → bytes_eq x y ≡ c → (is_in x frame ≡ true → is_in x (without names frame) ≡ true) → is_in x (without names (y ∷ frame)) ≡ true
    go true t true e ih = rw t (rw e)
    go true t false e ih = rw t (rw e (ih (sym (ap (λ d. d || is_in x frame) e) ∙ i)))
    go false t true e ih = absurd (true≢false (sym (not-false (is_listed names y) t) ∙ (listed_in names y ∙ (ap (λ z. is_in z names) (sym (same_bytes x y e)) ∙ out))))
    go false t false e ih = rw t (ih (sym (ap (λ d. d || is_in x frame) e) ∙ i))

-- what is left is of the frame
left_of : (names frame : List Name) (x : Name) → is_in x (without names frame) ≡ true → is_in x frame ≡ true
left_of names [] x i = i
left_of names (y ∷ frame) x i = go (not (is_listed names y)) refl i (left_of names frame x)
  where
    taken : not (is_listed names y) ≡ true → is_in x (without names (y ∷ frame)) ≡ (bytes_eq x y || is_in x (without names frame))
    taken t = rw t

    dropped : not (is_listed names y) ≡ false → is_in x (without names (y ∷ frame)) ≡ is_in x (without names frame)
    dropped t = rw t

    go : (b : Bool) → not (is_listed names y) ≡ b → is_in x (without names (y ∷ frame)) ≡ true → (is_in x (without names frame) ≡ true → is_in x frame ≡ true) → is_in x (y ∷ frame) ≡ true
    go true t i ih = either (is_in x (y ∷ frame) ≡ true) (bytes_eq x y) (is_in x (without names frame)) (λ e. ap (λ d. d || is_in x frame) e) (λ k. or_right (bytes_eq x y) (is_in x frame) (ih k)) (sym (taken t) ∙ i)
    go false t i ih = or_right (bytes_eq x y) (is_in x frame) (ih (sym (dropped t) ∙ i))

-- the names that are left differ
still_differ : (names frame : List Name) → is_twice frame ≡ false → is_twice (without names frame) ≡ false
still_differ names [] e = refl
still_differ names (y ∷ frame) e = go (not (is_listed names y)) refl (still_differ names frame (or_parts (is_listed frame y) (is_twice frame) e).1)
  where
    go : (b : Bool) → not (is_listed names y) ≡ b → is_twice (without names frame) ≡ false → is_twice (without names (y ∷ frame)) ≡ false
    go false t ih = rw t ih
    go true t ih =
        rw t (or_from _ _ (false_from_ne_true (is_listed (without names frame) y) (λ i. true≢false (sym (listed_in frame y ∙ left_of names frame y (sym (listed_in (without names frame) y) ∙ i)) ∙ (or_parts (is_listed frame y) (is_twice frame) e).0))) ih)

back_outside : (names frame : List Name) → Leaves frame (without names frame) (map from_initial names)
back_outside names frame form.Variable x h = past names
  where
    past : (ns : List Name) → term_outside (without names frame) (changed (map from_initial ns) form.Variable x) ≡ false
    past [] = plain_outside (without names frame) form.Variable x
    past (y ∷ ns) = past ns
back_outside names frame form.Constant x h = past names
  where
    past : (ns : List Name) → term_outside (without names frame) (changed (map from_initial ns) form.Constant x) ≡ false
    past [] = plain_outside (without names frame) form.Constant x
    past (y ∷ ns) = past ns
back_outside names frame form.Initial x h = found names (λ i. i)
  where
    left : List Name
    left = without names frame

    in_frame : is_in x frame ≡ true
    in_frame = sym (listed_in frame x) ∙ not-false (is_listed frame x) h

    -- where the name is not among these, it is among those behind or is left
    found : (ns : List Name) → (is_in x names ≡ true → is_in x ns ≡ true) → term_outside (without names frame) (changed (map from_initial ns) form.Initial x) ≡ false
    found [] to =
        plain_outside (without names frame) form.Initial x
        ∙ ap not (listed_in (without names frame) x ∙ kept_in names frame x in_frame (false_from_ne_true (is_in x names) (λ i. true≢false (sym (to i)))))
    found (y ∷ ns) to = one (bytes_eq x y) refl (found ns)
      where
        one : (c : Bool) → bytes_eq x y ≡ c → ((is_in x names ≡ true → is_in x ns ≡ true) → term_outside (without names frame) (changed (map from_initial ns) form.Initial x) ≡ false)
            → term_outside (without names frame) (changed (map from_initial (y ∷ ns)) form.Initial x) ≡ false
        one true i rest =
            (λ j. term_outside (without names frame) (if (i j) then v.Var y else changed (map from_initial ns) form.Initial x)) ∙ plain_outside (without names frame) form.Variable y
        one false i rest =
            (λ j. term_outside (without names frame) (if (i j) then v.Var y else changed (map from_initial ns) form.Initial x)) ∙ rest (λ k. sym (ap (λ d. d || is_in x ns) i) ∙ to k)

module _ (scope : List Entry) (heads : List Head) (w : Spec) (ready : IsReady scope heads w) (names : List Name) where
  pub contract_ready : is_small (contracted_post w names) ≡ true → IsReady scope heads (record { frame = without names w.frame; pre = w.pre; post = contracted_post w names })
  contract_ready within = record {
    pre = ready.pre;
    post = (small (contracted_post w names) within, replaced_keeps scope scope (map from_initial names) (back_sorts scope names) heads w.post ready.post.1);
    variables = λ x i. ready.variables x (left_of names w.frame x i);
    no_values = λ x i. ready.no_values x (left_of names w.frame x i);
    differ = still_differ names w.frame ready.differ;
    no_initial = ready.no_initial;
    initial = replaced_outside w.frame (without names w.frame) (map from_initial names) (back_outside names w.frame) w.post ready.initial;
  }

  -- a name that is found and is no value and no constant is a variable
  free_variable : (o : Option Entry) → not (is_some o) ≡ false → is_entry_of is_fixed_kind o ≡ false → is_some (option_and_then (λ e. as_variable e.kind e.sort) o) ≡ true
  free_variable None found free = absurd (true≢false found)
  free_variable (Some e) found free = by_kind e.kind free
    where
      by_kind : (k : Kind) → is_fixed_kind k ≡ false → is_some (as_variable k e.sort) ≡ true
      by_kind kind.Global f = refl
      by_kind kind.Local f = refl
      by_kind kind.Constant f = absurd (true≢false f)
      by_kind kind.Value f = absurd (true≢false f)
      by_kind kind.Outcome f = refl
      by_kind kind.Module f = refl

  free_value : (o : Option Entry) → is_entry_of is_fixed_kind o ≡ false → is_value_entry o ≡ false
  free_value None free = refl
  free_value (Some e) free = by_kind e.kind free
    where
      by_kind : (k : Kind) → is_fixed_kind k ≡ false → is_value_kind k ≡ false
      by_kind kind.Global f = refl
      by_kind kind.Local f = refl
      by_kind kind.Constant f = refl
      by_kind kind.Value f = absurd (true≢false f)
      by_kind kind.Outcome f = refl
      by_kind kind.Module f = refl

  -- what holds of none of the names does not hold of one of them
  none_of : (test : Name → Bool) (xs : List Name) → list_any test xs ≡ false → (x : Name) → is_in x xs ≡ true → test x ≡ false
  none_of test [] e x i = absurd (true≢false (sym i))
  none_of test (y ∷ xs) e x i =
      either (test x ≡ false) (bytes_eq x y) (is_in x xs) (λ q. ap test (same_bytes x y q) ∙ (or_parts (test y) (list_any test xs) e).0) (none_of test xs (or_parts (test y) (list_any test xs) e).1 x) i

  in_either : (xs ys : List Name) (x : Name) → is_in x (xs ++ ys) ≡ (is_in x xs || is_in x ys)
  in_either [] ys x = refl
  in_either (y ∷ xs) ys x = ap (λ b. bytes_eq x y || b) (in_either xs ys x) ∙ regroup (bytes_eq x y) (is_in x xs) (is_in x ys)
    where
      regroup : (a b c : Bool) → (a || (b || c)) ≡ ((a || b) || c)
      regroup true b c = refl
      regroup false b c = refl

  all_differ : (xs ys : List Name) → is_twice xs ≡ false → is_twice ys ≡ false → list_any (is_listed xs) ys ≡ false → is_twice (xs ++ ys) ≡ false
  all_differ [] ys a b c = b
  all_differ (x ∷ xs) ys a b c =
      or_from _ _
      (listed_in (xs ++ ys) x ∙ (in_either xs ys x ∙ or_from _ _ (sym (listed_in xs x) ∙ (or_parts (is_listed xs x) (is_twice xs) a).0) (false_from_ne_true (is_in x ys) (λ i. true≢false (sym (first i) ∙ none_of (is_listed (x ∷ xs)) ys c x i)))))
      (all_differ xs ys (or_parts (is_listed xs x) (is_twice xs) a).1 b (fewer ys c))
    where
      first : is_in x ys ≡ true → is_listed (x ∷ xs) x ≡ true
      first i = ap (λ b. b || is_listed xs x) (bytes_same x x refl)

      fewer : (zs : List Name) → list_any (is_listed (x ∷ xs)) zs ≡ false → list_any (is_listed xs) zs ≡ false
      fewer [] e = refl
      fewer (z ∷ zs) e =
          or_from _ _ (or_parts (bytes_eq z x) (is_listed xs z) (or_parts (is_listed (x ∷ xs) z) (list_any (is_listed (x ∷ xs)) zs) e).0).1 (fewer zs (or_parts (is_listed (x ∷ xs) z) (list_any (is_listed (x ∷ xs)) zs) e).1)

  -- each of the added formulas
  keeps_fine : (xs : List Name) → ((x : Name) → is_in x xs ≡ true → is_some (variable_sort scope x) ≡ true) → ((x : Name) → is_in x xs ≡ true → is_in x (w.frame ++ names) ≡ true) → Each (IsFine scope heads (w.frame ++ names)) (map keeps_value xs)
  keeps_fine [] there into = tt
  keeps_fine (y ∷ xs) there into = (
    fine scope heads (w.frame ++ names) (Formula-F.Eq (v.Var y) (v.Init y)) (keeps_value y) (formula.rolls-Eq (v.Var y) (v.Init y))
        ((λ i. may_equal_of (plain_sort scope form.Variable y [] i) (plain_sort scope form.Initial y [] i)) ∙ same_there (variable_sort scope y) (there y (or_left (bytes_eq y y) (is_in y xs) (bytes_same y y refl))))
        (or_from _ _ (plain_outside (w.frame ++ names) form.Variable y)
        (plain_outside (w.frame ++ names) form.Initial y ∙ ap not (listed_in (w.frame ++ names) y ∙ into y (or_left (bytes_eq y y) (is_in y xs) (bytes_same y y refl))))),
    keeps_fine xs (λ x i. there x (or_right (bytes_eq x y) (is_in x xs) i)) (λ x i. into x (or_right (bytes_eq x y) (is_in x xs) i)),
  )
    where
      same_there : (o : Option Sort) → is_some o ≡ true → may_equal_of o o ≡ true
      same_there None e = absurd (true≢false (sym e))
      same_there (Some s) e = itself s

  pub expand_ready : Expanding scope w names → is_twice names ≡ false → is_small (expanded_post w names) ≡ true → IsReady scope heads (record { frame = w.frame ++ names; pre = w.pre; post = expanded_post w names })
  expand_ready tests once within = record {
    pre = ready.pre;
    post = (small (expanded_post w names) within, all.0);
    variables = λ x i. either (is_some (variable_sort scope x) ≡ true) (is_in x w.frame) (is_in x names) (ready.variables x) (added x) (sym (in_either w.frame names x) ∙ i);
    no_values = λ x i. either (is_value scope x ≡ false) (is_in x w.frame) (is_in x names) (ready.no_values x) (λ n. free_value (find (has_name x) scope) (none_of (is_kind is_fixed_kind scope) names tests.no_fixed x n)) (sym (in_either w.frame names x) ∙ i);
    differ = all_differ w.frame names ready.differ once tests.no_frame;
    no_initial = ready.no_initial;
    initial = all.1;
  }
    where
      added : (x : Name) → is_in x names ≡ true → is_some (variable_sort scope x) ≡ true
      added x n = free_variable (find (has_name x) scope) (none_of (λ y. is_fresh y scope) names tests.found x n) (none_of (is_kind is_fixed_kind scope) names tests.no_fixed x n)

      all : IsFine scope heads (w.frame ++ names) (expanded_post w names)
      all = conj_with_fine scope heads (w.frame ++ names) w.post (map keeps_value names)
          (ready.post.1, outside_more w.frame (w.frame ++ names) w.post (λ x h. listed_in (w.frame ++ names) x ∙ (in_either w.frame names x ∙ or_left (is_in x w.frame) (is_in x names) (sym (listed_in w.frame x) ∙ h))) ready.initial)
          (keeps_fine names added (λ x i. in_either w.frame names x ∙ or_right (is_in x w.frame) (is_in x names) i))
