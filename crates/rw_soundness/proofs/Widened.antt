-- What the laws of constants leave to their kids is well-formed in the wider scope.
use Rattle.std.proofs.Common.{◌≡◌, ℕ, suc, Bool, true, false, if◌then◌else◌, ◌||◌, is_some, length, List, [], ◌∷◌, ◌++◌, find, Some, None, refl, sym, ap, ◌∙◌, true≢false}
use Rattle.std.proofs.lemmas.Bool.{false_from_ne_true, not-false, or_from, or_parts, or_right}
use Rattle.std.specs.Prelude.{bytes_eq, option_and_then}
use Rattle.rw_terms.specs.declared.scope.Entry.{Entry}
use Rattle.rw_terms.specs.declared.scope.Head.{Head}
use Rattle.rw_terms.specs.declared.term.Sort.{Sort}
use Rattle.rw_terms.specs.declared.term.Term.{Term}
use Rattle.rw_terms.specs.declared.term.Term.TheVariants as v
use Rattle.rw_terms.specs.declared.term.Formula.{Formula}
use Rattle.rw_terms.specs.declared.term.Formula.TheVariants as formula
use Rattle.rw_terms.specs.declared.term.Formula.TheOpen.{Formula-F}
use Rattle.rw_terms.specs.Scopes.{has_name, is_fresh}
use Rattle.rw_terms.specs.Sorts.{as_constant, variable_sort, constant_sort}
use Rattle.rw_terms.specs.Rules.{may_equal_of, sort_in}
use Rattle.rw_faults.specs.Limits.{is_small}
use Rattle.rw_faults.specs.Initial.{is_listed, is_twice, term_outside}
use Rattle.rw_subst.specs.declared.slot.Form.{Form}
use Rattle.rw_subst.specs.declared.slot.Form.TheVariants as form
use Rattle.rw_subst.specs.Slots.{changed}
use Rattle.rw_programs.specs.declared.prog.Spec.{Spec}
use Rattle.rw_programs.specs.declared.prog.Pin.{Pin}
use Rattle.rw_programs.specs.State.{Name, is_in}
use Rattle.rw_programs.specs.Refine.{is_value, is_value_entry}
use Rattle.rw_meaning.proofs.Tests.{same_bytes, bytes_same}
use Rattle.rw_derived.specs.Causes.{each_is}
use Rattle.rw_derived.specs.Derived.{with_constants, with_constant, constants_for, constant, sort_or_int, pinned_to, pinned, pinned_pre}
use Rattle.rw_soundness.specs.Sound.{IsReady}
use Rattle.rw_soundness.proofs.Bits.{listed_in}
use Rattle.rw_soundness.proofs.Causes.{Naming, Pinning}
use Rattle.rw_soundness.proofs.Constants as blocks
use Rattle.rw_soundness.proofs.Constants.{AreFor, entry_names}
use Rattle.rw_soundness.proofs.Pinned as own
use Rattle.rw_soundness.proofs.Pinned.{sort_taken, sort_there}
use Rattle.rw_soundness.proofs.Replaced.{form_sort, KeepsSorts, replaced_keeps}
use Rattle.rw_soundness.proofs.Outside.{Leaves, replaced_outside}
use Rattle.rw_soundness.proofs.Conditions.{IsFine, fine, and_fine}
use Rattle.rw_soundness.proofs.Unchanged.{plain_sort, plain_outside, keeps_wider, outside_more, sort_wider}
use Rattle.rw_soundness.proofs.Binders.{small}
use Rattle.rw_soundness.proofs.Readiness.{itself, none_listed}
use Rattle.rw_soundness.proofs.Longer.{found_by, same_form}

module _ (scope : List Entry) (heads : List Head) (w : Spec) (ready : IsReady scope heads w) (pins : List Pin) (es : List Entry) (are : AreFor scope pins es) (fresh : each_is (λ x. is_fresh x scope) (entry_names es) ≡ true) (once : is_twice (entry_names es) ≡ false) (in_scope : (x : Name) → is_in x w.frame ≡ true → find (has_name x) scope ≡ None → ⊥) where
  abbrev pub inner : List Entry
  inner = scope ++ es

  pub wider : (g : Form) (x : Name) (s : Sort) → form_sort scope g x ≡ Some s → form_sort inner g x ≡ Some s
  wider g x s h = same_form scope inner g x (blocks.found_before scope pins es are fresh once x (found_by scope g x s h)) ∙ h

  pub still_variables : (x : Name) → is_in x w.frame ≡ true → is_some (variable_sort inner x) ≡ true
  still_variables x i = ap is_some (same_form scope inner form.Variable x (blocks.found_before scope pins es are fresh once x (in_scope x i))) ∙ ready.variables x i

  pub still_no_values : (x : Name) → is_in x w.frame ≡ true → is_value inner x ≡ false
  still_no_values x i = ap is_value_entry (blocks.found_before scope pins es are fresh once x (in_scope x i)) ∙ ready.no_values x i

module _ (scope : List Entry) (heads : List Head) (w : Spec) (ready : IsReady scope heads w) where
  module _ (x : Name) (t : Term) (tests : Naming scope x t) where
    abbrev pins : List Pin
    pins = own.own_pins scope heads w ready x t tests

    abbrev es : List Entry
    es = own.own_entries scope heads w ready x t tests

    are : AreFor scope pins es
    are = own.own scope heads w ready x t tests

    new : each_is (λ y. is_fresh y scope) (entry_names es) ≡ true
    new = own.new scope heads w ready x t tests

    abbrev sort : Sort
    sort = sort_or_int (sort_in scope [] t)

    sorted : sort_in scope [] t ≡ Some sort
    sorted = let s = own.sorted scope heads w ready x t tests in sort_taken (sort_in scope [] t) s.0 s.1

    wider_here : (g : Form) (y : Name) (s : Sort) → form_sort scope g y ≡ Some s → form_sort (with_constant scope x t) g y ≡ Some s
    wider_here = wider scope heads w ready pins es are new refl (own.in_scope scope heads w ready)

    -- the constant has the sort of the term
    constant_there : sort_in (with_constant scope x t) [] (v.Const x) ≡ Some sort
    constant_there =
        plain_sort (with_constant scope x t) form.Constant x []
        ∙ ap (option_and_then (λ e. as_constant e.kind e.sort)) (((blocks.extended scope pins es are new refl).new x (ap (λ b. b || false) (bytes_same x x refl))).0 ∙ first (bytes_eq x x) (bytes_same x x refl))
      where
        first : (b : Bool) → bytes_eq x x ≡ true → find (has_name x) es ≡ Some (constant x (sort_in scope [] t))
        first b e = rw e

    pub con_ready : is_small (pinned_pre w x t) ≡ true → IsReady (with_constant scope x t) heads (record { frame = w.frame; pre = pinned_pre w x t; post = w.post })
    con_ready within = record {
      pre = (small (pinned_pre w x t) within, both.0);
      post = (ready.post.0, keeps_wider scope (with_constant scope x t) heads w.post wider_here ready.post.1);
      variables = still_variables scope heads w ready pins es are new refl (own.in_scope scope heads w ready);
      no_values = still_no_values scope heads w ready pins es are new refl (own.in_scope scope heads w ready);
      differ = ready.differ;
      no_initial = both.1;
      initial = ready.initial;
    }
      where
        equation : IsFine (with_constant scope x t) heads [] (formula.Eq (v.Const x) t)
        equation =
            fine (with_constant scope x t) heads [] (Formula-F.Eq (v.Const x) t) (formula.Eq (v.Const x) t) (formula.rolls-Eq (v.Const x) t)
            ((λ i. may_equal_of (constant_there i) (sort_wider scope (with_constant scope x t) t sort wider_here sorted i)) ∙ itself sort)
            (or_from _ _ (plain_outside [] form.Constant x) tests.no_initial)

        both : IsFine (with_constant scope x t) heads [] (pinned_pre w x t)
        both = and_fine (with_constant scope x t) heads [] w.pre (formula.Eq (v.Const x) t) (keeps_wider scope (with_constant scope x t) heads w.pre wider_here ready.pre.1, ready.no_initial) equation

  -- each constant has in a scope the sort that its variable has
  abbrev PairSorts : List Entry → List Name → List Name → Type 0
  PairSorts there [] names = Unit {0}
  PairSorts there (y ∷ frame) [] = Unit {0}
  PairSorts there (y ∷ frame) (c ∷ names) = (constant_sort there c ≡ variable_sort scope y) × PairSorts there frame names

  move : (there more : List Entry) (frame names : List Name) → ((c : Name) → is_in c names ≡ true → find (has_name c) more ≡ find (has_name c) there) → PairSorts there frame names → PairSorts more frame names
  move there more [] names same h = tt
  move there more (y ∷ frame) [] same h = tt
  move there more (y ∷ frame) (c ∷ names) same h = (
    same_form there more form.Constant c (same c (ap (λ b. b || is_in c names) (bytes_same c c refl))) ∙ h.0,
    move there more frame names (λ d i. same d (or_right (bytes_eq d c) (is_in d names) i)) h.1,
  )

  pairs : (frame names : List Name) → ((y : Name) → is_in y frame ≡ true → is_some (variable_sort scope y) ≡ true) → is_twice names ≡ false → PairSorts (constants_for scope frame names) frame names
  pairs [] names there once = tt
  pairs (y ∷ frame) [] there once = tt
  pairs (y ∷ frame) (c ∷ names) there once = (
    ap (option_and_then (λ e. as_constant e.kind e.sort)) first ∙ sym (sort_there (variable_sort scope y) (there y (ap (λ b. b || is_in y frame) (bytes_same y y refl)))),
    move (constants_for scope frame names) (constants_for scope (y ∷ frame) (c ∷ names)) frame names (λ d i. past d i) (pairs frame names (λ z i. there z (or_right (bytes_eq z y) (is_in z frame) i)) (or_parts (is_listed names c) (is_twice names) once).1),
  )
    where
      first : find (has_name c) (constants_for scope (y ∷ frame) (c ∷ names)) ≡ Some (constant c (variable_sort scope y))
      first = let e = bytes_same c c refl in rw e

      past : (d : Name) → is_in d names ≡ true → find (has_name d) (constants_for scope (y ∷ frame) (c ∷ names)) ≡ find (has_name d) (constants_for scope frame names)
      past d i = let e = false_from_ne_true (bytes_eq c d) (λ q. true≢false (sym (listed_in names c ∙ (ap (λ z. is_in z names) (same_bytes c d q) ∙ i)) ∙ (or_parts (is_listed names c) (is_twice names) once).0)) in rw e

  module _ (there : List Entry) where
    pinned_sorts : (frame names : List Name) → PairSorts there frame names → ((y : Name) → is_in y frame ≡ true → variable_sort there y ≡ variable_sort scope y) → KeepsSorts there there (pinned_to frame names)
    pinned_sorts [] names h same g x s e b = plain_sort there g x b ∙ e
    pinned_sorts (y ∷ frame) [] h same g x s e b = plain_sort there g x b ∙ e
    pinned_sorts (y ∷ frame) (c ∷ names) h same form.Variable x s e b = pinned_sorts frame names h.1 (λ z i. same z (or_right (bytes_eq z y) (is_in z frame) i)) form.Variable x s e b
    pinned_sorts (y ∷ frame) (c ∷ names) h same form.Constant x s e b = pinned_sorts frame names h.1 (λ z i. same z (or_right (bytes_eq z y) (is_in z frame) i)) form.Constant x s e b
    pinned_sorts (y ∷ frame) (c ∷ names) h same form.Initial x s e b =
        one (bytes_eq x y) refl (pinned_sorts frame names h.1 (λ z i. same z (or_right (bytes_eq z y) (is_in z frame) i)) form.Initial x s e b)
      where
        one : (q : Bool) → bytes_eq x y ≡ q → sort_in there b (changed (pinned_to frame names) form.Initial x) ≡ Some s → sort_in there b (changed (pinned_to (y ∷ frame) (c ∷ names)) form.Initial x) ≡ Some s
        one true i rest =
            (λ j. sort_in there b (if (i j) then v.Const c else changed (pinned_to frame names) form.Initial x))
            ∙ (plain_sort there form.Constant c b ∙ (h.0 ∙ (sym (same y (ap (λ d. d || is_in y frame) (bytes_same y y refl))) ∙ (ap (variable_sort there) (sym (same_bytes x y i)) ∙ e))))
        one false i rest = (λ j. sort_in there b (if (i j) then v.Const c else changed (pinned_to frame names) form.Initial x)) ∙ rest

  -- no initial variable of the frame is left
  gone : (frame names : List Name) → length frame ≡ length names → (x : Name) → is_in x frame ≡ true → term_outside [] (changed (pinned_to frame names) form.Initial x) ≡ false
  gone [] names long x i = absurd (true≢false (sym i))
  gone (y ∷ frame) [] long x i = absurd (cc)
  gone (y ∷ frame) (c ∷ names) long x i = one (bytes_eq x y) refl (gone frame names (lower (length frame) (length names) long) x)
    where
      lower : (a b : ℕ) → suc a ≡ suc b → a ≡ b
      lower a b q = cc

      one : (q : Bool) → bytes_eq x y ≡ q → (is_in x frame ≡ true → term_outside [] (changed (pinned_to frame names) form.Initial x) ≡ false) → term_outside [] (changed (pinned_to (y ∷ frame) (c ∷ names)) form.Initial x) ≡ false
      one true e ih = (λ j. term_outside [] (if (e j) then v.Const c else changed (pinned_to frame names) form.Initial x)) ∙ plain_outside [] form.Constant c
      one false e ih = (λ j. term_outside [] (if (e j) then v.Const c else changed (pinned_to frame names) form.Initial x)) ∙ ih (sym (ap (λ d. d || is_in x frame) e) ∙ i)

  others : (frame names : List Name) (x : Name) → (term_outside [] (changed (pinned_to frame names) form.Variable x) ≡ false) × (term_outside [] (changed (pinned_to frame names) form.Constant x) ≡ false)
  others [] names x = (plain_outside [] form.Variable x, plain_outside [] form.Constant x)
  others (y ∷ frame) [] x = (plain_outside [] form.Variable x, plain_outside [] form.Constant x)
  others (y ∷ frame) (c ∷ names) x = others frame names x

  pinned_outside : (frame names : List Name) → length frame ≡ length names → Leaves frame [] (pinned_to frame names)
  pinned_outside frame names long form.Variable x h = (others frame names x).0
  pinned_outside frame names long form.Initial x h = gone frame names long x (sym (listed_in frame x) ∙ not-false (is_listed frame x) h)
  pinned_outside frame names long form.Constant x h = (others frame names x).1

  module _ (names : List Name) (f : Formula) (tests : Pinning scope heads w names f) where
    abbrev all_pins : List Pin
    all_pins = own.pins scope heads w ready names f tests

    abbrev entries : List Entry
    entries = own.es scope heads w ready names f tests

    are_all : AreFor scope all_pins entries
    are_all = own.are scope heads w ready names f tests

    all_fresh : each_is (λ y. is_fresh y scope) (entry_names entries) ≡ true
    all_fresh = own.fresh scope heads w ready names f tests

    all_once : is_twice (entry_names entries) ≡ false
    all_once = own.once scope heads w ready names f tests

    abbrev wide : List Entry
    wide = with_constants scope w.frame names

    wider_all : (g : Form) (y : Name) (s : Sort) → form_sort scope g y ≡ Some s → form_sort wide g y ≡ Some s
    wider_all = wider scope heads w ready all_pins entries are_all all_fresh all_once (own.in_scope scope heads w ready)

    variables : (y : Name) → is_in y w.frame ≡ true → is_some (variable_sort wide y) ≡ true
    variables = still_variables scope heads w ready all_pins entries are_all all_fresh all_once (own.in_scope scope heads w ready)

    no_values : (y : Name) → is_in y w.frame ≡ true → is_value wide y ≡ false
    no_values = still_no_values scope heads w ready all_pins entries are_all all_fresh all_once (own.in_scope scope heads w ready)

    sorts : KeepsSorts wide wide (pinned_to w.frame names)
    sorts =
        pinned_sorts wide w.frame names
        (move (constants_for scope w.frame names) wide w.frame names (λ c i. ((blocks.extended scope all_pins entries are_all all_fresh all_once).new c (ap (is_in c) (own.named scope heads w ready names f tests) ∙ i)).0)
        (pairs w.frame names ready.variables (own.apart scope heads w ready names f tests)))
        (λ y i. same_form scope wide form.Variable y (blocks.found_before scope all_pins entries are_all all_fresh all_once y (own.in_scope scope heads w ready y i)))

    outside : Leaves w.frame [] (pinned_to w.frame names)
    outside = pinned_outside w.frame names (own.long scope heads w ready names f tests)

    pub first_pinned : is_small f ≡ true → IsReady wide heads (record { frame = w.frame; pre = w.pre; post = f })
    first_pinned within = record {
      pre = (ready.pre.0, keeps_wider scope wide heads w.pre wider_all ready.pre.1);
      post = (small f within, tests.kept);
      variables = variables;
      no_values = no_values;
      differ = ready.differ;
      no_initial = ready.no_initial;
      initial = tests.initial;
    }

    pub second_pinned : is_small (pinned w.frame names f) ≡ true → is_small (pinned w.frame names w.post) ≡ true → IsReady wide heads (record { frame = w.frame; pre = pinned w.frame names f; post = pinned w.frame names w.post })
    second_pinned within after = record {
      pre = (small (pinned w.frame names f) within, replaced_keeps wide wide (pinned_to w.frame names) sorts heads f tests.kept);
      post = (small (pinned w.frame names w.post) after, replaced_keeps wide wide (pinned_to w.frame names) sorts heads w.post (keeps_wider scope wide heads w.post wider_all ready.post.1));
      variables = variables;
      no_values = no_values;
      differ = ready.differ;
      no_initial = replaced_outside w.frame [] (pinned_to w.frame names) outside f tests.initial;
      initial = outside_more [] w.frame (pinned w.frame names w.post) (none_listed w.frame) (replaced_outside w.frame [] (pinned_to w.frame names) outside w.post ready.initial);
    }
