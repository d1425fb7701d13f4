-- The shapes of replaced formulas that the laws derive, and where they hold.
use Rattle.std.proofs.Common.{◌≡◌, ◌↔◌, ℕ, suc, Bool, true, false, if◌then◌else◌, ◌&&◌, ◌||◌, Some, subst, List, [], ◌∷◌, ◌++◌, map, length, reverse, refl, sym, ap, ◌∙◌, true≢false}
use Rattle.std.specs.Prelude.{bytes_eq}
use Rattle.rw_terms.specs.declared.term.Term.{Term}
use Rattle.rw_terms.specs.declared.term.Term.TheVariants as v
use Rattle.rw_terms.specs.declared.term.Term.TheOpen.{Term-F}
use Rattle.rw_terms.specs.declared.term.Term.TheFolds.{fold-roll-Term}
use Rattle.rw_terms.specs.declared.term.Formula.{Formula}
use Rattle.rw_terms.specs.State.{Value, given, value_in, State as Map}
use Rattle.rw_terms.specs.Value.{value}
use Rattle.rw_terms.specs.Truth.{Definition, holds}
use Rattle.rw_terms.specs.Validity.{Each}
use Rattle.rw_subst.specs.declared.slot.Form.{Form}
use Rattle.rw_subst.specs.declared.slot.Form.TheVariants as form
use Rattle.rw_subst.specs.declared.slot.Slot.TheVariants as slot
use Rattle.rw_subst.specs.declared.slot.Change.{Change}
use Rattle.rw_subst.specs.Slots.{is_slot}
use Rattle.rw_subst.specs.Closed.{closed_step, is_closed, are_closed}
use Rattle.rw_subst.specs.Looks.{Looks, value_of, changed_looks, in_states}
use Rattle.rw_subst.specs.Replaced.{replaced_formula, to_initial, from_initial}
use Rattle.rw_subst.specs.Stands.{stands_in}
use Rattle.rw_subst.proofs.ClosedTerms.{plain_value}
use Rattle.rw_subst.proofs.Replacing.{initial_changes_are_closed}
use Rattle.rw_programs.specs.State.{Name, State, is_in, put_all}
use Rattle.rw_programs.specs.Meaning.{values}
use Rattle.rw_meaning.proofs.Tests.{same_bytes}
use Rattle.rw_derived.specs.Derived.{set_to, pinned_to}
use Rattle.rw_soundness.proofs.Bridges.{bridge}

-- a look-up with one more change in front
at_front : (b : Bool) (u w z : Value) → b ≡ true → u ≡ z → (if b then u else w) ≡ z
at_front b u w z i e = (λ k. if (i k) then u else w) ∙ e

behind : (b : Bool) (u w z : Value) → b ≡ false → w ≡ z → (if b then u else w) ≡ z
behind b u w z i e = (λ k. if (i k) then u else w) ∙ e

-- changes of names, each by one rule
module _ (change : Name → Change) (g : Form) (looks : Looks) where
  abbrev looked : List Name → Name → Value
  looked names x = changed_looks (map change names) looks g x

  abbrev changed_to : Name → Value
  changed_to x = value_of looks [] (change x).term

  one_in : (names : List Name) (x y : Name) → is_slot g x (change y).slot ≡ bytes_eq x y → (b : Bool) → bytes_eq x y ≡ b → is_in x (y ∷ names) ≡ true →
      (is_in x names ≡ true → looked names x ≡ changed_to x) → looked (y ∷ names) x ≡ changed_to x
  one_in names x y slot true i h ih = at_front (is_slot g x (change y).slot) (changed_to y) (looked names x) (changed_to x) (slot ∙ i) (ap changed_to (sym (same_bytes x y i)))
  one_in names x y slot false i h ih = behind (is_slot g x (change y).slot) (changed_to y) (looked names x) (changed_to x) (slot ∙ i) (ih (sym (ap (λ b. b || is_in x names) i) ∙ h))

  one_out : (names : List Name) (x y : Name) → is_slot g x (change y).slot ≡ bytes_eq x y → (b : Bool) → bytes_eq x y ≡ b → is_in x (y ∷ names) ≡ false →
      (is_in x names ≡ false → looked names x ≡ looks g x) → looked (y ∷ names) x ≡ looks g x
  one_out names x y slot true i h ih = absurd (true≢false (sym (ap (λ b. b || is_in x names) i) ∙ h))
  one_out names x y slot false i h ih = behind (is_slot g x (change y).slot) (changed_to y) (looked names x) (looks g x) (slot ∙ i) (ih (sym (ap (λ b. b || is_in x names) i) ∙ h))

  -- a name that is changed, and one that is not
  mapped_in : ((x y : Name) → is_slot g x (change y).slot ≡ bytes_eq x y) → (names : List Name) (x : Name) → is_in x names ≡ true → looked names x ≡ changed_to x
  mapped_in slots [] x h = absurd (true≢false (sym h))
  mapped_in slots (y ∷ names) x h = one_in names x y (slots x y) (bytes_eq x y) refl h (mapped_in slots names x)

  mapped_out : ((x y : Name) → is_slot g x (change y).slot ≡ bytes_eq x y) → (names : List Name) (x : Name) → is_in x names ≡ false → looked names x ≡ looks g x
  mapped_out slots [] x h = refl
  mapped_out slots (y ∷ names) x h = one_out names x y (slots x y) (bytes_eq x y) refl h (mapped_out slots names x)

  -- names in another form
  mapped_past : ((x y : Name) → is_slot g x (change y).slot ≡ false) → (names : List Name) (x : Name) → looked names x ≡ looks g x
  mapped_past slots [] x = refl
  mapped_past slots (y ∷ names) x = behind (is_slot g x (change y).slot) (changed_to y) (looked names x) (looks g x) (slots x y) (mapped_past slots names x)

module _ (library : List Definition) (f : Formula) (s t : Map) where
  -- the precondition said of the state before: t agrees with s off the frame, whose names do not stand as constants
  pub initial_holds : (frame : List Name) → ((x : Name) → is_in x frame ≡ false → t x ≡ s x) → ((x : Name) → stands_in form.Constant x f ≡ true → is_in x frame ≡ false) →
      holds library (replaced_formula (map to_initial frame) f) s t [] ↔ holds library f s s []
  initial_holds frame off constants = bridge (map to_initial frame) f (reverse library) (in_states s t) (in_states s s) ((initial_changes_are_closed frame).0) same
    where
      variable : (x : Name) (b : Bool) → is_in x frame ≡ b → changed_looks (map to_initial frame) (in_states s t) form.Variable x ≡ value_in s x
      variable x true i = mapped_in to_initial form.Variable (in_states s t) (λ x y. refl) frame x i ∙ plain_value (in_states s t) [] form.Initial x
      variable x false i = mapped_out to_initial form.Variable (in_states s t) (λ x y. refl) frame x i ∙ ap given (off x i)

      same : (g : Form) (x : Name) → stands_in g x f ≡ true → changed_looks (map to_initial frame) (in_states s t) g x ≡ in_states s s g x
      same form.Variable x h = variable x (is_in x frame) refl
      same form.Initial x h = mapped_past to_initial form.Initial (in_states s t) (λ x y. refl) frame x
      same form.Constant x h = mapped_past to_initial form.Constant (in_states s t) (λ x y. refl) frame x ∙ ap given (off x (constants x h))

  -- initial variables read as variables, where these names have not changed
  pub contracted_holds : (names : List Name) → ((x : Name) → is_in x names ≡ true → t x ≡ s x) → holds library (replaced_formula (map from_initial names) f) s t [] ↔ holds library f s t []
  contracted_holds names kept = bridge (map from_initial names) f (reverse library) (in_states s t) (in_states s t) ((initial_changes_are_closed names).1) same
    where
      initial : (x : Name) (b : Bool) → is_in x names ≡ b → changed_looks (map from_initial names) (in_states s t) form.Initial x ≡ value_in s x
      initial x true i = mapped_in from_initial form.Initial (in_states s t) (λ x y. refl) names x i ∙ (plain_value (in_states s t) [] form.Variable x ∙ ap given (kept x i))
      initial x false i = mapped_out from_initial form.Initial (in_states s t) (λ x y. refl) names x i

      same : (g : Form) (x : Name) → stands_in g x f ≡ true → changed_looks (map from_initial names) (in_states s t) g x ≡ in_states s t g x
      same form.Variable x h = mapped_past from_initial form.Variable (in_states s t) (λ x y. refl) names x
      same form.Initial x h = initial x (is_in x names) refl
      same form.Constant x h = mapped_past from_initial form.Constant (in_states s t) (λ x y. refl) names x

-- terms put for variables
module _ (looks : Looks) (m : State) (rest : List Change) where
  -- each term has by the look-ups the value that it has in the state
  abbrev pub Valued : List Term → Type 0
  Valued = Each (λ t. value_of looks [] t ≡ value m.own m.own [] t)

  one_set : (names : List Name) (terms : List Term) (x y : Name) (t : Term) → value_of looks [] t ≡ value m.own m.own [] t → (b : Bool) → bytes_eq y x ≡ b →
      changed_looks (set_to names terms ++ rest) looks form.Variable y ≡ value_in (put_all names (values terms m) m.own) y →
      changed_looks (set_to (x ∷ names) (t ∷ terms) ++ rest) looks form.Variable y ≡ value_in (put_all (x ∷ names) (values (t ∷ terms) m) m.own) y
  one_set names terms x y t e true i ih = at_front (bytes_eq y x) (value_of looks [] t) (changed_looks (set_to names terms ++ rest) looks form.Variable y) (value m.own m.own [] t) i e ∙ ap given (sym (λ k. if (i k) then Some (value m.own m.own [] t) else put_all names (values terms m) m.own y))
  one_set names terms x y t e false i ih = behind (bytes_eq y x) (value_of looks [] t) (changed_looks (set_to names terms ++ rest) looks form.Variable y) (value_in (put_all names (values terms m) m.own) y) i ih ∙ ap given (sym (λ k. if (i k) then Some (value m.own m.own [] t) else put_all names (values terms m) m.own y))

  shorter : (a b : ℕ) → suc a ≡ suc b → a ≡ b
  shorter a b q = cc

  -- a variable has the value that the assignment gives it
  set_variable : (names : List Name) (terms : List Term) → length names ≡ length terms → Valued terms → (y : Name) → changed_looks rest looks form.Variable y ≡ value_in m.own y →
      changed_looks (set_to names terms ++ rest) looks form.Variable y ≡ value_in (put_all names (values terms m) m.own) y
  set_variable [] [] long e y base = base
  set_variable [] (t ∷ terms) long e y base = absurd (cc)
  set_variable (x ∷ names) [] long e y base = absurd (cc)
  set_variable (x ∷ names) (t ∷ terms) long e y base =
      one_set names terms x y t e.0 (bytes_eq y x) refl (set_variable names terms (shorter (length names) (length terms) long) e.1 y base)

  -- other forms stay
  set_initial : (names : List Name) (terms : List Term) (y : Name) → changed_looks (set_to names terms ++ rest) looks form.Initial y ≡ changed_looks rest looks form.Initial y
  set_initial [] terms y = refl
  set_initial (x ∷ names) [] y = refl
  set_initial (x ∷ names) (t ∷ terms) y = set_initial names terms y

  set_constant : (names : List Name) (terms : List Term) (y : Name) → changed_looks (set_to names terms ++ rest) looks form.Constant y ≡ changed_looks rest looks form.Constant y
  set_constant [] terms y = refl
  set_constant (x ∷ names) [] y = refl
  set_constant (x ∷ names) (t ∷ terms) y = set_constant names terms y

  set_closed : (names : List Name) (terms : List Term) → Each (λ t. is_closed t ≡ true) terms → are_closed rest ≡ true → are_closed (set_to names terms ++ rest) ≡ true
  set_closed [] terms e h = h
  set_closed (x ∷ names) [] e h = h
  set_closed (x ∷ names) (t ∷ terms) e h = (ap (λ b. b && are_closed (set_to names terms ++ rest)) e.0) ∙ set_closed names terms e.1 h

module _ (library : List Definition) (f : Formula) (names : List Name) (terms : List Term) (long : length names ≡ length terms) (closed : Each (λ t. is_closed t ≡ true) terms) where
  -- the postcondition after an assignment, where nothing else has changed
  pub assigned_holds : (frame : List Name) (s : State) → ((x : Name) → stands_in form.Constant x f ≡ true → put_all names (values terms s) s.own x ≡ s.own x) →
      holds library (replaced_formula (set_to names terms ++ map from_initial frame) f) s.own s.own [] ↔ holds library f s.own (put_all names (values terms s) s.own) []
  assigned_holds frame s constants =
      bridge (set_to names terms ++ map from_initial frame) f (reverse library) (in_states s.own s.own) (in_states s.own (put_all names (values terms s) s.own)) (set_closed (in_states s.own s.own) s (map from_initial frame) names terms closed ((initial_changes_are_closed frame).1)) same
    where
      each_same : (ts : List Term) → Valued (in_states s.own s.own) s (map from_initial frame) ts
      each_same [] = tt
      each_same (t ∷ ts) = (refl, each_same ts)

      initial : (x : Name) (b : Bool) → is_in x frame ≡ b → changed_looks (map from_initial frame) (in_states s.own s.own) form.Initial x ≡ value_in s.own x
      initial x true i = mapped_in from_initial form.Initial (in_states s.own s.own) (λ x y. refl) frame x i ∙ plain_value (in_states s.own s.own) [] form.Variable x
      initial x false i = mapped_out from_initial form.Initial (in_states s.own s.own) (λ x y. refl) frame x i

      same : (g : Form) (x : Name) → stands_in g x f ≡ true → changed_looks (set_to names terms ++ map from_initial frame) (in_states s.own s.own) g x ≡ in_states s.own (put_all names (values terms s) s.own) g x
      same form.Variable x h = set_variable (in_states s.own s.own) s (map from_initial frame) names terms long (each_same terms) x (mapped_past from_initial form.Variable (in_states s.own s.own) (λ x y. refl) frame x)
      same form.Initial x h = set_initial (in_states s.own s.own) s (map from_initial frame) names terms x ∙ initial x (is_in x frame) refl
      same form.Constant x h = set_constant (in_states s.own s.own) s (map from_initial frame) names terms x ∙ (mapped_past from_initial form.Constant (in_states s.own s.own) (λ x y. refl) frame x ∙ ap given (sym (constants x h)))

  -- the postcondition before an assignment that is to follow
  pub followed_holds : (s0 : Map) (m : State) → Each (λ t. value s0 m.own [] t ≡ value m.own m.own [] t) terms →
      ((x : Name) → stands_in form.Constant x f ≡ true → put_all names (values terms m) m.own x ≡ m.own x) →
      holds library (replaced_formula (set_to names terms) f) s0 m.own [] ↔ holds library f s0 (put_all names (values terms m) m.own) []
  followed_holds s0 m same_values constants =
      subst (λ changes. holds library (replaced_formula changes f) s0 m.own [] ↔ holds library f s0 (put_all names (values terms m) m.own) []) (none_behind names terms)
      (bridge (set_to names terms ++ []) f (reverse library) (in_states s0 m.own) (in_states s0 (put_all names (values terms m) m.own)) (set_closed (in_states s0 m.own) m [] names terms closed refl) same)
    where
      none_behind : (ns : List Name) (ts : List Term) → set_to ns ts ++ [] ≡ set_to ns ts
      none_behind [] ts = refl
      none_behind (x ∷ ns) [] = refl
      none_behind (x ∷ ns) (t ∷ ts) = ap (λ l. record { slot = slot.Var x; term = t } ∷ l) (none_behind ns ts)

      same : (g : Form) (x : Name) → stands_in g x f ≡ true → changed_looks (set_to names terms ++ []) (in_states s0 m.own) g x ≡ in_states s0 (put_all names (values terms m) m.own) g x
      same form.Variable x h = set_variable (in_states s0 m.own) m [] names terms long same_values x refl
      same form.Initial x h = set_initial (in_states s0 m.own) m [] names terms x
      same form.Constant x h = set_constant (in_states s0 m.own) m [] names terms x ∙ ap given (sym (constants x h))

-- constants put for initial variables
module _ (s m : Map) where
  -- each constant has in m the value that its variable has in s
  abbrev pub PinsHold : List Name → List Name → Type 0
  PinsHold [] names = Unit {0}
  PinsHold (x ∷ frame) [] = Unit {0}
  PinsHold (x ∷ frame) (c ∷ names) = (m c ≡ s x) × PinsHold frame names

  module _ (library : List Definition) (f : Formula) (s0 : Map) where
    abbrev looks : Looks
    looks = in_states s0 m

    one_pinned : (frame names : List Name) (x y c : Name) → m c ≡ s y → (b : Bool) → bytes_eq x y ≡ b → is_in x (y ∷ frame) ≡ true →
        (is_in x frame ≡ true → changed_looks (pinned_to frame names) looks form.Initial x ≡ value_in s x) → changed_looks (pinned_to (y ∷ frame) (c ∷ names)) looks form.Initial x ≡ value_in s x
    one_pinned frame names x y c e true i h ih =
        at_front (bytes_eq x y) (value_of looks [] (v.Const c)) (changed_looks (pinned_to frame names) looks form.Initial x) (value_in s x) i (plain_value looks [] form.Constant c ∙ (ap given e ∙ ap (value_in s) (sym (same_bytes x y i))))
    one_pinned frame names x y c e false i h ih = behind (bytes_eq x y) (value_of looks [] (v.Const c)) (changed_looks (pinned_to frame names) looks form.Initial x) (value_in s x) i (ih (sym (ap (λ b. b || is_in x frame) i) ∙ h))

    pinned_initial : (frame names : List Name) → length frame ≡ length names → PinsHold frame names → (x : Name) → is_in x frame ≡ true →
        changed_looks (pinned_to frame names) looks form.Initial x ≡ value_in s x
    pinned_initial [] names long pins x h = absurd (true≢false (sym h))
    pinned_initial (y ∷ frame) [] long pins x h = absurd (cc)
    pinned_initial (y ∷ frame) (c ∷ names) long pins x h =
        one_pinned frame names x y c pins.0 (bytes_eq x y) refl h (pinned_initial frame names (lower (length frame) (length names) long) pins.1 x)
      where
        lower : (a b : ℕ) → suc a ≡ suc b → a ≡ b
        lower a b q = cc

    pinned_variable : (frame names : List Name) (x : Name) → changed_looks (pinned_to frame names) looks form.Variable x ≡ value_in m x
    pinned_variable [] names x = refl
    pinned_variable (y ∷ frame) [] x = refl
    pinned_variable (y ∷ frame) (c ∷ names) x = pinned_variable frame names x

    pinned_constant : (frame names : List Name) (x : Name) → changed_looks (pinned_to frame names) looks form.Constant x ≡ value_in m x
    pinned_constant [] names x = refl
    pinned_constant (y ∷ frame) [] x = refl
    pinned_constant (y ∷ frame) (c ∷ names) x = pinned_constant frame names x

    const_is_closed : (c : Name) → is_closed (v.Const c) ≡ true
    const_is_closed c = ap is_closed (sym (v.rolls-Const c)) ∙ fold-roll-Term Bool closed_step (Term-F.Const c)

    pins_closed : (frame names : List Name) → are_closed (pinned_to frame names) ≡ true
    pins_closed [] names = refl
    pins_closed (y ∷ frame) [] = refl
    pins_closed (y ∷ frame) (c ∷ names) = ap (λ b. b && are_closed (pinned_to frame names)) (const_is_closed c) ∙ pins_closed frame names

    -- the formula with constants, where initial variables of the frame alone stand in it
    pub pinned_holds : (frame names : List Name) → length frame ≡ length names → PinsHold frame names → ((x : Name) → stands_in form.Initial x f ≡ true → is_in x frame ≡ true) →
        holds library (replaced_formula (pinned_to frame names) f) s0 m [] ↔ holds library f s m []
    pinned_holds frame names long pins initial = bridge (pinned_to frame names) f (reverse library) looks (in_states s m) (pins_closed frame names) same
      where
        same : (g : Form) (x : Name) → stands_in g x f ≡ true → changed_looks (pinned_to frame names) looks g x ≡ in_states s m g x
        same form.Variable x h = pinned_variable frame names x
        same form.Initial x h = pinned_initial frame names long pins x (initial x h)
        same form.Constant x h = pinned_constant frame names x
