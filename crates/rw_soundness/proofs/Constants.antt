-- The laws of constants: what is set is in a wider scope, and goes with the block.
use Rattle.std.proofs.Common.{◌≡◌, ℕ, Bool, true, false, if◌then◌else◌, is_some, List, [], ◌∷◌, ◌++◌, map, find, Option, Some, None, refl, sym, ap, ◌∙◌, subst, true≢false, append_assoc, append-nil}
use Rattle.std.proofs.lemmas.Bool.{and_from, and_parts, false_from_ne_true, or_parts}
use Rattle.std.specs.Prelude.{not, bytes_eq, option_and_then}
use Rattle.rw_terms.specs.declared.scope.Entry.{Entry}
use Rattle.rw_terms.specs.declared.scope.Kind.TheVariants as kind
use Rattle.rw_terms.specs.Scopes.{has_name, is_fresh}
use Rattle.rw_terms.specs.Rules.{sort_in}
use Rattle.rw_terms.specs.State.{Value, FitsEntry, State as Map}
use Rattle.rw_programs.specs.declared.prog.Spec.{Spec}
use Rattle.rw_programs.specs.declared.prog.Pin.{Pin}
use Rattle.rw_programs.specs.declared.prog.Prog.{Prog}
use Rattle.rw_programs.specs.Made.{Con}
use Rattle.rw_programs.specs.State.{Name, State, Holds, Within, is_in, put_all, with_own}
use Rattle.rw_programs.specs.Tables.{Table, pin_names, pin_terms}
use Rattle.rw_programs.specs.Meaning.{Sure, MayEnd, values}
use Rattle.rw_programs.specs.Refine.{is_value_entry, HasValues}
use Rattle.rw_programs.specs.Scoped.{with_entry, with_entries, with_pin, with_pins}
use Rattle.rw_programs.proofs.Beside.{FitsBeside}
use Rattle.rw_programs.proofs.Frames.{within_fits, put_all_off}
use Rattle.rw_meaning.proofs.Tests.{fresh_is}
use Rattle.rw_meaning.proofs.Scopes.{Extends, extends, put_none}
use Rattle.rw_meaning.proofs.Entering.{pins_fit, pins_gone}
use Rattle.rw_faults.specs.Initial.{is_listed, is_twice}
use Rattle.rw_derived.specs.Causes.{each_is}
use Rattle.rw_soundness.proofs.Ready.{within_by_fits}
use Rattle.rw_soundness.proofs.Single.{Better}

abbrev pub entry_names : List Entry → List Name
entry_names es = map (λ e. e.name) es

-- the entries are those of the constants, each with the sort of its term
abbrev pub AreFor : List Entry → List Pin → List Entry → Type 0
AreFor outer [] [] = Unit {0}
AreFor outer [] (e ∷ es) = ⊥
AreFor outer (p ∷ pins) [] = ⊥
AreFor outer (p ∷ pins) (e ∷ es) = ((sort_in outer [] p.term ≡ Some e.sort) × (e ≡ record { name = p.name; sort = e.sort; kind = kind.Constant })) × AreFor outer pins es

-- constants enter a scope as their entries do
pub pins_enter : (outer : List Entry) (pins : List Pin) (es scope : List Entry) → AreFor outer pins es → with_pins outer scope pins ≡ with_entries scope es
pins_enter outer [] [] scope h = refl
pins_enter outer [] (e ∷ es) scope h = absurd h
pins_enter outer (p ∷ pins) [] scope h = absurd h
pins_enter outer (p ∷ pins) (e ∷ es) scope h =
    (λ i. option_and_then (λ inner. pins_enter outer pins es inner h.1 i) (one i))
  where
    one : with_pin outer scope p ≡ with_entry scope e
    one = ap (option_and_then (λ sort. with_entry scope (record { name = p.name; sort = sort; kind = kind.Constant }))) h.0.0 ∙ ap (with_entry scope) (sym h.0.1)

pub names_are : (outer : List Entry) (pins : List Pin) (es : List Entry) → AreFor outer pins es → entry_names es ≡ pin_names pins
names_are outer [] [] h = refl
names_are outer [] (e ∷ es) h = absurd h
names_are outer (p ∷ pins) [] h = absurd h
names_are outer (p ∷ pins) (e ∷ es) h = (λ i. (h.0.1 i).name ∷ names_are outer pins es h.1 i)

-- they are found as constants
pub constants_found : (outer : List Entry) (pins : List Pin) (es : List Entry) → AreFor outer pins es → (x : Name) → is_value_entry (find (has_name x) es) ≡ false
constants_found outer [] [] h x = refl
constants_found outer [] (e ∷ es) h x = absurd h
constants_found outer (p ∷ pins) [] h x = absurd h
constants_found outer (p ∷ pins) (e ∷ es) h x = go (has_name x e) refl (constants_found outer pins es h.1 x)
  where
    go : (b : Bool) → has_name x e ≡ b → is_value_entry (find (has_name x) es) ≡ false → is_value_entry (find (has_name x) (e ∷ es)) ≡ false
    go true i ih = rw i (ap (λ d. is_value_entry (Some d)) h.0.1)
    go false i ih = rw i ih

find_none : (scope : List Entry) (x : Name) (e : Entry) → find (has_name x) scope ≡ None → has_name x e ≡ false → find (has_name x) (scope ++ e ∷ []) ≡ None
find_none [] x e n f = rw f
find_none (a ∷ scope) x e n f = go (has_name x a) refl (λ k. find_none scope x e k f)
  where
    found : has_name x a ≡ true → find (has_name x) (a ∷ scope) ≡ Some a
    found i = rw i

    passed : has_name x a ≡ false → find (has_name x) (a ∷ scope) ≡ find (has_name x) scope
    passed i = rw i

    go : (b : Bool) → has_name x a ≡ b → (find (has_name x) scope ≡ None → find (has_name x) (scope ++ e ∷ []) ≡ None) → find (has_name x) ((a ∷ scope) ++ e ∷ []) ≡ None
    go true i ih = let clash : Some a ≡ None = sym (found i) ∙ n in absurd (cc)
    go false i ih = rw i (ih (sym (passed i) ∙ n))

-- a name that is new to a scope and is not that of an entry is new to the scope with the entry
still_fresh : (scope : List Entry) (e : Entry) (x : Name) → is_fresh x scope ≡ true → bytes_eq e.name x ≡ false → is_fresh x (scope ++ e ∷ []) ≡ true
still_fresh scope e x fresh other = ap (λ o. not (is_some o)) (find_none scope x e (fresh_is x scope fresh) other)

-- entries with new names that differ enter a scope in order
pub entries_enter : (scope es : List Entry) → each_is (λ x. is_fresh x scope) (entry_names es) ≡ true → is_twice (entry_names es) ≡ false → with_entries scope es ≡ Some (scope ++ es)
entries_enter scope [] fresh once = ap Some (sym (append-nil scope))
entries_enter scope (e ∷ es) fresh once =
    let here = (and_parts (is_fresh e.name scope) (each_is (λ x. is_fresh x scope) (entry_names es)) fresh).0 in
    let rest = (and_parts (is_fresh e.name scope) (each_is (λ x. is_fresh x scope) (entry_names es)) fresh).1 in
    let apart = (or_parts (is_listed (entry_names es) e.name) (is_twice (entry_names es)) once).0 in
    ap (λ b. option_and_then (λ i. with_entries i es) (if b then Some (scope ++ e ∷ []) else None)) here
    ∙ (entries_enter (scope ++ e ∷ []) es (stay (entry_names es) rest apart) (or_parts (is_listed (entry_names es) e.name) (is_twice (entry_names es)) once).1
    ∙ ap Some (append_assoc scope (e ∷ []) es))
  where
    stay : (names : List Name) → each_is (λ x. is_fresh x scope) names ≡ true → is_listed names e.name ≡ false → each_is (λ x. is_fresh x (scope ++ e ∷ [])) names ≡ true
    stay [] f n = refl
    stay (x ∷ names) f n =
        and_from _ _ (still_fresh scope e x (and_parts (is_fresh x scope) (each_is (λ x. is_fresh x scope) names) f).0 (or_parts (bytes_eq e.name x) (is_listed names e.name) n).0)
        (stay names (and_parts (is_fresh x scope) (each_is (λ x. is_fresh x scope) names) f).1 (or_parts (bytes_eq e.name x) (is_listed names e.name) n).1)

-- the state in which the body of a block of constants begins, and what is left of the one in which it ends
abbrev pub begun : List Pin → State → State
begun pins s = with_own s (put_all (pin_names pins) (values (pin_terms pins) s) s.own)

abbrev pub left : List Pin → State → State
left pins m = with_own m (put_all (pin_names pins) [] m.own)

module _ (scope : List Entry) (pins : List Pin) (es : List Entry) (are : AreFor scope pins es) (fresh : each_is (λ x. is_fresh x scope) (entry_names es) ≡ true) (once : is_twice (entry_names es) ≡ false) where
  abbrev pub inner : List Entry
  inner = scope ++ es

  entered : with_entries scope es ≡ Some inner
  entered = entries_enter scope es fresh once

  pinned : with_pins scope scope pins ≡ Some inner
  pinned = pins_enter scope pins es scope are ∙ entered

  pub extended : Extends scope es inner
  extended = extends scope es inner entered

  named : entry_names es ≡ pin_names pins
  named = names_are scope pins es are

  pub begun_fits : {others : Name → Map} (s : State) → FitsBeside others scope s → FitsBeside others inner (begun pins s)
  begun_fits s fits = record { names = pins_fit scope s fits.names pins inner pinned; parts = fits.parts }

  pub left_fits : {others : Name → Map} (s : State) → FitsBeside others scope s → (m : State) → FitsBeside others inner m → FitsBeside others scope (left pins m)
  left_fits s fits m fits' = record { names = pins_gone scope s fits.names pins inner pinned m.own fits'.names; parts = fits'.parts }

  -- a name of the scope is none of the constants
  pub not_pinned : (x : Name) → (find (has_name x) scope ≡ None → ⊥) → is_in x (pin_names pins) ≡ false
  not_pinned x found = false_from_ne_true _ (λ i. found (extended.new x (ap (is_in x) named ∙ i)).1)

  -- what the scope has is found as before
  pub found_before : (x : Name) → (find (has_name x) scope ≡ None → ⊥) → find (has_name x) inner ≡ find (has_name x) scope
  found_before x found = extended.old x (ap (is_in x) named ∙ not_pinned x found)

  pub begun_keeps : (s : State) (x : Name) → (find (has_name x) scope ≡ None → ⊥) → (begun pins s).own x ≡ s.own x
  begun_keeps s x found = put_all_off (pin_names pins) (values (pin_terms pins) s) s.own x (not_pinned x found)

  pub left_keeps : (m : State) (x : Name) → (find (has_name x) scope ≡ None → ⊥) → (left pins m).own x ≡ m.own x
  left_keeps m x found = put_all_off (pin_names pins) [] m.own x (not_pinned x found)

  pub begun_has : (fixed : Map) (s : State) → HasValues scope fixed s → HasValues inner fixed (begun pins s)
  begun_has fixed s has x value = go (is_in x (pin_names pins)) refl
    where
      go : (b : Bool) → is_in x (pin_names pins) ≡ b → (begun pins s).own x ≡ fixed x
      go true i = absurd (true≢false (sym value ∙ (ap is_value_entry (extended.new x (ap (is_in x) named ∙ i)).0 ∙ constants_found scope pins es are x)))
      go false i =
          put_all_off (pin_names pins) (values (pin_terms pins) s) s.own x i
          ∙ has x (sym (ap is_value_entry (extended.old x (ap (is_in x) named ∙ i))) ∙ value)

  -- A block of constants refines a specification where its body, from the state with the constants, is sure and ends within the
  -- frame, and the postcondition holds when the constants are gone.
  pub block_sound : (fixed : Map) (others : Name → Map) (E : Table) (p k : ℕ) (w : Spec) (d : Prog) → ((x : Name) → is_in x w.frame ≡ true → find (has_name x) scope ≡ None → ⊥)
      → ((s : State) → FitsBeside others scope s → HasValues scope fixed s → Holds E.library w.pre s s
      → Sure E p k d (begun pins s) × ((m : State) → MayEnd E p k d (begun pins s) m → Within w.frame (begun pins s) m × Holds E.library w.post s (left pins m)))
      → Better fixed others scope E p k w.frame w.pre w.post (Con pins d)
  block_sound fixed others E p k w d in_scope body s fits has pre =
      let inside = body s fits has pre in (
        inside.0,
        λ t e. let i = inside.1 e.0 e.1 in
            subst (λ t. Within w.frame s t × Holds E.library w.post s t) (sym e.2) (
              within_by_fits scope w.frame s (left pins e.0) fits (left_fits s fits e.0 (within_fits inner w.frame (begun pins s) e.0 (begun_fits s fits) i.0)) (λ x off. keeps x off e.0 i.0 (is_in x (pin_names pins)) refl),
              i.1,
            ),
      )
    where
      gone : (x : Name) → find (has_name x) scope ≡ None → (o : Option Value) → FitsEntry (find (has_name x) scope) o → o ≡ None
      gone x n None f = refl
      gone x n (Some v) f = absurd (subst (λ o. FitsEntry o (Some v)) n f)

      keeps : (x : Name) → is_in x w.frame ≡ false → (m : State) → Within w.frame (begun pins s) m → (b : Bool) → is_in x (pin_names pins) ≡ b → (left pins m).own x ≡ s.own x
      keeps x off m within true i = put_none (pin_names pins) m.own x i ∙ sym (gone x (extended.new x (ap (is_in x) named ∙ i)).1 (s.own x) (fits.names x))
      keeps x off m within false i =
          put_all_off (pin_names pins) [] m.own x i ∙ (within.off x off ∙ put_all_off (pin_names pins) (values (pin_terms pins) s) s.own x i)
