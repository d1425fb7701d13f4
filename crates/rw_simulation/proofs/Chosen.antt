-- Values chosen for names, and the maps that give the names these values.
use mathlib.Core.Path.{fun_ext}
use Rattle.std.proofs.Common.{◌≡◌, refl, sym, ap, ◌∙◌, subst, Bool, true, false, ◌||◌, if◌then◌else◌, List, [], ◌∷◌, map, find, Option, Some, None, true≢false}
use Rattle.std.specs.Prelude.{bytes_eq}
use Rattle.std.proofs.lemmas.Bool.{or_parts}
use Rattle.rw_terms.specs.declared.scope.Entry.{Entry}
use Rattle.rw_terms.specs.declared.scope.Kind.TheVariants as kind
use Rattle.rw_terms.specs.Scopes.{has_name}
use Rattle.rw_terms.specs.State.{Value, given, HasSort, FitsEntry, State as Map, Fits as FitsMap}
use Rattle.rw_faults.specs.Initial.{is_listed, is_twice}
use Rattle.rw_subst.specs.declared.slot.Form.{Form}
use Rattle.rw_subst.specs.declared.slot.Slot.{Slot}
use Rattle.rw_subst.specs.Slots.{is_slot}
use Rattle.rw_subst.specs.Looks.{Looks, looks_with}
use Rattle.rw_programs.specs.declared.prog.Param.{Param}
use Rattle.rw_programs.specs.State.{Name, empty, is_in, put, put_all, read_all, names_of, ValuesFor}
use Rattle.rw_programs.proofs.Frames.{put_all_off}
use Rattle.rw_meaning.specs.Filling.{module_entries}
use Rattle.rw_meaning.proofs.Tests.{same_bytes, bytes_same}
use Rattle.rw_modules.specs.Quantified.{Sorted, with_values}

pub listed_in : (names : List Name) (x : Name) → is_listed names x ≡ is_in x names
listed_in [] x = refl
listed_in (y ∷ names) x = ap (λ b. bytes_eq x y || b) (listed_in names x)

-- the first of names that differ is none of the others
pub first_differs : (x : Name) (names : List Name) → is_twice (x ∷ names) ≡ false → is_in x names ≡ false
first_differs x names e = sym (listed_in names x) ∙ (or_parts (is_listed names x) (is_twice names) e).0

pub rest_differ : (x : Name) (names : List Name) → is_twice (x ∷ names) ≡ false → is_twice names ≡ false
rest_differ x names e = (or_parts (is_listed names x) (is_twice names) e).1

-- the values that a map gives the names
abbrev pub vals : List Param → Map → List Value
vals ps a = map (λ p. given (a p.name)) ps

-- the map that gives the names these values
abbrev pub chosen : List Param → List Value → Map
chosen [] vs = empty
chosen (p ∷ ps) [] = empty
chosen (p ∷ ps) (v ∷ vs) = put p.name (Some v) (chosen ps vs)

-- look-ups in the form of the slots, and in another form
module _ (slot : Name → Slot) (g : Form) (same : (x y : Name) → is_slot g x (slot y) ≡ bytes_eq x y) where
  with_at : (y x : Name) (v : Value) (looks : Looks) (b : Bool) → bytes_eq x y ≡ b → looks_with (slot y) v looks g x ≡ (if b then v else looks g x)
  with_at y x v looks b e = (λ i. if ((same x y ∙ e) i) then v else looks g x)

  pub values_off : (ps : List Param) (vs : List Value) (looks : Looks) (x : Name) → is_in x (names_of ps) ≡ false → with_values slot ps vs looks g x ≡ looks g x
  values_off [] vs looks x off = refl
  values_off (p ∷ ps) [] looks x off = refl
  values_off (p ∷ ps) (v ∷ vs) looks x off =
      values_off ps vs (looks_with (slot p.name) v looks) x (or_parts (bytes_eq x p.name) (is_in x (names_of ps)) off).1
      ∙ with_at p.name x v looks false (or_parts (bytes_eq x p.name) (is_in x (names_of ps)) off).0

  -- the values that a map gives
  pub values_of_map : (ps : List Param) (a : Map) (looks : Looks) (x : Name) → is_in x (names_of ps) ≡ true → with_values slot ps (vals ps a) looks g x ≡ given (a x)
  values_of_map [] a looks x on = absurd (true≢false (sym on))
  values_of_map (p ∷ ps) a looks x on = go (is_in x (names_of ps)) refl (bytes_eq x p.name) refl on (values_of_map ps a (looks_with (slot p.name) (given (a p.name)) looks) x)
    where
      go : (b : Bool) → is_in x (names_of ps) ≡ b → (c : Bool) → bytes_eq x p.name ≡ c → (c || is_in x (names_of ps)) ≡ true
          → (is_in x (names_of ps) ≡ true → with_values slot ps (vals ps a) (looks_with (slot p.name) (given (a p.name)) looks) g x ≡ given (a x))
          → with_values slot (p ∷ ps) (vals (p ∷ ps) a) looks g x ≡ given (a x)
      go true i c e k ih = ih i
      go false i true e k ih =
          values_off ps (vals ps a) (looks_with (slot p.name) (given (a p.name)) looks) x i ∙ (with_at p.name x (given (a p.name)) looks true e ∙ ap (λ z. given (a z)) (sym (same_bytes x p.name e)))
      go false i false e k ih = absurd (true≢false (sym k ∙ i))

  -- the values that were chosen
  pub values_chosen : (ps : List Param) (vs : List Value) (looks : Looks) (x : Name) → Sorted ps vs → is_twice (names_of ps) ≡ false → is_in x (names_of ps) ≡ true → with_values slot ps vs looks g x ≡ given (chosen ps vs x)
  values_chosen [] vs looks x sorted differ on = absurd (true≢false (sym on))
  values_chosen (p ∷ ps) [] looks x sorted differ on = absurd sorted
  values_chosen (p ∷ ps) (v ∷ vs) looks x sorted differ on =
      go (bytes_eq x p.name) refl on (values_chosen ps vs (looks_with (slot p.name) v looks) x sorted.1 (rest_differ p.name (names_of ps) differ))
    where
      go : (c : Bool) → bytes_eq x p.name ≡ c → (c || is_in x (names_of ps)) ≡ true
          → (is_in x (names_of ps) ≡ true → with_values slot ps vs (looks_with (slot p.name) v looks) g x ≡ given (chosen ps vs x))
          → with_values slot ps vs (looks_with (slot p.name) v looks) g x ≡ given (put p.name (Some v) (chosen ps vs) x)
      go true e k ih =
          let off : is_in x (names_of ps) ≡ false = ap (λ z. is_in z (names_of ps)) (same_bytes x p.name e) ∙ first_differs p.name (names_of ps) differ in
          values_off ps vs (looks_with (slot p.name) v looks) x off ∙ (with_at p.name x v looks true e ∙ sym (ap (λ b. given (if b then Some v else chosen ps vs x)) e))
      go false e k ih = ih k ∙ sym (ap (λ b. given (if b then Some v else chosen ps vs x)) e)

module _ (slot : Name → Slot) (g : Form) (past : (x y : Name) → is_slot g x (slot y) ≡ false) where
  -- another form stays
  pub values_past : (ps : List Param) (vs : List Value) (looks : Looks) (x : Name) → with_values slot ps vs looks g x ≡ looks g x
  values_past [] vs looks x = refl
  values_past (p ∷ ps) [] looks x = refl
  values_past (p ∷ ps) (v ∷ vs) looks x = values_past ps vs (looks_with (slot p.name) v looks) x ∙ (λ i. if (past x p.name i) then v else looks g x)

-- what a map that fits gives the names has their sorts
abbrev pub FitsOn : List Param → Map → Type 0
FitsOn ps a = (x : Name) → is_in x (names_of ps) ≡ true → FitsEntry (find (has_name x) (module_entries ps)) (a x)

sorted_on : (ps : List Param) (a : Map) → is_twice (names_of ps) ≡ false → FitsOn ps a → Sorted ps (vals ps a)
sorted_on [] a differ fits = tt
sorted_on (p ∷ ps) a differ fits = (here (a p.name) (first (bytes_eq p.name p.name) refl), sorted_on ps a (rest_differ p.name (names_of ps) differ) rest)
  where
    itself : bytes_eq p.name p.name ≡ true
    itself = bytes_same p.name p.name refl

    first : (b : Bool) → bytes_eq p.name p.name ≡ b → FitsEntry (Some (record { name = p.name; sort = p.sort; kind = kind.Module })) (a p.name)
    first b e =
        subst (λ o. FitsEntry o (a p.name)) (ap (λ b. if b then Some (record { name = p.name; sort = p.sort; kind = kind.Module }) else find (has_name p.name) (module_entries ps)) itself)
        (fits p.name (ap (λ b. b || is_in p.name (names_of ps)) itself))

    here : (v : Option Value) → FitsEntry (Some (record { name = p.name; sort = p.sort; kind = kind.Module })) v → HasSort (given v) p.sort
    here None h = absurd h
    here (Some v) h = h

    rest : FitsOn ps a
    rest x on = go (bytes_eq x p.name) refl (bytes_eq p.name x) refl
      where
        go : (b : Bool) → bytes_eq x p.name ≡ b → (c : Bool) → bytes_eq p.name x ≡ c → FitsEntry (find (has_name x) (module_entries ps)) (a x)
        go true e c k = absurd (true≢false (sym on ∙ (ap (λ z. is_in z (names_of ps)) (same_bytes x p.name e) ∙ first_differs p.name (names_of ps) differ)))
        go false e true k = absurd (true≢false (sym (bytes_same x p.name (sym (same_bytes p.name x k))) ∙ e))
        go false e false k =
            subst (λ o. FitsEntry o (a x)) (ap (λ b. if b then Some (record { name = p.name; sort = p.sort; kind = kind.Module }) else find (has_name x) (module_entries ps)) k)
            (fits x (ap (λ b. b || is_in x (names_of ps)) e ∙ on))

-- so what it gives the names are values for them
pub values_on : (ps : List Param) (a : Map) → is_twice (names_of ps) ≡ false → FitsOn ps a → ValuesFor ps (read_all (names_of ps) a)
values_on [] a differ fits = tt
values_on (p ∷ ps) a differ fits = here (a p.name) (first (bytes_eq p.name p.name) refl) (values_on ps a (rest_differ p.name (names_of ps) differ) rest)
  where
    itself : bytes_eq p.name p.name ≡ true
    itself = bytes_same p.name p.name refl

    first : (b : Bool) → bytes_eq p.name p.name ≡ b → FitsEntry (Some (record { name = p.name; sort = p.sort; kind = kind.Module })) (a p.name)
    first b e =
        subst (λ o. FitsEntry o (a p.name)) (ap (λ b. if b then Some (record { name = p.name; sort = p.sort; kind = kind.Module }) else find (has_name p.name) (module_entries ps)) itself)
        (fits p.name (ap (λ b. b || is_in p.name (names_of ps)) itself))

    here : (v : Option Value) → FitsEntry (Some (record { name = p.name; sort = p.sort; kind = kind.Module })) v → ValuesFor ps (read_all (names_of ps) a) → ValuesFor (p ∷ ps) (v ∷ read_all (names_of ps) a)
    here None h more = absurd h
    here (Some v) h more = (h, more)

    rest : FitsOn ps a
    rest x on = go (bytes_eq x p.name) refl (bytes_eq p.name x) refl
      where
        go : (b : Bool) → bytes_eq x p.name ≡ b → (c : Bool) → bytes_eq p.name x ≡ c → FitsEntry (find (has_name x) (module_entries ps)) (a x)
        go true e c k = absurd (true≢false (sym on ∙ (ap (λ z. is_in z (names_of ps)) (same_bytes x p.name e) ∙ first_differs p.name (names_of ps) differ)))
        go false e true k = absurd (true≢false (sym (bytes_same x p.name (sym (same_bytes p.name x k))) ∙ e))
        go false e false k =
            subst (λ o. FitsEntry o (a x)) (ap (λ b. if b then Some (record { name = p.name; sort = p.sort; kind = kind.Module }) else find (has_name x) (module_entries ps)) k)
            (fits x (ap (λ b. b || is_in x (names_of ps)) e ∙ on))

pub values_read : (ps : List Param) (a : Map) → is_twice (names_of ps) ≡ false → FitsMap (module_entries ps) a → ValuesFor ps (read_all (names_of ps) a)
values_read ps a differ fits = values_on ps a differ (λ x on. fits x)

pub vals_sorted : (ps : List Param) (a : Map) → is_twice (names_of ps) ≡ false → FitsMap (module_entries ps) a → Sorted ps (vals ps a)
vals_sorted ps a differ fits = sorted_on ps a differ (λ x on. fits x)

-- the map of chosen values fits
pub chosen_fits : (ps : List Param) (vs : List Value) → Sorted ps vs → FitsMap (module_entries ps) (chosen ps vs)
chosen_fits [] vs sorted x = tt
chosen_fits (p ∷ ps) [] sorted x = absurd sorted
chosen_fits (p ∷ ps) (v ∷ vs) sorted x = go (bytes_eq x p.name) refl (bytes_eq p.name x) refl (chosen_fits ps vs sorted.1 x)
  where
    go : (b : Bool) → bytes_eq x p.name ≡ b → (c : Bool) → bytes_eq p.name x ≡ c → FitsEntry (find (has_name x) (module_entries ps)) (chosen ps vs x)
        → FitsEntry (find (has_name x) (module_entries (p ∷ ps))) (put p.name (Some v) (chosen ps vs) x)
    go true e true k ih = rw (e, k) sorted.0
    go false e false k ih = rw (e, k) ih
    go true e false k ih = absurd (true≢false (sym (bytes_same p.name x (sym (same_bytes x p.name e))) ∙ k))
    go false e true k ih = absurd (true≢false (sym (bytes_same x p.name (sym (same_bytes p.name x k))) ∙ e))

-- a map that fits gives other names nothing
pub fits_off : (ps : List Param) (a : Map) (x : Name) → FitsMap (module_entries ps) a → is_in x (names_of ps) ≡ false → a x ≡ None
fits_off ps a x fits off = nothing (find (has_name x) (module_entries ps)) (a x) (unfound ps x off) (fits x)
  where
    unfound : (ps : List Param) (x : Name) → is_in x (names_of ps) ≡ false → find (has_name x) (module_entries ps) ≡ None
    unfound [] x h = refl
    unfound (p ∷ ps) x h = go (bytes_eq x p.name) refl (bytes_eq p.name x) refl h (unfound ps x)
      where
        go : (a : Bool) → bytes_eq x p.name ≡ a → (b : Bool) → bytes_eq p.name x ≡ b → (a || is_in x (names_of ps)) ≡ false
            → (is_in x (names_of ps) ≡ false → find (has_name x) (module_entries ps) ≡ None) → find (has_name x) (module_entries (p ∷ ps)) ≡ None
        go true i b j h ih = absurd (true≢false h)
        go false i true j h ih = absurd (true≢false (sym (bytes_same x p.name (sym (same_bytes p.name x j))) ∙ i))
        go false i false j h ih = rw j (ih h)

    nothing : (o : Option Entry) (u : Option Value) → o ≡ None → FitsEntry o u → u ≡ None
    nothing None None e f = refl
    nothing None (Some v) e f = absurd f
    nothing (Some z) u e f = absurd (cc)

-- a map that fits is what it gives the names
pub put_back : (ps : List Param) (a : Map) → FitsMap (module_entries ps) a → put_all (names_of ps) (read_all (names_of ps) a) empty ≡ a
put_back ps a fits = fun_ext (λ x. go x (is_in x (names_of ps)) refl)
  where
    put_read : (xs : List Name) (x : Name) → is_in x xs ≡ true → put_all xs (read_all xs a) empty x ≡ a x
    put_read [] x i = absurd (true≢false (sym i))
    put_read (y ∷ ys) x i = at (bytes_eq x y) refl i (put_read ys x)
      where
        at : (b : Bool) → bytes_eq x y ≡ b → (b || is_in x ys) ≡ true → (is_in x ys ≡ true → put_all ys (read_all ys a) empty x ≡ a x) → put y (a y) (put_all ys (read_all ys a) empty) x ≡ a x
        at true e k ih = ap (λ b. if b then a y else put_all ys (read_all ys a) empty x) e ∙ ap a (sym (same_bytes x y e))
        at false e k ih = ap (λ b. if b then a y else put_all ys (read_all ys a) empty x) e ∙ ih k

    go : (x : Name) (b : Bool) → is_in x (names_of ps) ≡ b → put_all (names_of ps) (read_all (names_of ps) a) empty x ≡ a x
    go x true i = put_read (names_of ps) x i
    go x false i = put_all_off (names_of ps) (read_all (names_of ps) a) empty x i ∙ sym (fits_off ps a x fits i)
