-- What a program does to states that fit: assignments, locals and constants keep to the scope.
use Rattle.std.proofs.Common.{◌≡◌, refl, sym, ap, ◌∙◌, subst, ℕ, suc, Bool, true, false, List, [], ◌∷◌, map, find, length, Option, Some, None, true≢false}
use Rattle.std.proofs.lemmas.Bool.{eqb-true, and_parts}
use Rattle.std.specs.Prelude.{bytes_eq, option_and_then, if◌then◌else◌}
use Rattle.rw_terms.specs.declared.scope.Entry.{Entry}
use Rattle.rw_terms.specs.declared.scope.Kind.{Kind}
use Rattle.rw_terms.specs.declared.scope.Kind.TheVariants as kind
use Rattle.rw_terms.specs.declared.term.Sort.{Sort}
use Rattle.rw_terms.specs.declared.term.Sort.TheVariants.{Int, Array}
use Rattle.rw_terms.specs.declared.term.Term.{Term}
use Rattle.rw_terms.specs.Scopes.{has_name}
use Rattle.rw_terms.specs.State.{Value, HasSort, FitsEntry, State as Map, Fits as FitsMap}
use Rattle.rw_terms.specs.Value.{value}
use Rattle.rw_terms.specs.Sorts.{as_variable}
use Rattle.rw_terms.specs.Formed.{same_sort, is_sort}
use Rattle.rw_terms.specs.Rules.{sort_in, is_of, may_equal_of}
use Rattle.rw_terms.proofs.Typed.{sort_law}
use Rattle.rw_programs.specs.declared.prog.Pin.{Pin}
use Rattle.rw_programs.specs.State.{Name, State, empty, put, put_all}
use Rattle.rw_programs.specs.Tables.{pin_names, pin_terms}
use Rattle.rw_programs.specs.Meaning.{values}
use Rattle.rw_programs.specs.Scoped.{each_set, are_set, with_entry, with_entries, with_local, with_pin, with_pins}
use Rattle.rw_meaning.proofs.Tests.{same_bytes, bytes_same, and_then_is}
use Rattle.rw_meaning.proofs.Scopes.{put_fits, taken_fits}

same_sort_is : (a b : Sort) → same_sort a b ≡ true → a ≡ b
same_sort_is Int Int e = refl
same_sort_is Int (Array n) e = absurd (true≢false (sym e))
same_sort_is (Array m) Int e = absurd (true≢false (sym e))
same_sort_is (Array m) (Array n) e = ap Array (eqb-true m n e)

is_of_is : (s : Sort) (o : Option Sort) → is_of s o ≡ true → o ≡ Some s
is_of_is s None e = absurd (true≢false (sym e))
is_of_is s (Some t) e = ap Some (sym (same_sort_is s t e))

-- a variable of the scope whose sort is that of a term takes the value of the term
variable_takes : (o : Option Entry) (t : Option Sort) (v : Value) → ((sort : Sort) → t ≡ Some sort → HasSort v sort)
    → may_equal_of (option_and_then (λ e. as_variable e.kind e.sort) o) t ≡ true → FitsEntry o (Some v)
variable_takes None t v has e = absurd (true≢false (sym e))
variable_takes (Some a) t v has e = has a.sort (go a.kind e)
  where
    go : (k : Kind) → may_equal_of (as_variable k a.sort) t ≡ true → t ≡ Some a.sort
    go kind.Constant e = absurd (true≢false (sym e))
    go kind.Global e = is_of_is a.sort t e
    go kind.Local e = is_of_is a.sort t e
    go kind.Value e = is_of_is a.sort t e
    go kind.Outcome e = is_of_is a.sort t e
    go kind.Module e = is_of_is a.sort t e

module _ (scope : List Entry) (s : State) (fits : FitsMap scope s.own) where
  -- the value of a term has its sort
  valued : (t : Term) (sort : Sort) → sort_in scope [] t ≡ Some sort → HasSort (value s.own s.own [] t) sort
  valued t sort e = sort_law scope [] t sort e s.own s.own fits fits [] tt

  -- an assignment of terms of the variables' sorts
  pub set_fits : (names : List Name) (terms : List Term) → length names ≡ length terms → each_set scope names terms ≡ true → FitsMap scope (put_all names (values terms s) s.own)
  set_fits [] terms long e = fits
  set_fits (x ∷ names) [] long e = absurd (cc)
  set_fits (x ∷ names) (t ∷ terms) long e = λ y. at y (bytes_eq y x) refl (set_fits names terms (shorter (length names) (length terms) long) (and_parts _ _ e).1 y)
    where
      shorter : (a b : ℕ) → suc a ≡ suc b → a ≡ b
      shorter a b q = cc

      here : FitsEntry (find (has_name x) scope) (Some (value s.own s.own [] t))
      here = variable_takes (find (has_name x) scope) (sort_in scope [] t) _ (valued t) (and_parts _ _ e).0

      at : (y : Name) (b : Bool) → bytes_eq y x ≡ b → FitsEntry (find (has_name y) scope) (put_all names (values terms s) s.own y)
          → FitsEntry (find (has_name y) scope) (put x (Some (value s.own s.own [] t)) (put_all names (values terms s) s.own) y)
      at y true i rest = rw i (subst (λ z. FitsEntry (find (has_name z) scope) (Some (value s.own s.own [] t))) (sym (same_bytes y x i)) here)
      at y false i rest = rw i rest

  pub assigned_fits : (names : List Name) (terms : List Term) → are_set scope names terms ≡ true → FitsMap scope (put_all names (values terms s) s.own)
  assigned_fits names terms e = set_fits names terms (eqb-true _ _ (and_parts _ _ e).0) (and_parts _ _ e).1

-- the value of one entry fits a scope of that entry alone
alone_fits : (e : Entry) (v : Value) → HasSort v e.sort → FitsMap (e ∷ []) (put e.name (Some v) empty)
alone_fits e v h y = go (bytes_eq e.name y) refl (bytes_eq y e.name) refl
  where
    go : (a : Bool) → bytes_eq e.name y ≡ a → (b : Bool) → bytes_eq y e.name ≡ b → FitsEntry (find (has_name y) (e ∷ [])) (put e.name (Some v) empty y)
    go true i true j = rw (i, j) h
    go false i false j = rw (i, j) tt
    go true i false j = absurd (true≢false (sym (bytes_same y e.name (sym (same_bytes e.name y i))) ∙ j))
    go false i true j = absurd (true≢false (sym (bytes_same e.name y (sym (same_bytes y e.name j))) ∙ i))

-- a scope with one entry is one with a list of one
pub one_entry : (scope : List Entry) (e : Entry) (inner : List Entry) → with_entry scope e ≡ Some inner → with_entries scope (e ∷ []) ≡ Some inner
one_entry scope e inner h = go (with_entry scope e) h
  where
    go : (o : Option (List Entry)) → o ≡ Some inner → option_and_then (λ i. with_entries i []) o ≡ Some inner
    go None h = absurd (cc)
    go (Some a) h = h

pub local_entry : (scope : List Entry) (x : Name) (sort : Sort) (inner : List Entry) → with_local scope x sort ≡ Some inner
    → with_entry scope (record { name = x; sort = sort; kind = kind.Local }) ≡ Some inner
local_entry scope x sort inner h = go (is_sort sort) h
  where
    go : (b : Bool) → (if b then with_entry scope (record { name = x; sort = sort; kind = kind.Local }) else None) ≡ Some inner → with_entry scope (record { name = x; sort = sort; kind = kind.Local }) ≡ Some inner
    go true h = h
    go false h = absurd (cc)

-- a local with a value of its sort
pub local_fits : (scope : List Entry) (x : Name) (sort : Sort) (inner : List Entry) → with_local scope x sort ≡ Some inner → (m : Map) (v : Value) → FitsMap scope m → HasSort v sort
    → FitsMap inner (put x (Some v) m)
local_fits scope x sort inner h m v fm hv =
    let e : Entry = record { name = x; sort = sort; kind = kind.Local } in
    put_fits scope (e ∷ []) inner (one_entry scope e inner (local_entry scope x sort inner h)) m (Some v ∷ []) fm (alone_fits e v hv)

-- and taken away
pub local_gone : (scope : List Entry) (x : Name) (sort : Sort) (inner : List Entry) → with_local scope x sort ≡ Some inner → (m : Map) → FitsMap inner m → FitsMap scope (put x None m)
local_gone scope x sort inner h m fm =
    let e : Entry = record { name = x; sort = sort; kind = kind.Local } in
    taken_fits scope (e ∷ []) inner (one_entry scope e inner (local_entry scope x sort inner h)) m fm

-- The entries of constants: the scope takes them, they have the constants' names, and the values of the terms fit them.
record Pinned (scope inner : List Entry) (names : List Name) (vs : List (Option Value)) : Type 0 where
  entries : List Entry
  taken : with_entries scope entries ≡ Some inner
  named : map (λ e. e.name) entries ≡ names
  fit : FitsMap entries (put_all names vs empty)

-- the entries with one more in front
one_more : (scope scope' inner : List Entry) (e : Entry) (es : List Entry) → with_entry scope e ≡ Some scope' → with_entries scope' es ≡ Some inner → with_entries scope (e ∷ es) ≡ Some inner
one_more scope scope' inner e es h k = ap (option_and_then (λ i. with_entries i es)) h ∙ k

fit_more : (e : Entry) (es : List Entry) (m : Map) (v : Value) → HasSort v e.sort → FitsMap es m → FitsMap (e ∷ es) (put e.name (Some v) m)
fit_more e es m v h fm y = go (bytes_eq e.name y) refl (bytes_eq y e.name) refl
  where
    go : (a : Bool) → bytes_eq e.name y ≡ a → (b : Bool) → bytes_eq y e.name ≡ b → FitsEntry (find (has_name y) (e ∷ es)) (put e.name (Some v) m y)
    go true i true j = rw (i, j) h
    go false i false j = rw (i, j) (fm y)
    go true i false j = absurd (true≢false (sym (bytes_same y e.name (sym (same_bytes e.name y i))) ∙ j))
    go false i true j = absurd (true≢false (sym (bytes_same e.name y (sym (same_bytes y e.name j))) ∙ i))

module _ (outer : List Entry) (s : State) (fits : FitsMap outer s.own) where
  pinned : (pins : List Pin) (scope inner : List Entry) → with_pins outer scope pins ≡ Some inner → Pinned scope inner (pin_names pins) (values (pin_terms pins) s)
  pinned [] scope inner h = record { entries = []; taken = h; named = refl; fit = λ y. tt }
  pinned (p ∷ pins) scope inner h =
      let r = and_then_is (λ i. with_pins outer i pins) (with_pin outer scope p) inner h in
      let q = and_then_is (λ sort. with_entry scope (record { name = p.name; sort = sort; kind = kind.Constant })) (sort_in outer [] p.term) r.0 r.1 in
      let e : Entry = record { name = p.name; sort = q.0; kind = kind.Constant } in
      let more = pinned pins r.0 inner r.2 in record {
        entries = e ∷ more.entries;
        taken = one_more scope r.0 inner e more.entries q.2 more.taken;
        named = ap (λ l. p.name ∷ l) more.named;
        fit = fit_more e more.entries (put_all (pin_names pins) (values (pin_terms pins) s) empty) (value s.own s.own [] p.term) (valued outer s fits p.term q.0 q.1) more.fit;
      }

  -- constants with the values of their terms
  pub pins_fit : (pins : List Pin) (inner : List Entry) → with_pins outer outer pins ≡ Some inner → FitsMap inner (put_all (pin_names pins) (values (pin_terms pins) s) s.own)
  pins_fit pins inner h =
      let r = pinned pins outer inner h in
      let vs = values (pin_terms pins) s in
      subst (λ names. FitsMap inner (put_all names vs s.own)) r.named
      (put_fits outer r.entries inner r.taken s.own vs fits (subst (λ names. FitsMap r.entries (put_all names vs empty)) (sym r.named) r.fit))

  -- and taken away
  pub pins_gone : (pins : List Pin) (inner : List Entry) → with_pins outer outer pins ≡ Some inner → (m : Map) → FitsMap inner m → FitsMap outer (put_all (pin_names pins) [] m)
  pins_gone pins inner h m fm =
      let r = pinned pins outer inner h in
      subst (λ names. FitsMap outer (put_all names [] m)) r.named (taken_fits outer r.entries inner r.taken m fm)
