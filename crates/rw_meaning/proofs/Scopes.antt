-- Scopes with more names, and the states that fit them.
use Rattle.std.proofs.Common.{◌≡◌, refl, sym, ap, ◌∙◌, subst, Bool, true, false, ◌||◌, List, [], ◌∷◌, ◌++◌, map, find, Option, Some, None, true≢false}
use Rattle.std.specs.Prelude.{bytes_eq}
use Rattle.rw_terms.specs.declared.scope.Entry.{Entry}
use Rattle.rw_terms.specs.Scopes.{has_name, is_fresh}
use Rattle.rw_terms.specs.State.{Value, FitsEntry, State as Map, Fits as FitsMap}
use Rattle.rw_programs.specs.State.{Name, empty, is_in, put_all}
use Rattle.rw_programs.specs.Scoped.{with_entry, with_entries}
use Rattle.rw_programs.proofs.Frames.{put_all_off}
use Rattle.rw_meaning.proofs.Tests.{same_bytes, bytes_same, other_bytes, and_then_is, if_is, fresh_is}

-- a name of a scope with one entry more at the end
abbrev pub found_with : Option Entry → Bool → Entry → Option Entry
found_with None true e = Some e
found_with None false e = None
found_with (Some a) b e = Some a

find_one : (b : Bool) (x : Name) (e : Entry) → has_name x e ≡ b → find (has_name x) (e ∷ []) ≡ found_with None b e
find_one true x e h = rw h
find_one false x e h = rw h

pub find_with : (scope : List Entry) (x : Name) (e : Entry) → find (has_name x) (scope ++ e ∷ []) ≡ found_with (find (has_name x) scope) (has_name x e) e
find_with [] x e = find_one (has_name x e) x e refl
find_with (a ∷ scope) x e = go (has_name x a) refl (find_with scope x e)
  where
    go : (b : Bool) → has_name x a ≡ b → find (has_name x) (scope ++ e ∷ []) ≡ found_with (find (has_name x) scope) (has_name x e) e
        → find (has_name x) ((a ∷ scope) ++ e ∷ []) ≡ found_with (find (has_name x) (a ∷ scope)) (has_name x e) e
    go true h ih = rw h
    go false h ih = rw h ih

-- What is found in a scope with more entries: those, which the scope does not have, and else what the scope has.
pub record Extends (scope es inner : List Entry) : Type 0 where
  pub new : (x : Name) → is_in x (map (λ e. e.name) es) ≡ true → (find (has_name x) inner ≡ find (has_name x) es) × (find (has_name x) scope ≡ None)
  pub old : (x : Name) → is_in x (map (λ e. e.name) es) ≡ false → find (has_name x) inner ≡ find (has_name x) scope

pub with_is : (scope : List Entry) (e : Entry) (inner : List Entry) → with_entry scope e ≡ Some inner → (find (has_name e.name) scope ≡ None) × (scope ++ e ∷ [] ≡ inner)
with_is scope e inner h = let r = if_is (is_fresh e.name scope) (scope ++ e ∷ []) inner h in (fresh_is e.name scope r.0, r.1)

-- nothing is found where nothing is with more
none_with : (o : Option Entry) (b : Bool) (e : Entry) → found_with o b e ≡ None → (o ≡ None) × (b ≡ false)
none_with None true e h = absurd (cc)
none_with None false e h = (refl, refl)
none_with (Some a) b e h = absurd (cc)

extends_one : (scope : List Entry) (e : Entry) (rest scope' inner : List Entry) → with_entry scope e ≡ Some scope' → Extends scope' rest inner → Extends scope (e ∷ rest) inner
extends_one scope e rest scope' inner h ext = record { new = λ x. new x (is_in x (map (λ a. a.name) rest)) refl; old = λ x. old x (is_in x (map (λ a. a.name) rest)) refl }
  where
    at : (x : Name) → find (has_name x) scope' ≡ found_with (find (has_name x) scope) (has_name x e) e
    at x = ap (find (has_name x)) (sym (with_is scope e scope' h).1) ∙ find_with scope x e

    skip : (x : Name) (b : Bool) → has_name x e ≡ b → b ≡ false → find (has_name x) rest ≡ find (has_name x) (e ∷ rest)
    skip x true i k = absurd (true≢false k)
    skip x false i k = rw i

    take : (x : Name) → has_name x e ≡ true → find (has_name x) (e ∷ rest) ≡ Some e
    take x i = rw i

    new : (x : Name) (r : Bool) → is_in x (map (λ a. a.name) rest) ≡ r → (bytes_eq x e.name || is_in x (map (λ a. a.name) rest)) ≡ true
        → (find (has_name x) inner ≡ find (has_name x) (e ∷ rest)) × (find (has_name x) scope ≡ None)
    new x true i k =
        let n = ext.new x i in
        let out = none_with (find (has_name x) scope) (has_name x e) e (sym (at x) ∙ n.1) in
        (n.0 ∙ skip x (has_name x e) refl out.1, out.0)
    new x false i k = here (bytes_eq x e.name) refl k
      where
        here : (b : Bool) → bytes_eq x e.name ≡ b → (b || is_in x (map (λ a. a.name) rest)) ≡ true
            → (find (has_name x) inner ≡ find (has_name x) (e ∷ rest)) × (find (has_name x) scope ≡ None)
        here false j k = absurd (true≢false (sym k ∙ i))
        here true j k =
            let same = same_bytes x e.name j in
            let has : has_name x e ≡ true = bytes_same e.name x (sym same) in
            let none : find (has_name x) scope ≡ None = ap (λ y. find (has_name y) scope) same ∙ (with_is scope e scope' h).0 in
            (ext.old x i ∙ (at x ∙ (ap (λ o. found_with o (has_name x e) e) none ∙ (ap (λ b. found_with None b e) has ∙ sym (take x has)))), none)

    old : (x : Name) (r : Bool) → is_in x (map (λ a. a.name) rest) ≡ r → (bytes_eq x e.name || is_in x (map (λ a. a.name) rest)) ≡ false
        → find (has_name x) inner ≡ find (has_name x) scope
    old x r i k = here (bytes_eq x e.name) refl k
      where
        unfound : (o : Option Entry) (b : Bool) → b ≡ false → found_with o b e ≡ o
        unfound None true q = absurd (true≢false q)
        unfound None false q = refl
        unfound (Some a) b q = refl

        here : (b : Bool) → bytes_eq x e.name ≡ b → (b || is_in x (map (λ a. a.name) rest)) ≡ false → find (has_name x) inner ≡ find (has_name x) scope
        here true j k = absurd (true≢false k)
        here false j k = ext.old x k ∙ (at x ∙ unfound (find (has_name x) scope) (has_name x e) (other_bytes x e.name j))

-- the scope with entries has these and no others more
pub extends : (scope es inner : List Entry) → with_entries scope es ≡ Some inner → Extends scope es inner
extends scope [] inner h = record { new = λ x i. absurd (true≢false (sym i)); old = λ x i. ap (find (has_name x)) (same scope inner h) }
  where
    same : (a b : List Entry) → Some a ≡ Some b → b ≡ a
    same a b e = cc
extends scope (e ∷ es) inner h =
    let r = and_then_is (λ i. with_entries i es) (with_entry scope e) inner h in
    extends_one scope e es r.0 inner r.1 (extends r.0 es inner r.2)

-- A map that is one which fits the new entries on their names, and else one that fits the scope, fits the scope with them.
pub enter_fits : (scope es inner : List Entry) → Extends scope es inner → (m n own : Map) → FitsMap scope m → FitsMap es n
    → ((x : Name) → is_in x (map (λ e. e.name) es) ≡ true → own x ≡ n x) → ((x : Name) → is_in x (map (λ e. e.name) es) ≡ false → own x ≡ m x) → FitsMap inner own
enter_fits scope es inner ext m n own fm fn on off x = go (is_in x (map (λ e. e.name) es)) refl
  where
    go : (b : Bool) → is_in x (map (λ e. e.name) es) ≡ b → FitsEntry (find (has_name x) inner) (own x)
    go true i = subst (λ o. FitsEntry o (own x)) (sym (ext.new x i).0) (subst (FitsEntry (find (has_name x) es)) (sym (on x i)) (fn x))
    go false i = subst (λ o. FitsEntry o (own x)) (sym (ext.old x i)) (subst (FitsEntry (find (has_name x) scope)) (sym (off x i)) (fm x))

-- A map that has nothing on the new names, and else what one has that fits the scope with them, fits the scope.
pub leave_fits : (scope es inner : List Entry) → Extends scope es inner → (m own : Map) → FitsMap inner m
    → ((x : Name) → is_in x (map (λ e. e.name) es) ≡ true → own x ≡ None) → ((x : Name) → is_in x (map (λ e. e.name) es) ≡ false → own x ≡ m x) → FitsMap scope own
leave_fits scope es inner ext m own fm on off x = go (is_in x (map (λ e. e.name) es)) refl
  where
    go : (b : Bool) → is_in x (map (λ e. e.name) es) ≡ b → FitsEntry (find (has_name x) scope) (own x)
    go true i = subst (λ o. FitsEntry o (own x)) (sym (ext.new x i).1) (subst (FitsEntry None) (sym (on x i)) tt)
    go false i = subst (λ o. FitsEntry o (own x)) (ext.old x i) (subst (FitsEntry (find (has_name x) inner)) (sym (off x i)) (fm x))

-- on these names what is put does not depend on what was there
pub put_all_on : (xs : List Name) (vs : List (Option Value)) (m n : Map) (x : Name) → is_in x xs ≡ true → put_all xs vs m x ≡ put_all xs vs n x
put_all_on [] vs m n x h = absurd (true≢false (sym h))
put_all_on (y ∷ ys) vs m n x h = go (bytes_eq x y) refl h vs (λ vs h. put_all_on ys vs m n x h)
  where
    go : (b : Bool) → bytes_eq x y ≡ b → (b || is_in x ys) ≡ true → (vs : List (Option Value))
        → ((vs : List (Option Value)) → is_in x ys ≡ true → put_all ys vs m x ≡ put_all ys vs n x) → put_all (y ∷ ys) vs m x ≡ put_all (y ∷ ys) vs n x
    go true e h [] ih = rw e
    go true e h (v ∷ vs) ih = rw e
    go false e h [] ih = rw e (ih [] h)
    go false e h (v ∷ vs) ih = rw e (ih vs h)

-- names to which nothing is put have nothing
pub put_none : (xs : List Name) (m : Map) (x : Name) → is_in x xs ≡ true → put_all xs [] m x ≡ None
put_none [] m x h = absurd (true≢false (sym h))
put_none (y ∷ ys) m x h = go (bytes_eq x y) refl h (put_none ys m x)
  where
    go : (b : Bool) → bytes_eq x y ≡ b → (b || is_in x ys) ≡ true → (is_in x ys ≡ true → put_all ys [] m x ≡ None) → put_all (y ∷ ys) [] m x ≡ None
    go true e h ih = rw e
    go false e h ih = rw e (ih h)

-- values put for new names, beside a map that fits
pub put_fits : (scope es inner : List Entry) → with_entries scope es ≡ Some inner → (m : Map) (vs : List (Option Value)) → FitsMap scope m
    → FitsMap es (put_all (map (λ e. e.name) es) vs empty) → FitsMap inner (put_all (map (λ e. e.name) es) vs m)
put_fits scope es inner h m vs fm fn =
    enter_fits scope es inner (extends scope es inner h) m (put_all (map (λ e. e.name) es) vs empty) (put_all (map (λ e. e.name) es) vs m) fm fn
    (λ x i. put_all_on (map (λ e. e.name) es) vs m empty x i) (λ x i. put_all_off (map (λ e. e.name) es) vs m x i)

-- and taken away
pub taken_fits : (scope es inner : List Entry) → with_entries scope es ≡ Some inner → (m : Map) → FitsMap inner m → FitsMap scope (put_all (map (λ e. e.name) es) [] m)
taken_fits scope es inner h m fm =
    leave_fits scope es inner (extends scope es inner h) m (put_all (map (λ e. e.name) es) [] m) fm
    (λ x i. put_none (map (λ e. e.name) es) m x i) (λ x i. put_all_off (map (λ e. e.name) es) [] m x i)
