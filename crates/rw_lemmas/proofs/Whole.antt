-- The table stays whole: as many certificates or none as entries, and each of them counted.
use Rattle.std.proofs.Common.{◌≡◌, ℕ, zero, suc, ◌<◌, ◌≤◌, true, List, [], ◌∷◌, length, take, drop, remove, Option, Some, None, refl, sym, subst, arith}
use Rattle.std.specs.Prelude.{slice_get}
use Rattle.std.specs.Option.{IfSome}
use Rattle.std.proofs.lemmas.List.Edits.{length-insert, length-remove}
use Rattle.rw_terms.specs.Validity.{Each}
use Rattle.rw_goals.specs.declared.library.Item.{Item}
use Rattle.rw_goals.specs.declared.library.Item.TheVariants as item
use Rattle.rw_goals.specs.declared.library.Library.{Library}
use Rattle.rw_goals.proofs.Sound.{joined}
use Rattle.rw_sequents.specs.declared.line.Cert.{Cert}
use Rattle.rw_sequents.specs.After.{IsCounted}
use Rattle.rw_library.specs.Entries.{has_entry, place_of}
use Rattle.rw_library.proofs.Places.{place_found}
use Rattle.rw_lemmas.specs.States.{AreCounted}
use Rattle.rw_lemmas.specs.Table.{IsTable, proof_of_entry, put_at, put_in, moved}

abbrev Counted : Option Cert → Type 0
Counted o = IfSome o IsCounted

to_each : (ps : List (Option Cert)) → AreCounted ps → Each Counted ps
to_each [] h = tt
to_each (o ∷ ps) h = (first o (h 0), to_each ps (λ k. h (suc k)))
  where
    first : (o : Option Cert) → ((cert : Cert) → o ≡ Some cert → IsCounted cert) → Counted o
    first None h = tt
    first (Some cert) h = h cert refl

from_each : (ps : List (Option Cert)) → Each Counted ps → AreCounted ps
from_each [] h k cert e = absurd (cc)
from_each (o ∷ ps) h zero cert e = subst Counted e h.0
from_each (o ∷ ps) h (suc k) cert e = from_each ps h.1 k cert e

-- one more, or another in its place
longer : {X : Type 0} (xs : List X) (k : ℕ) (x : X) → length (put_at k x xs) ≤ suc (length xs)
longer [] k x = omega arith
longer (y ∷ ys) zero x = omega arith
longer (y ∷ ys) (suc k) x = let l = longer ys k x in omega arith

as_long : {X Y : Type 0} (xs : List X) (ys : List Y) (k : ℕ) (x : X) (y : Y) → length xs ≡ length ys → length (put_at k x xs) ≡ length (put_at k y ys)
as_long [] [] k x y e = refl
as_long [] (z ∷ ys) k x y e = absurd (omega (arith, e))
as_long (z ∷ xs) [] k x y e = absurd (omega (arith, e))
as_long (w ∷ xs) (z ∷ ys) zero x y e = e
as_long (w ∷ xs) (z ∷ ys) (suc k) x y e = let r = as_long xs ys k x y (omega arith) in omega arith

each_put : {X : Type 0} (P : X → Type 0) (xs : List X) (k : ℕ) (x : X) → P x → Each P xs → Each P (put_at k x xs)
each_put P [] k x p h = (p, tt)
each_put P (y ∷ ys) zero x p h = (p, h.1)
each_put P (y ∷ ys) (suc k) x p h = (h.0, each_put P ys k x p h.1)

pub table_with : (library : Library) (ps : List (Option Cert)) (e : Item) (o : Option Cert) (k : ℕ) → IsTable library ps → length library.entries < 4294967294 → IfSome o IsCounted →
    IsTable (record { entries = put_at k e library.entries }) (put_at k o ps)
table_with library ps e o k t few counted = record {
  few = let l = longer library.entries k e in omega arith;
  beside = as_long ps library.entries k o e t.beside;
  counted = from_each (put_at k o ps) (each_put Counted ps k o counted (to_each ps t.counted));
}

-- one in another place
moved_length : {X : Type 0} (xs : List X) (from to : ℕ) (o : Option X) → from < length xs → to < length xs → slice_get xs from ≡ o → length (put_in o to (remove xs from)) ≡ length xs
moved_length xs from to None h k e = absurd (none xs from h e)
  where
    none : {X : Type 0} (xs : List X) (i : ℕ) → i < length xs → slice_get xs i ≡ None → ⊥
    none [] i h e = omega (arith, h)
    none (x ∷ xs) zero h e = cc
    none (x ∷ xs) (suc i) h e = none xs i (omega arith) e
moved_length xs from to (Some x) h k e =
    let r = length-remove xs from h in
    let i = length-insert (remove xs from) to x (omega arith) in omega arith

each_take : {X : Type 0} (P : X → Type 0) (xs : List X) (k : ℕ) → Each P xs → Each P (take k xs)
each_take P xs zero h = tt
each_take P [] (suc k) h = tt
each_take P (x ∷ xs) (suc k) h = (h.0, each_take P xs k h.1)

each_drop : {X : Type 0} (P : X → Type 0) (xs : List X) (k : ℕ) → Each P xs → Each P (drop k xs)
each_drop P xs zero h = h
each_drop P [] (suc k) h = tt
each_drop P (x ∷ xs) (suc k) h = each_drop P xs k h.1

each_remove : {X : Type 0} (P : X → Type 0) (xs : List X) (k : ℕ) → Each P xs → Each P (remove xs k)
each_remove P [] zero h = tt
each_remove P [] (suc k) h = tt
each_remove P (x ∷ xs) zero h = h.1
each_remove P (x ∷ xs) (suc k) h = (h.0, each_remove P xs k h.1)

each_there : {X : Type 0} (P : X → Type 0) (xs : List X) (k : ℕ) (x : X) → slice_get xs k ≡ Some x → Each P xs → P x
each_there P [] k x e h = absurd (cc)
each_there P (y ∷ ys) zero x e h = let same : y ≡ x = cc in subst P same h.0
each_there P (y ∷ ys) (suc k) x e h = each_there P ys k x e h.1

each_moved : {X : Type 0} (P : X → Type 0) (xs : List X) (from to : ℕ) (o : Option X) → slice_get xs from ≡ o → Each P xs → Each P (put_in o to (remove xs from))
each_moved P xs from to None e h = each_remove P xs from h
each_moved P xs from to (Some x) e h =
    let r = each_remove P xs from h in joined P (take to (remove xs from)) (x ∷ drop to (remove xs from)) (each_take P (remove xs from) to r) (each_there P xs from x e h, each_drop P (remove xs from) to r)

-- a place of the entries is one of the certificates
pub beside_found : (library : Library) (ps : List (Option Cert)) (x : List ℕ) → IsTable library ps → has_entry x library.entries ≡ true → place_of library.entries x < length ps
beside_found library ps x t h = let f = place_found library.entries x h in let b = t.beside in omega arith

pub table_moved : (library : Library) (ps : List (Option Cert)) (from to : ℕ) → IsTable library ps → from < length library.entries → to < length library.entries →
    IsTable (record { entries = moved from to library.entries }) (moved from to ps)
table_moved library ps from to t h k =
    let es : length (moved from to library.entries) ≡ length library.entries = moved_length library.entries from to _ h k refl in
    let qs : length (moved from to ps) ≡ length ps = let b = t.beside in moved_length ps from to _ (omega arith) (omega arith) refl in record {
      few = let f = t.few in omega arith;
      beside = let b = t.beside in omega arith;
      counted = from_each (moved from to ps) (each_moved Counted ps from to _ refl (to_each ps t.counted));
    }

pub counted_beside : (e : Item) (o : Option Cert) → IfSome o IsCounted → IfSome (proof_of_entry e o) IsCounted
counted_beside (item.Definition d) o h = tt
counted_beside (item.Lemma l) o h = h

pub with_whole : (library : Library) (ps : List (Option Cert)) (e : Item) (o : Option Cert) (k : ℕ) (es : List Item) (qs : List (Option Cert)) → IsTable library ps → length library.entries < 4294967294 → IfSome o IsCounted →
    es ≡ put_at k e library.entries → qs ≡ put_at k o ps → IsTable (record { entries = es }) qs
with_whole library ps e o k es qs t few counted is are =
    subst (λ l. IsTable (record { entries = l }) qs) (sym is) (subst (λ l. IsTable (record { entries = put_at k e library.entries }) l) (sym are) (table_with library ps e o k t few counted))

pub moved_whole : (library : Library) (ps : List (Option Cert)) (x : List ℕ) (from to : ℕ) (es : List Item) (qs : List (Option Cert)) → IsTable library ps → has_entry x library.entries ≡ true →
    from ≡ place_of library.entries x → to < length library.entries → es ≡ moved from to library.entries → qs ≡ moved from to ps → IsTable (record { entries = es }) qs
moved_whole library ps x from to es qs t h p k is are =
    let here : from < length library.entries = subst (λ n. n < length library.entries) (sym p) (place_found library.entries x h) in
    subst (λ l. IsTable (record { entries = l }) qs) (sym is) (subst (λ l. IsTable (record { entries = moved from to library.entries }) l) (sym are) (table_moved library ps from to t here k))
