-- The table without an entry.
use Rattle.std.proofs.Common.{◌≡◌, ℕ, zero, suc, ◌+◌, ◌<◌, ◌≤◌, Bool, true, false, List, [], ◌∷◌, length, remove, Option, Some, None, refl, sym, ap, ◌∙◌, subst, arith, true≢false, inl, inr}
use Rattle.std.specs.Prelude.{slice_get}
use Rattle.std.specs.Option.{option_and_then}
use Rattle.std.proofs.lemmas.Slice.Eq.{bytes_eq-Decides}
use Rattle.std.proofs.lemmas.Bool.{cases_lt}
use Rattle.rw_goals.specs.declared.library.Item.{Item}
use Rattle.rw_goals.specs.declared.library.Library.{Library}
use Rattle.rw_sequents.specs.declared.line.Cert.{Cert}
use Rattle.rw_library.specs.Entries.{entry_name, is_entry, has_entry, place_of}
use Rattle.rw_lemmas.specs.States.{AreCounted, proof_at, statuses_from}
use Rattle.rw_library.proofs.Places.{place_found}
use Rattle.rw_lemmas.specs.declared.error.LemmaError.{LemmaError}
use Rattle.rw_lemmas.specs.declared.error.LemmaError.TheVariants as error
use Rattle.rw_lemmas.specs.declared.status.LemmaStatus.{LemmaStatus}
use Rattle.rw_lemmas.specs.Table.{IsTable, anew}
use Rattle.rw_lemmas.specs.Refusals.{in_use, proof_names, user_from}
use Rattle.rw_lemmas.proofs.Removing.{kept_before, kept_behind, statuses_removed, unused}

-- the entry in the place of a name has it
pub in_place : (es : List Item) (x : List ℕ) → has_entry x es ≡ true → (e : Item) × (slice_get es (place_of es x) ≡ Some e) × (entry_name e ≡ x)
in_place [] x h = absurd (true≢false (sym h))
in_place (e ∷ es) x h = go (is_entry x e) refl h (in_place es x)
  where
    go : (b : Bool) → is_entry x e ≡ b → has_entry x (e ∷ es) ≡ true → (has_entry x es ≡ true → (e : Item) × (slice_get es (place_of es x) ≡ Some e) × (entry_name e ≡ x)) →
        (d : Item) × (slice_get (e ∷ es) (place_of (e ∷ es) x) ≡ Some d) × (entry_name d ≡ x)
    go true is h ih = rw is (e, refl, (bytes_eq-Decides (entry_name e) x).0 is)
    go false is h ih = let r = ih (sym (rw is refl) ∙ h) in rw is (r.0, r.1, r.2)

shorter : {X : Type 0} (xs : List X) (p : ℕ) → length (remove xs p) ≤ length xs
shorter [] zero = omega arith
shorter [] (suc p) = omega arith
shorter (x ∷ xs) zero = omega arith
shorter (x ∷ xs) (suc p) = let r = shorter xs p in omega arith

same_length : {X Y : Type 0} (xs : List X) (ys : List Y) (p : ℕ) → length xs ≡ length ys → length (remove xs p) ≡ length (remove ys p)
same_length [] [] zero e = refl
same_length [] [] (suc p) e = refl
same_length [] (y ∷ ys) p e = absurd (omega (arith, e))
same_length (x ∷ xs) [] p e = absurd (omega (arith, e))
same_length (x ∷ xs) (y ∷ ys) zero e = omega arith
same_length (x ∷ xs) (y ∷ ys) (suc p) e = let r = same_length xs ys p (omega arith) in omega arith

counted_without : (ps : List (Option Cert)) (p : ℕ) → AreCounted ps → AreCounted (remove ps p)
counted_without ps p h k cert e = elim (cases_lt k p) [
  | inl l ↦ h k cert (ap (option_and_then (λ o. o)) (sym (kept_before ps p k l)) ∙ e)
  | inr l ↦ h (suc k) cert (ap (option_and_then (λ o. o)) (sym (kept_behind ps p k l)) ∙ e)
]

pub table_without : (library : Library) (ps : List (Option Cert)) (p : ℕ) → IsTable library ps → IsTable (record { entries = remove library.entries p }) (remove ps p)
table_without library ps p t = record {
  few = let s = shorter library.entries p in let f = t.few in omega arith;
  beside = same_length ps library.entries p t.beside;
  counted = counted_without ps p t.counted;
}

-- each other entry keeps its status where none names the one that is taken away
pub statuses_without : (es : List Item) (ps : List (Option Cert)) (x : List ℕ) → has_entry x es ≡ true → user_from x (place_of es x) ps 0 es ≡ None →
    remove (statuses_from (record { entries = es }) ps 0 es) (place_of es x) ≡ statuses_from (record { entries = remove es (place_of es x) }) (remove ps (place_of es x)) 0 (remove es (place_of es x))
statuses_without es ps x h none =
    let e = in_place es x h in
    statuses_removed x es ps (place_of es x) e.0 e.1 e.2
    (λ i d at n.
    let z : 0 + i ≡ i = omega arith in
    let u = unused x (place_of es x) ps 0 es none i d at (λ q. n (sym z ∙ q)) in (u.0, ap (λ j. proof_names x (proof_at ps j)) (sym z) ∙ u.1))

as_many : (library : Library) (ps : List (Option Cert)) (k : ℕ) (es : List Item) → length (statuses_from library ps k es) ≡ length es
as_many library ps k [] = refl
as_many library ps k (e ∷ es) = ap suc (as_many library ps (k + 1) es)

-- a place of the entries is one of the statuses
pub place_within : (library : Library) (ps : List (Option Cert)) (ss : List LemmaStatus) (x : List ℕ) (place : ℕ) → ss ≡ anew (record { library = library; proofs = ps }) → has_entry x library.entries ≡ true →
    place ≡ place_of library.entries x → place < length ss
place_within library ps ss x place s h p =
    subst (λ n. place < n) (sym (ap length s ∙ as_many library ps 0 library.entries)) (subst (λ n. n < length library.entries) (sym p) (place_found library.entries x h))

pub no_user : (o : Option (List ℕ)) (r : Option LemmaError) → r ≡ in_use o → ((e : LemmaError) → r ≡ Some e → ⊥) → o ≡ None
no_user None r e n = refl
no_user (Some u) r e n = absurd (n (error.InUse u) e)

pub removed_whole : (library : Library) (ps : List (Option Cert)) (ss : List LemmaStatus) (x : List ℕ) (place : ℕ) (es : List Item) (qs : List (Option Cert)) (ts : List LemmaStatus) →
    IsTable library ps → ss ≡ anew (record { library = library; proofs = ps }) → has_entry x library.entries ≡ true → user_from x (place_of library.entries x) ps 0 library.entries ≡ None →
    place ≡ place_of library.entries x → es ≡ remove library.entries place → qs ≡ remove ps place → ts ≡ remove ss place →
    IsTable (record { entries = es }) qs × (ts ≡ anew (record { library = record { entries = es }; proofs = qs }))
removed_whole library ps ss x place es qs ts t s h none p e f g =
    let ee : es ≡ remove library.entries (place_of library.entries x) = e ∙ ap (remove library.entries) p in
    let ff : qs ≡ remove ps (place_of library.entries x) = f ∙ ap (remove ps) p in (
      subst (λ l. IsTable (record { entries = l }) qs) (sym ee)
          (subst (λ l. IsTable (record { entries = remove library.entries (place_of library.entries x) }) l) (sym ff) (table_without library ps (place_of library.entries x) t)),
      g
          ∙ ap (remove ss) p
          ∙ ap (λ l. remove l (place_of library.entries x)) s
          ∙ statuses_without library.entries ps x h none
          ∙ ap (λ l. anew (record { library = record { entries = l }; proofs = remove ps (place_of library.entries x) })) (sym ee)
          ∙ ap (λ l. anew (record { library = record { entries = es }; proofs = l })) (sym ff),
    )
