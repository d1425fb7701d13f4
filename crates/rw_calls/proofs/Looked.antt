-- Look-ups where terms are put for variables, by the values that the terms have.
use Rattle.std.proofs.Common.{◌≡◌, ℕ, suc, Bool, true, false, if◌then◌else◌, ◌||◌, ◌&&◌, List, [], ◌∷◌, ◌++◌, length, Option, refl, sym, ap, ◌∙◌, true≢false}
use Rattle.std.specs.Prelude.{bytes_eq}
use Rattle.rw_terms.specs.declared.term.Term.{Term}
use Rattle.rw_terms.specs.State.{Value, given, value_in, State as Map}
use Rattle.rw_terms.specs.Validity.{Each}
use Rattle.rw_faults.specs.Initial.{is_twice}
use Rattle.rw_subst.specs.declared.slot.Form.{Form}
use Rattle.rw_subst.specs.declared.slot.Form.TheVariants as form
use Rattle.rw_subst.specs.declared.slot.Change.{Change}
use Rattle.rw_subst.specs.declared.slot.Slot.TheVariants as slot
use Rattle.rw_subst.specs.Slots.{is_slot}
use Rattle.rw_subst.specs.Closed.{is_closed, are_closed}
use Rattle.rw_subst.specs.Looks.{Looks, value_of, changed_looks}
use Rattle.rw_programs.specs.State.{Name, is_in, put, put_all, read_all}
use Rattle.rw_meaning.proofs.Tests.{same_bytes, bytes_same}
use Rattle.rw_derived.specs.Derived.{set_to}
use Rattle.rw_simulation.proofs.Chosen.{first_differs, rest_differ}
use Rattle.rw_simulation.proofs.Lists.{read_same}

module _ (looks : Looks) (rest : List Change) where
  -- each term has by the look-ups the value in its place
  abbrev pub Valued : List Term → List (Option Value) → Type 0
  Valued [] [] = Unit {0}
  Valued [] (v ∷ vs) = ⊥
  Valued (t ∷ ts) [] = ⊥
  Valued (t ∷ ts) (v ∷ vs) = (value_of looks [] t ≡ given v) × Valued ts vs

  abbrev changed : List Name → List Term → Name → Value
  changed names ts y = changed_looks (set_to names ts ++ rest) looks form.Variable y

  -- a variable has the value that is put for it
  pub set_value : (names : List Name) (ts : List Term) (vs : List (Option Value)) (m : Map) → length names ≡ length ts → Valued ts vs → (y : Name) → changed_looks rest looks form.Variable y ≡ value_in m y → changed names ts y ≡ value_in (put_all names vs m) y
  set_value [] [] [] m long h y base = base
  set_value [] [] (v ∷ vs) m long h y base = absurd h
  set_value [] (t ∷ ts) vs m long h y base = absurd (cc)
  set_value (x ∷ names) [] vs m long h y base = absurd (cc)
  set_value (x ∷ names) (t ∷ ts) [] m long h y base = absurd h
  set_value (x ∷ names) (t ∷ ts) (v ∷ vs) m long h y base = go (bytes_eq y x) refl (set_value names ts vs m (shorter (length names) (length ts) long) h.1 y base)
    where
      shorter : (a b : ℕ) → suc a ≡ suc b → a ≡ b
      shorter a b q = cc

      go : (b : Bool) → bytes_eq y x ≡ b → changed names ts y ≡ value_in (put_all names vs m) y → changed (x ∷ names) (t ∷ ts) y ≡ value_in (put_all (x ∷ names) (v ∷ vs) m) y
      go true e ih = (λ i. if (e i) then value_of looks [] t else changed names ts y) ∙ (h.0 ∙ ap given (sym (λ i. if (e i) then v else put_all names vs m y)))
      go false e ih = (λ i. if (e i) then value_of looks [] t else changed names ts y) ∙ (ih ∙ ap given (sym (λ i. if (e i) then v else put_all names vs m y)))

  -- other forms stay
  pub set_past : (g : Form) → ((x y : Name) → is_slot g x (slot.Var y) ≡ false) → (names : List Name) (ts : List Term) (y : Name) → changed_looks (set_to names ts ++ rest) looks g y ≡ changed_looks rest looks g y
  set_past g past [] ts y = refl
  set_past g past (x ∷ names) [] y = refl
  set_past g past (x ∷ names) (t ∷ ts) y = (λ i. if (past y x i) then value_of looks [] t else changed_looks (set_to names ts ++ rest) looks g y) ∙ set_past g past names ts y

  pub set_closed : (names : List Name) (ts : List Term) → Each (λ t. is_closed t ≡ true) ts → are_closed rest ≡ true → are_closed (set_to names ts ++ rest) ≡ true
  set_closed [] ts e h = h
  set_closed (x ∷ names) [] e h = h
  set_closed (x ∷ names) (t ∷ ts) e h = (ap (λ b. b && are_closed (set_to names ts ++ rest)) e.0) ∙ set_closed names ts e.1 h

-- what was put for names that differ is what they have
pub read_put : (names : List Name) (vs : List (Option Value)) (m : Map) → length names ≡ length vs → is_twice names ≡ false → read_all names (put_all names vs m) ≡ vs
read_put [] [] m long once = refl
read_put [] (v ∷ vs) m long once = absurd (cc)
read_put (x ∷ names) [] m long once = absurd (cc)
read_put (x ∷ names) (v ∷ vs) m long once =
    (λ i. here i ∷ read_same names (put x v (put_all names vs m)) (put_all names vs m) (λ y j. other y j (bytes_eq y x) refl) i)
    ∙ ap (λ l. v ∷ l) (read_put names vs m (shorter (length names) (length vs) long) (rest_differ x names once))
  where
    shorter : (a b : ℕ) → suc a ≡ suc b → a ≡ b
    shorter a b q = cc

    here : put x v (put_all names vs m) x ≡ v
    here = ap (λ b. if b then v else put_all names vs m x) (bytes_same x x refl)

    other : (y : Name) → is_in y names ≡ true → (b : Bool) → bytes_eq y x ≡ b → put x v (put_all names vs m) y ≡ put_all names vs m y
    other y j true e = absurd (true≢false (sym j ∙ (ap (λ z. is_in z names) (same_bytes y x e) ∙ first_differs x names once)))
    other y j false e = ap (λ b. if b then v else put_all names vs m y) e

-- what is read from a map and put again
pub put_read : (xs : List Name) (a m : Map) (x : Name) → is_in x xs ≡ true → put_all xs (read_all xs a) m x ≡ a x
put_read [] a m x i = absurd (true≢false (sym i))
put_read (y ∷ ys) a m x i = at (bytes_eq x y) refl i (put_read ys a m x)
  where
    at : (b : Bool) → bytes_eq x y ≡ b → (b || is_in x ys) ≡ true → (is_in x ys ≡ true → put_all ys (read_all ys a) m x ≡ a x) → put y (a y) (put_all ys (read_all ys a) m) x ≡ a x
    at true e k ih = ap (λ b. if b then a y else put_all ys (read_all ys a) m x) e ∙ ap a (sym (same_bytes x y e))
    at false e k ih = ap (λ b. if b then a y else put_all ys (read_all ys a) m x) e ∙ ih k
