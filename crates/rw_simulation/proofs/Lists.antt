-- Names of lists that are joined or filtered.
use Rattle.std.proofs.Common.{◌≡◌, refl, sym, ap, ◌∙◌, Bool, true, false, ◌||◌, List, [], ◌∷◌, ◌++◌, true≢false}
use Rattle.std.specs.Prelude.{bytes_eq, not}
use Rattle.rw_terms.specs.State.{State as Map}
use Rattle.rw_faults.specs.Initial.{is_listed}
use Rattle.rw_programs.specs.State.{Name, is_in, read_all}
use Rattle.rw_derived.specs.Derived.{without}
use Rattle.rw_meaning.proofs.Tests.{same_bytes, bytes_same}
use Rattle.rw_simulation.proofs.Chosen.{listed_in}

pub either : (C : Type 0) (a b : Bool) → (a ≡ true → C) → (b ≡ true → C) → (a || b) ≡ true → C
either C true b f g e = f refl
either C false b f g e = g e

pub in_joined : (xs ys : List Name) (x : Name) → is_in x (xs ++ ys) ≡ (is_in x xs || is_in x ys)
in_joined [] ys x = refl
in_joined (z ∷ xs) ys x = go (bytes_eq x z) (in_joined xs ys x)
  where
    go : (b : Bool) → is_in x (xs ++ ys) ≡ (is_in x xs || is_in x ys) → (b || is_in x (xs ++ ys)) ≡ ((b || is_in x xs) || is_in x ys)
    go true e = refl
    go false e = e

pub in_left : (xs ys : List Name) (x : Name) → is_in x xs ≡ true → is_in x (xs ++ ys) ≡ true
in_left xs ys x i = in_joined xs ys x ∙ ap (λ b. b || is_in x ys) i

pub in_right : (xs ys : List Name) (x : Name) → is_in x ys ≡ true → is_in x (xs ++ ys) ≡ true
in_right xs ys x i = in_joined xs ys x ∙ (ap (λ b. is_in x xs || b) i ∙ or_true (is_in x xs))
  where
    or_true : (b : Bool) → (b || true) ≡ true
    or_true true = refl
    or_true false = refl

pub in_none : (xs ys : List Name) (x : Name) → is_in x xs ≡ false → is_in x ys ≡ false → is_in x (xs ++ ys) ≡ false
in_none xs ys x i j = in_joined xs ys x ∙ (ap (λ b. b || is_in x ys) i ∙ j)

-- what is in one of two lists
pub of_joined : (C : Type 0) (xs ys : List Name) (x : Name) → (is_in x xs ≡ true → C) → (is_in x ys ≡ true → C) → is_in x (xs ++ ys) ≡ true → C
of_joined C xs ys x f g i = either C (is_in x xs) (is_in x ys) f g (sym (in_joined xs ys x) ∙ i)

-- a name is in what is left where it is in the list and is not taken out
pub in_without : (names frame : List Name) (x : Name) → is_in x frame ≡ true → is_in x names ≡ false → is_in x (without names frame) ≡ true
in_without names [] x i off = absurd (true≢false (sym i))
in_without names (y ∷ frame) x i off = go (not (is_listed names y)) refl (bytes_eq x y) refl i (λ j. in_without names frame x j off)
  where
    go : (b : Bool) → not (is_listed names y) ≡ b → (c : Bool) → bytes_eq x y ≡ c → (c || is_in x frame) ≡ true → (is_in x frame ≡ true → is_in x (without names frame) ≡ true) → is_in x (without names (y ∷ frame)) ≡ true
    go true t true e k ih = rw t (rw e refl)
    go true t false e k ih = rw t (rw e (ih k))
    go false t true e k ih = absurd (true≢false (sym (ap not (listed_in names y ∙ ap (λ z. is_in z names) (sym (same_bytes x y e))) ∙ ap not off) ∙ t))
    go false t false e k ih = rw t (ih k)

-- and not where it is not in the list, or is taken out
pub out_without : (names frame : List Name) (x : Name) → is_in x frame ≡ false → is_in x (without names frame) ≡ false
out_without names [] x off = refl
out_without names (y ∷ frame) x off = go (not (is_listed names y)) refl (bytes_eq x y) refl off (out_without names frame x)
  where
    go : (b : Bool) → not (is_listed names y) ≡ b → (c : Bool) → bytes_eq x y ≡ c → (c || is_in x frame) ≡ false → (is_in x frame ≡ false → is_in x (without names frame) ≡ false) → is_in x (without names (y ∷ frame)) ≡ false
    go b t true e k ih = absurd (true≢false k)
    go true t false e k ih = rw t (rw e (ih k))
    go false t false e k ih = rw t (ih k)

pub taken_out : (names frame : List Name) (x : Name) → is_in x names ≡ true → is_in x (without names frame) ≡ false
taken_out names [] x i = refl
taken_out names (y ∷ frame) x i = go (not (is_listed names y)) refl (bytes_eq x y) refl (taken_out names frame x i)
  where
    go : (b : Bool) → not (is_listed names y) ≡ b → (c : Bool) → bytes_eq x y ≡ c → is_in x (without names frame) ≡ false → is_in x (without names (y ∷ frame)) ≡ false
    go false t c e ih = rw t ih
    go true t false e ih = rw t (rw e ih)
    go true t true e ih = absurd (true≢false (sym t ∙ (ap not (listed_in names y) ∙ (ap (λ z. not (is_in z names)) (sym (same_bytes x y e)) ∙ ap not i))))

-- maps that give names the same
pub read_same : (xs : List Name) (m n : Map) → ((x : Name) → is_in x xs ≡ true → m x ≡ n x) → read_all xs m ≡ read_all xs n
read_same [] m n h = refl
read_same (x ∷ xs) m n h = λ i. h x (here x) i ∷ read_same xs m n (λ y j. h y (later y j)) i
  where
    later : (y : Name) → is_in y xs ≡ true → is_in y (x ∷ xs) ≡ true
    later y j = go (bytes_eq y x)
      where
        go : (b : Bool) → (b || is_in y xs) ≡ true
        go true = refl
        go false = j

    here : (y : Name) → is_in y (y ∷ xs) ≡ true
    here y = ap (λ b. b || is_in y xs) (bytes_same y y refl)
