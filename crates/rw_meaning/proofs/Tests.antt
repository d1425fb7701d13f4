-- Tests that hold, and options that are there.
use Rattle.std.proofs.Common.{◌≡◌, refl, sym, ◌∙◌, ℕ, Bool, true, false, List, find, Option, Some, None, true≢false}
use Rattle.std.specs.Prelude.{bytes_eq, option_and_then, not, is_some, if◌then◌else◌}
use Rattle.std.proofs.lemmas.Slice.Eq.{bytes_eq-Decides}
use Rattle.rw_terms.specs.declared.scope.Entry.{Entry}
use Rattle.rw_terms.specs.Scopes.{has_name, is_fresh}

pub same_bytes : (x y : List ℕ) → bytes_eq x y ≡ true → x ≡ y
same_bytes x y e = (bytes_eq-Decides x y).0 e

pub bytes_same : (x y : List ℕ) → x ≡ y → bytes_eq x y ≡ true
bytes_same x y e = (bytes_eq-Decides x y).1 e

pub other_bytes : (x y : List ℕ) → bytes_eq x y ≡ false → bytes_eq y x ≡ false
other_bytes x y e = go (bytes_eq y x) refl
  where
    go : (b : Bool) → bytes_eq y x ≡ b → bytes_eq y x ≡ false
    go true h = absurd (true≢false (sym (bytes_same x y (sym (same_bytes y x h))) ∙ e))
    go false h = h

-- what follows something that is there
pub and_then_is : {A B : Type 0} (f : A → Option B) (o : Option A) (b : B) → option_and_then f o ≡ Some b → (a : A) × (o ≡ Some a) × (f a ≡ Some b)
and_then_is f None b e = absurd (cc)
and_then_is f (Some a) b e = (a, refl, e)

pub if_is : {A : Type 0} (b : Bool) (a c : A) → (if b then Some a else None) ≡ Some c → (b ≡ true) × (a ≡ c)
if_is true a c e = (refl, cc)
if_is false a c e = absurd (cc)

pub if_not : {A : Type 0} (b : Bool) (a c : A) → (if b then None else Some a) ≡ Some c → (b ≡ false) × (a ≡ c)
if_not true a c e = absurd (cc)
if_not false a c e = (refl, cc)

pub fresh_is : (x : List ℕ) (scope : List Entry) → is_fresh x scope ≡ true → find (has_name x) scope ≡ None
fresh_is x scope e = go (find (has_name x) scope) refl e
  where
    go : (o : Option Entry) → find (has_name x) scope ≡ o → not (is_some o) ≡ true → find (has_name x) scope ≡ None
    go None h e = h
    go (Some a) h e = absurd (true≢false (sym e))
