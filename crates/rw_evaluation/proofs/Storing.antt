-- What a store gives after a change.
use mathlib.Core.Path.{fun_ext}
use Rattle.std.proofs.Common.{◌≡◌, refl, sym, ap, ◌∙◌, ℕ, suc, ◌+◌, Bool, true, false, true≢false, ◌||◌, cond, List, [], ◌∷◌, ◌++◌, Option, Some, None, arith}
use Rattle.std.specs.Prelude.{bytes_eq, slice_set, option_map, if◌then◌else◌}
use Rattle.rw_terms.specs.State.{Value, State as Map}
use Rattle.rw_programs.specs.State.{Name, put, empty, is_in, only}
use Rattle.rw_meaning.proofs.Tests.{same_bytes}
use Rattle.rw_evaluation.specs.declared.value.Value.{Value as RunValue}
use Rattle.rw_evaluation.specs.declared.store.Binding.{Binding}
use Rattle.rw_evaluation.specs.Stored.{meant, map_of, further, place_of}

-- the later one of two values counts
put_twice : (x : Name) (v w : Option Value) (m : Map) → put x v m ≡ put x v (put x w m)
put_twice x v w m = fun_ext (λ y. go y (bytes_eq y x))
  where
    go : (y : Name) (b : Bool) → (if b then v else m y) ≡ (if b then v else (if b then w else m y))
    go y true = refl
    go y false = refl

-- values of two names can be given in either order
put_swaps : (x y : Name) (v w : Option Value) (m : Map) → bytes_eq x y ≡ false → put x v (put y w m) ≡ put y w (put x v m)
put_swaps x y v w m n = fun_ext (λ z. go z (bytes_eq z x) refl (bytes_eq z y) refl)
  where
    go : (z : Name) (a : Bool) → bytes_eq z x ≡ a → (b : Bool) → bytes_eq z y ≡ b → (if a then v else (if b then w else m z)) ≡ (if b then w else (if a then v else m z))
    go z true i true j = absurd (true≢false (sym (ap (λ q. bytes_eq q y) (sym (same_bytes z x i)) ∙ j) ∙ n))
    go z true i false j = refl
    go z false i true j = refl
    go z false i false j = refl

abbrev pub bound : Name → Option RunValue → Binding
bound x v = record { name = x; value = v }

-- what is further on is somewhere
pub further_is : (o : Option ℕ) (at : ℕ) → further 1 o ≡ Some at → (j : ℕ) × (o ≡ Some j) × (at ≡ suc j)
further_is None at e = absurd (cc)
further_is (Some j) at e = let i : 1 + j ≡ at = cc in (j, refl, omega (arith, i))

-- the binding that is found gets another value
pub set_found : (x : Name) (v : Option RunValue) (bs : List Binding) (at : ℕ) → place_of x bs ≡ Some at → map_of (slice_set bs at (bound x v)) ≡ put x (option_map meant v) (map_of bs)
set_found x v [] at e = absurd (cc)
set_found x v (b ∷ bs) at e = go (bytes_eq x b.name) refl e (set_found x v bs)
  where
    go : (c : Bool) → bytes_eq x b.name ≡ c → cond c (Some 0) (further 1 (place_of x bs)) ≡ Some at
        → ((j : ℕ) → place_of x bs ≡ Some j → map_of (slice_set bs j (bound x v)) ≡ put x (option_map meant v) (map_of bs)) → map_of (slice_set (b ∷ bs) at (bound x v)) ≡ put x (option_map meant v) (map_of (b ∷ bs))
    go true i h ih =
        let z : at ≡ 0 = cc in
        ap (λ at. map_of (slice_set (b ∷ bs) at (bound x v))) z
        ∙ (put_twice x (option_map meant v) (option_map meant b.value) (map_of bs)
        ∙ ap (λ y. put x (option_map meant v) (put y (option_map meant b.value) (map_of bs))) (same_bytes x b.name i))
    go false i h ih =
        let f = further_is (place_of x bs) at h in
        ap (λ at. map_of (slice_set (b ∷ bs) at (bound x v))) f.2
        ∙ (ap (put b.name (option_map meant b.value)) (ih f.0 f.1)
        ∙ sym (put_swaps x b.name (option_map meant v) (option_map meant b.value) (map_of bs) i))

pub further_none : (o : Option ℕ) → further 1 o ≡ None → o ≡ None
further_none None e = refl
further_none (Some j) e = absurd (cc)

-- a name without a binding gets one
pub set_new : (x : Name) (v : Option RunValue) (bs : List Binding) → place_of x bs ≡ None → map_of (bs ++ bound x v ∷ []) ≡ put x (option_map meant v) (map_of bs)
set_new x v [] e = refl
set_new x v (b ∷ bs) e = go (bytes_eq x b.name) refl e (set_new x v bs)
  where
    go : (c : Bool) → bytes_eq x b.name ≡ c → cond c (Some 0) (further 1 (place_of x bs)) ≡ None
        → (place_of x bs ≡ None → map_of (bs ++ bound x v ∷ []) ≡ put x (option_map meant v) (map_of bs)) → map_of ((b ∷ bs) ++ bound x v ∷ []) ≡ put x (option_map meant v) (map_of (b ∷ bs))
    go true i h ih = absurd (cc)
    go false i h ih =
        ap (put b.name (option_map meant b.value)) (ih (further_none (place_of x bs) h))
        ∙ sym (put_swaps x b.name (option_map meant v) (option_map meant b.value) (map_of bs) i)

-- one name more is kept
pub only_more : (x : Name) (xs : List Name) (m : Map) → put x (m x) (only xs m) ≡ only (x ∷ xs) m
only_more x xs m = fun_ext (λ y. go y (bytes_eq y x) refl)
  where
    go : (y : Name) (b : Bool) → bytes_eq y x ≡ b → (if b then m x else (if is_in y xs then m y else None)) ≡ (if b || is_in y xs then m y else None)
    go y true i = ap m (sym (same_bytes y x i))
    go y false i = refl

-- nothing is kept of no names
pub only_none : (m : Map) → empty ≡ only [] m
only_none m = fun_ext (λ y. refl)
