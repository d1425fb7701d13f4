-- What the parts of opened modules are after a change.
use mathlib.Core.Path.{fun_ext}
use Rattle.std.proofs.Common.{◌≡◌, refl, sym, ap, ◌∙◌, ℕ, Bool, true, false, true≢false, cond, List, [], ◌∷◌, ◌++◌, Some, None}
use Rattle.std.specs.Prelude.{bytes_eq, slice_set, if◌then◌else◌}
use Rattle.rw_terms.specs.State.{State as Map}
use Rattle.rw_programs.specs.State.{Name}
use Rattle.rw_meaning.proofs.Tests.{same_bytes}
use Rattle.rw_evaluation.specs.declared.store.Binding.{Binding}
use Rattle.rw_frames.specs.declared.frame.Part.{Part}
use Rattle.rw_evaluation.specs.Stored.{map_of, further}
use Rattle.rw_frames.specs.Frames.{parts_of, place_of_part, put_part}
use Rattle.rw_evaluation.proofs.Storing.{further_is, further_none}

-- the later one of two values counts
put_twice : (x : Name) (v w : Map) (m : Name → Map) → put_part x v m ≡ put_part x v (put_part x w m)
put_twice x v w m = fun_ext (λ y. go y (bytes_eq y x))
  where
    go : (y : Name) (b : Bool) → (if b then v else m y) ≡ (if b then v else (if b then w else m y))
    go y true = refl
    go y false = refl

-- values of two names can be given in either order
put_swaps : (x y : Name) (v w : Map) (m : Name → Map) → bytes_eq x y ≡ false → put_part x v (put_part y w m) ≡ put_part y w (put_part x v m)
put_swaps x y v w m n = fun_ext (λ z. go z (bytes_eq z x) refl (bytes_eq z y) refl)
  where
    go : (z : Name) (a : Bool) → bytes_eq z x ≡ a → (b : Bool) → bytes_eq z y ≡ b → (if a then v else (if b then w else m z)) ≡ (if b then w else (if a then v else m z))
    go z true i true j = absurd (true≢false (sym (ap (λ q. bytes_eq q y) (sym (same_bytes z x i)) ∙ j) ∙ n))
    go z true i false j = refl
    go z false i true j = refl
    go z false i false j = refl

abbrev pub kept_as : Name → List Binding → Part
kept_as x v = record { name = x; store = v }

-- the part that is found gets another value
pub part_found : (x : Name) (v : List Binding) (bs : List Part) (at : ℕ) → place_of_part x bs ≡ Some at → parts_of (slice_set bs at (kept_as x v)) ≡ put_part x (map_of v) (parts_of bs)
part_found x v [] at e = absurd (cc)
part_found x v (b ∷ bs) at e = go (bytes_eq x b.name) refl e (part_found x v bs)
  where
    go : (c : Bool) → bytes_eq x b.name ≡ c → cond c (Some 0) (further 1 (place_of_part x bs)) ≡ Some at
        → ((j : ℕ) → place_of_part x bs ≡ Some j → parts_of (slice_set bs j (kept_as x v)) ≡ put_part x (map_of v) (parts_of bs)) → parts_of (slice_set (b ∷ bs) at (kept_as x v)) ≡ put_part x (map_of v) (parts_of (b ∷ bs))
    go true i h ih =
        let z : at ≡ 0 = cc in
        ap (λ at. parts_of (slice_set (b ∷ bs) at (kept_as x v))) z
        ∙ (put_twice x (map_of v) (map_of b.store) (parts_of bs)
        ∙ ap (λ y. put_part x (map_of v) (put_part y (map_of b.store) (parts_of bs))) (same_bytes x b.name i))
    go false i h ih =
        let f = further_is (place_of_part x bs) at h in
        ap (λ at. parts_of (slice_set (b ∷ bs) at (kept_as x v))) f.2
        ∙ (ap (put_part b.name (map_of b.store)) (ih f.0 f.1)
        ∙ sym (put_swaps x b.name (map_of v) (map_of b.store) (parts_of bs) i))

-- a module without a part gets one
pub part_new : (x : Name) (v : List Binding) (bs : List Part) → place_of_part x bs ≡ None → parts_of (bs ++ kept_as x v ∷ []) ≡ put_part x (map_of v) (parts_of bs)
part_new x v [] e = refl
part_new x v (b ∷ bs) e = go (bytes_eq x b.name) refl e (part_new x v bs)
  where
    go : (c : Bool) → bytes_eq x b.name ≡ c → cond c (Some 0) (further 1 (place_of_part x bs)) ≡ None
        → (place_of_part x bs ≡ None → parts_of (bs ++ kept_as x v ∷ []) ≡ put_part x (map_of v) (parts_of bs)) → parts_of ((b ∷ bs) ++ kept_as x v ∷ []) ≡ put_part x (map_of v) (parts_of (b ∷ bs))
    go true i h ih = absurd (cc)
    go false i h ih =
        ap (put_part b.name (map_of b.store)) (ih (further_none (place_of_part x bs) h))
        ∙ sym (put_swaps x b.name (map_of v) (map_of b.store) (parts_of bs) i)
