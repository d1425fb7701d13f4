-- Summands negated one after the other, each in its place.
use Rattle.std.proofs.Common.{◌≡◌, ℕ, ◌+◌, ◌<◌, Bool, true, false, ◌&&◌, List, [], ◌∷◌, ◌++◌, map, take, drop, set, length, get_or, suc, refl, sym, ◌∙◌, ap, arith, add-one, drop-cons, Some}
use Rattle.std.specs.List.{list_all, slice_get}
use Rattle.std.proofs.lemmas.Grind.{common_steps}
use Rattle.std.proofs.lemmas.Option.{get_or_from_slice_get}
use Rattle.std.proofs.lemmas.List.Edits.{map_over_more}
use Rattle.rw_arith.specs.declared.poly.Summand.{Summand}
use Rattle.rw_arith.specs.Polynomials.{is_negatable, negated_summand}

-- the next one is as it was
the_next : (xs ys : List Summand) (i : ℕ) (x : Summand) → i < length xs → ys ≡ map negated_summand (take i xs) ++ drop i xs → slice_get ys i ≡ Some x → get_or xs i x ≡ x
the_next xs ys i x l d g = let e = get_or_from_slice_get ys i x x g in grind (arith, common_steps)

pub negated_more : (xs ys : List Summand) (i : ℕ) (x y : Summand) → i < length xs → ys ≡ map negated_summand (take i xs) ++ drop i xs → slice_get ys i ≡ Some x →
    y ≡ negated_summand x → set ys i y ≡ map negated_summand (take (i + 1) xs) ++ drop (i + 1) xs
negated_more xs ys i x y l d g e = ap (set ys i) e ∙ map_over_more negated_summand xs ys i x l d (sym (get_or_from_slice_get ys i x x g))

one_more : (xs : List Summand) (i : ℕ) (x : Summand) → i < length xs → get_or xs i x ≡ x → list_all is_negatable (drop i xs) ≡ (is_negatable x && list_all is_negatable (drop (i + 1) xs))
one_more xs i x l e = ap (list_all is_negatable) (drop-cons xs i x l) ∙ (λ j. is_negatable (e j) && list_all is_negatable (drop (sym (add-one i) j) xs))

pub rest_more : (xs ys : List Summand) (i : ℕ) (x : Summand) → i < length xs → ys ≡ map negated_summand (take i xs) ++ drop i xs → slice_get ys i ≡ Some x →
    is_negatable x ≡ true → list_all is_negatable (drop i xs) ≡ list_all is_negatable xs → list_all is_negatable (drop (i + 1) xs) ≡ list_all is_negatable xs
rest_more xs ys i x l d g e h = sym (one_more xs i x l (the_next xs ys i x l d g) ∙ ap (λ b. b && list_all is_negatable (drop (i + 1) xs)) e) ∙ h

pub not_all : (xs ys : List Summand) (i : ℕ) (x : Summand) → i < length xs → ys ≡ map negated_summand (take i xs) ++ drop i xs → slice_get ys i ≡ Some x →
    is_negatable x ≡ false → list_all is_negatable (drop i xs) ≡ list_all is_negatable xs → list_all is_negatable xs ≡ false
not_all xs ys i x l d g e h = sym h ∙ one_more xs i x l (the_next xs ys i x l d g) ∙ ap (λ b. b && list_all is_negatable (drop (i + 1) xs)) e
