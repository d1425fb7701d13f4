-- Which lists are texts.
use Rattle.std.proofs.Common.{◌≡◌, ℕ, suc, ◌<◌, true, List, [], ◌∷◌, IsTrue, arith, refl, ap, ◌∙◌}
use Rattle.std.proofs.lemmas.Bool.{and_from, and_parts}
use Rattle.std.specs.Prelude.{◌&&◌}
use Rattle.std.specs.List.{list_all}
use Rattle.std.specs.Str.{IsAscii}
use Rattle.std.proofs.lemmas.Bool.Decides.{nat_tests}
use Rattle.rw_terms.specs.Names.{is_name, is_letter, goes_on}
use Rattle.rw_terms.specs.Texts.{is_ascii, is_ascii_byte}

-- bytes that are all ASCII pass the test
pub ascii_passes : (bs : List ℕ) → IsAscii bs → IsTrue (is_ascii bs)
ascii_passes [] h = refl
ascii_passes (b ∷ bs) h =
    let first : IsTrue (is_ascii_byte b) = (let low : b < 128 = h 0 in grind (arith, nat_tests)) in
    let rest = ascii_passes bs (λ i. h (suc i)) in
    ap (λ p. p && is_ascii bs) first ∙ rest

letter_is_ascii : (b : ℕ) → is_letter b ≡ true → is_ascii_byte b ≡ true
letter_is_ascii b h = grind (arith, nat_tests, h)

-- a letter, a digit or `_` is ASCII
goes_on_is_ascii : (b : ℕ) → goes_on b ≡ true → is_ascii_byte b ≡ true
goes_on_is_ascii b h = grind (arith, nat_tests, h)

-- so is all that goes on
all_ascii : (bs : List ℕ) → list_all goes_on bs ≡ true → is_ascii bs ≡ true
all_ascii [] h = refl
all_ascii (b ∷ bs) h = and_from _ _ (goes_on_is_ascii b (and_parts _ _ h).0) (all_ascii bs (and_parts _ _ h).1)

-- and a name
pub name_is_ascii : (bs : List ℕ) → IsTrue (is_name bs) → IsTrue (is_ascii bs)
unfolding is_name
name_is_ascii [] h = refl
name_is_ascii (b ∷ bs) h =
    let word = (and_parts _ _ (and_parts _ _ (and_parts _ _ h).0).0).0 in
    and_from _ _ (letter_is_ascii b (and_parts _ _ word).0) (all_ascii bs (and_parts _ _ word).1)
