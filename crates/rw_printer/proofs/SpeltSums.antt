-- Arithmetic lines as they are printed.
use Rattle.std.proofs.Common.{◌≡◌, ℕ, suc, Bool, true, false, cond, List, [], ◌∷◌, ◌++◌, Some, None, refl, sym, ap, ◌∙◌, subst, arith, append_assoc, map, pos, negsuc, ℤ, inl, inr}
use Rattle.std.specs.Prelude.{leb, nat_eq, ◌&&◌, codes, decimal, option_map, option_and_then}
use Rattle.std.specs.Fmt.{signed_decimal}
use Rattle.std.specs.List.{list_all}
use Rattle.std.proofs.lemmas.Bool.Decides.{nat_tests}
use Rattle.std.proofs.lemmas.Bool.{and_parts}
use Rattle.rw_terms.specs.Names.{is_letter, is_digit, goes_on}
use Rattle.rw_terms.specs.AllOf.{all_of}
use Rattle.rw_arith.specs.declared.line.Ref.{Ref}
use Rattle.rw_arith.specs.declared.line.Ref.TheVariants as refs
use Rattle.rw_arith.specs.declared.line.Part.{Part as SumPart}
use Rattle.rw_arith.specs.declared.line.LinLine.{LinLine}
use Rattle.rw_arith.specs.declared.line.LinLine.TheVariants as sums
use Rattle.rw_tokens.specs.Tokens.{Token, text, number, skip, token_at, front_token, doubles, singles, number_of, text_of, with_next}
use Rattle.rw_forms.specs.Forms.{a_reference, counted, digits_number, a_part, a_sum, Given, Form, takes, either, more_of, many, IsOf}
use Rattle.rw_forms.specs.Phrases.{mark}
use Rattle.rw_forms.specs.Certificates.{any_number, signed, times, sum_part, part_form, part_in, sum_of, sum_or_quotient, lin_line, closed_line, lin_form, lin_in, closed_lines, lin}
use Rattle.rw_printer.specs.Layout.{listed}
use Rattle.rw_printer.specs.Lines.{reference_text, part_text, closed_text}
use Rattle.rw_printer.specs.Readable.{some_and_all, is_counted, is_literal, is_multiplier, readable_reference, readable_part, readable_sum}
use Rattle.rw_printer.proofs.Leading.{skip_none, skip_space}
use Rattle.rw_printer.proofs.Numerals.{decimal_digits, number_is}
use Rattle.rw_printer.proofs.Lexed.{Starts, starts_with, skip_start, byte_starts, number_starts, grouped_3}
use Rattle.rw_printer.proofs.Fronts.{ends, stops, ends_stops, small, minus_sign, open_bracket, shut_bracket, word_front, number_token}
use Rattle.rw_printer.proofs.Spelling.{Spelt, spelt_from, spelt_as, slot_spelt, chain, mapped, marked, closed, worded, within, item, Item, more_spelt, AllGood, Laid, rest_spelt, list_spelt, unwrapped, behind_space}
use Rattle.rw_printer.proofs.SpeltParts.{any_spelt, counted_known, counted_starts}

-- references

digits_go_on : (ds : List ℕ) → list_all is_digit ds ≡ true → list_all goes_on ds ≡ true
digits_go_on [] h = refl
digits_go_on (c ∷ cs) h =
    let q = and_parts (is_digit c) (list_all is_digit cs) h in
    ap (λ x. x && list_all goes_on cs) (on c q.0) ∙ digits_go_on cs q.1
  where
    on : (c : ℕ) → is_digit c ≡ true → goes_on c ≡ true
    on c h = grind (arith, nat_tests, h)

letter_token : (b n : ℕ) (r : List ℕ) → is_letter b ≡ true → is_counted n ≡ true → stops r ≡ true → token_at ((b ∷ decimal n) ++ r) ≡ Some (text (b ∷ decimal n), skip r)
letter_token b n r l h e = let s = decimal_digits n (small n (counted_known n h)) in word_front b (decimal n) r l (digits_go_on (decimal n) s.digits) e

number_of_digits : (ds : List ℕ) (first n : ℕ) (rest : List ℕ) → ds ≡ first ∷ rest → list_all is_digit ds ≡ true → number_of ds ≡ Some n → is_counted n ≡ true → digits_number ds ≡ Some n
number_of_digits [] first n rest i d e h = absurd (cc)
number_of_digits (c ∷ cs) first n rest i d e h =
    ap (λ b. cond b (option_and_then counted (number_of (c ∷ cs))) None) d ∙ ap (option_and_then counted) e ∙ ap (λ b. cond b (Some n) None) h

digits_are : (n : ℕ) → is_counted n ≡ true → digits_number (decimal n) ≡ Some n
digits_are n h =
    let k = counted_known n h in
    let s = decimal_digits n (small n k) in
    number_of_digits (decimal n) s.first n s.rest s.is s.digits (number_is n k (small n k)) h

reference_spelt : (f : Ref) (r : List ℕ) → readable_reference f ≡ true → stops r ≡ true → Spelt (takes a_reference) f (reference_text f ++ r) (skip r)
reference_spelt (refs.Left n) r h e = slot_spelt a_reference (refs.Left n) ((76 ∷ decimal n) ++ r) (skip r) (text (76 ∷ decimal n)) (letter_token 76 n r refl h e) (ap (option_map refs.Left) (digits_are n h))
reference_spelt (refs.Right n) r h e = slot_spelt a_reference (refs.Right n) ((82 ∷ decimal n) ++ r) (skip r) (text (82 ∷ decimal n)) (letter_token 82 n r refl h e) (ap (option_map refs.Right) (digits_are n h))
reference_spelt (refs.Line n) r h e = slot_spelt a_reference (refs.Line n) (decimal n ++ r) (skip r) (number n) (number_token n r (counted_known n h) e) (ap (λ b. option_map refs.Line (cond b (Some n) None)) h)

reference_starts : (f : Ref) → readable_reference f ≡ true → Starts (reference_text f)
reference_starts (refs.Left n) h = byte_starts 76 (decimal n) refl
reference_starts (refs.Right n) h = byte_starts 82 (decimal n) refl
reference_starts (refs.Line n) h = counted_starts n h

-- symbols

star_token : (y : List ℕ) → Starts y → token_at (42 ∷ y) ≡ Some (text (codes "*"), y)
unfolding token_at front_token doubles singles
star_token y s = ap (λ z. Some (text (codes "*"), z)) (skip_start y s)

slash_token : (y : List ℕ) → Starts y → token_at (47 ∷ y) ≡ Some (text (codes "/"), y)
unfolding token_at front_token doubles singles
slash_token y s = ap (λ z. Some (text (codes "/"), z)) (skip_start y s)

minus_front : (c : ℕ) (x : List ℕ) → nat_eq c 62 ≡ false → token_at (45 ∷ c ∷ x) ≡ Some (text (codes "-"), skip (c ∷ x))
unfolding token_at front_token singles
minus_front c x e = ap (λ z. option_map (with_next (45 ∷ c ∷ x)) (cond z (text_of 2 (45 ∷ c ∷ x)) (text_of 1 (45 ∷ c ∷ x)))) (minus_sign c e)

minus_token : (y : List ℕ) → Starts y → token_at (45 ∷ y) ≡ Some (text (codes "-"), y)
minus_token y s =
    let n : nat_eq s.first 62 ≡ false = (let h = s.ok in grind (arith, nat_tests, h)) in
    subst (λ x. token_at (45 ∷ x) ≡ Some (text (codes "-"), skip x)) (sym s.is) (minus_front s.first s.rest n) ∙ ap (λ z. Some (text (codes "-"), z)) (skip_start y s)

open_front : (c : ℕ) (x : List ℕ) → nat_eq c 93 ≡ false → token_at (91 ∷ c ∷ x) ≡ Some (text (codes "["), skip (c ∷ x))
unfolding token_at front_token singles
open_front c x e = ap (λ z. option_map (with_next (91 ∷ c ∷ x)) (cond z (text_of 2 (91 ∷ c ∷ x)) (text_of 1 (91 ∷ c ∷ x)))) (open_bracket c e)

pub open_square : (y : List ℕ) → Starts y → token_at (91 ∷ y) ≡ Some (text (codes "["), y)
open_square y s =
    let n : nat_eq s.first 93 ≡ false = (let h = s.ok in grind (arith, nat_tests, h)) in
    subst (λ x. token_at (91 ∷ x) ≡ Some (text (codes "["), skip x)) (sym s.is) (open_front s.first s.rest n) ∙ ap (λ z. Some (text (codes "["), z)) (skip_start y s)

close_square : (r : List ℕ) → ends r ≡ true → token_at (93 ∷ r) ≡ Some (text (codes "]"), skip r)
unfolding token_at front_token doubles singles
close_square [] e = refl
close_square (c ∷ x) e =
    let h : nat_eq c 124 ≡ false = grind (arith, nat_tests, e) in
    ap (λ z. option_map (with_next (93 ∷ c ∷ x)) (cond z (text_of 2 (93 ∷ c ∷ x)) (text_of 1 (93 ∷ c ∷ x)))) (shut_bracket c h)

-- parts

times_spelt : (minus : Bool) (n : ℕ) (f : Ref) (r : List ℕ) → readable_reference f ≡ true → stops r ≡ true → Spelt (times minus n) (record { times = signed minus n; of = f }) (skip (42 ∷ (reference_text f ++ r))) (skip r)
unfolding times
times_spelt minus n f r h e =
    spelt_from (skip_none 42 (reference_text f ++ r) refl)
    (marked (codes "*") (λ k. takes a_reference (λ g. k (record { times = signed minus n; of = g }))) (record { times = signed minus n; of = f }) (star_token (reference_text f ++ r) (starts_with (reference_text f) r (reference_starts f h)))
    (mapped (takes a_reference) (λ g. record { times = signed minus n; of = g }) f (reference_spelt f r h e)))

part_spelt : (z : ℤ) (f : Ref) (r : List ℕ) → is_multiplier z ≡ true → readable_reference f ≡ true → stops r ≡ true → Spelt sum_part (record { times = z; of = f }) (signed_decimal z ++ (42 ∷ (reference_text f ++ r))) (skip r)
unfolding sum_part
part_spelt (pos n) f r m h e =
    within (λ k. any_number (λ x. times false x k)) sum_part (record { times = pos n; of = f }) (λ k q ts v i. inr i)
    (chain any_number (λ x k. times false x k) n (record { times = pos n; of = f }) (any_spelt n (42 ∷ (reference_text f ++ r)) m refl) (times_spelt false n f r h e))
part_spelt (negsuc n) f r m h e =
    worded (λ k. any_number (λ x. times true x k)) sum_part (λ p. p) (codes "-") (record { times = negsuc n; of = f }) (minus_token (decimal (suc n) ++ (42 ∷ (reference_text f ++ r))) (starts_with (decimal (suc n)) (42 ∷ (reference_text f ++ r)) (number_starts (suc n) m))) (λ k q rest v i. inl (rest, refl, i))
    (chain any_number (λ x k. times true x k) (suc n) (record { times = negsuc n; of = f }) (any_spelt (suc n) (42 ∷ (reference_text f ++ r)) m refl) (times_spelt true (suc n) f r h e))

multiplier_starts : (z : ℤ) → is_multiplier z ≡ true → Starts (signed_decimal z)
multiplier_starts (pos n) m = number_starts n m
multiplier_starts (negsuc n) m = byte_starts 45 (decimal (suc n)) refl

abbrev GoodPart : SumPart → Type 0
GoodPart p = readable_part p ≡ true

part_starts : (p : SumPart) → GoodPart p → Starts (part_text p)
unfolding part_text
part_starts p g = starts_with _ _ (starts_with _ _ (multiplier_starts p.times (and_parts (is_multiplier p.times) (readable_reference p.of) g).0))

part_item : (p : SumPart) → GoodPart p → (r : List ℕ) → ends r ≡ true → Item part_form (a_part p) (part_text p ++ r) (skip r)
unfolding part_form part_text
part_item p g r e =
    let q = and_parts (is_multiplier p.times) (readable_reference p.of) g in
    item sum_part a_part p (spelt_from (grouped_3 (signed_decimal p.times) (codes "*") (reference_text p.of) r) (part_spelt p.times p.of r q.0 q.1 (ends_stops r e)))

plus_front : (y : List ℕ) → Starts y → token_at (skip (32 ∷ 43 ∷ 32 ∷ y)) ≡ Some (text (codes "+"), y)
unfolding token_at front_token doubles singles skip
plus_front y s = behind_space (codes "+") (43 ∷ 32 ∷ y) y s refl

parts_laid : Laid {A = SumPart} part_form (codes "+") (codes " + ") a_part part_text GoodPart
parts_laid = record { front = plus_front; apart = λ y. refl; start = part_starts; one = part_item }

-- the parts behind the first
more_parts : (p : SumPart) (ps : List SumPart) → AllGood GoodPart ps → (r : List ℕ) → ends r ≡ true → Spelt (λ k. more_of part_form (codes "+") (a_part p ∷ []) (λ gs. k (sums.Sum (map part_in gs)))) (sums.Sum (p ∷ ps)) (skip (listed (codes " + ") (codes " + ") (map part_text ps) ++ r)) (skip r)
more_parts p ps g r e =
    spelt_as (ap sums.Sum (unwrapped a_part part_in (p ∷ ps) (λ x. refl)))
    (mapped (more_of part_form (codes "+") (a_part p ∷ [])) (λ gs. sums.Sum (map part_in gs)) (a_part p ∷ map a_part ps) (more_spelt part_form (codes "+") (a_part p ∷ []) (map a_part ps) (rest_spelt part_form (codes "+") (codes " + ") a_part part_text GoodPart parts_laid ps g r e)))

parts_end : (ps : List SumPart) (r : List ℕ) → ends r ≡ true → ends (listed (codes " + ") (codes " + ") (map part_text ps) ++ r) ≡ true
parts_end [] r e = e
parts_end (p ∷ ps) r e = refl

sum_of_spelt : (minus : Bool) (n : ℕ) (f : Ref) (ps : List SumPart) (r : List ℕ) → readable_reference f ≡ true → AllGood GoodPart ps → ends r ≡ true →
    Spelt (sum_of minus n) (sums.Sum (record { times = signed minus n; of = f } ∷ ps)) (skip (42 ∷ (reference_text f ++ (listed (codes " + ") (codes " + ") (map part_text ps) ++ r)))) (skip r)
unfolding sum_of
sum_of_spelt minus n f ps r h g e =
    let p : SumPart = record { times = signed minus n; of = f } in
    let z = listed (codes " + ") (codes " + ") (map part_text ps) ++ r in
    chain (times minus n) (λ q k. more_of part_form (codes "+") (a_part q ∷ []) (λ gs. k (sums.Sum (map part_in gs)))) p (sums.Sum (p ∷ ps))
    (times_spelt minus n f z h (ends_stops z (parts_end ps r e))) (more_parts p ps g r e)

sum_in : (n : ℕ) (k : LinLine → Form) (m : ℕ) (ts : List Token) (v : Given) → (b : Bool) → leb n 4294967295 ≡ b → IsOf (sum_of false n k) m ts v → IsOf (sum_or_quotient n k) m ts v
unfolding sum_or_quotient
sum_in n k m ts v true z i = subst (λ b. IsOf (cond b (either (codes "/") (any_number (λ d. k (sums.Divide n (pos d)))) (sum_of false n k)) (sum_of false n k)) m ts v) (sym z) (inr i)
sum_in n k m ts v false z i = subst (λ b. IsOf (cond b (either (codes "/") (any_number (λ d. k (sums.Divide n (pos d)))) (sum_of false n k)) (sum_of false n k)) m ts v) (sym z) i

quotient_in : (n : ℕ) (k : LinLine → Form) (m : ℕ) (ts : List Token) (v : Given) → leb n 4294967295 ≡ true → IsOf (either (codes "/") (any_number (λ d. k (sums.Divide n (pos d)))) (sum_of false n k)) m ts v → IsOf (sum_or_quotient n k) m ts v
unfolding sum_or_quotient
quotient_in n k m ts v z i = subst (λ b. IsOf (cond b (either (codes "/") (any_number (λ d. k (sums.Divide n (pos d)))) (sum_of false n k)) (sum_of false n k)) m ts v) (sym z) i

-- a sum by its first multiplier
sum_spelt : (z : ℤ) (f : Ref) (ps : List SumPart) (r : List ℕ) → is_multiplier z ≡ true → readable_reference f ≡ true → AllGood GoodPart ps → ends r ≡ true →
    Spelt lin_line (sums.Sum (record { times = z; of = f } ∷ ps)) (signed_decimal z ++ (42 ∷ (reference_text f ++ (listed (codes " + ") (codes " + ") (map part_text ps) ++ r)))) (skip r)
unfolding lin_line
sum_spelt (pos n) f ps r m h g e =
    let y = 42 ∷ (reference_text f ++ (listed (codes " + ") (codes " + ") (map part_text ps) ++ r)) in
    let l = sums.Sum (record { times = pos n; of = f } ∷ ps) in
    within (λ k. any_number (λ x. sum_or_quotient x k)) lin_line l (λ k q ts v i. inr i)
    (chain any_number (λ x k. sum_or_quotient x k) n l (any_spelt n y m refl) (within (sum_of false n) (sum_or_quotient n) l (λ k q ts v i. sum_in n k q ts v (leb n 4294967295) refl i) (sum_of_spelt false n f ps r h g e)))
sum_spelt (negsuc n) f ps r m h g e =
    let y = 42 ∷ (reference_text f ++ (listed (codes " + ") (codes " + ") (map part_text ps) ++ r)) in
    let l = sums.Sum (record { times = negsuc n; of = f } ∷ ps) in
    worded (λ k. any_number (λ x. sum_of true x k)) lin_line (λ x. x) (codes "-") l (minus_token (decimal (suc n) ++ y) (starts_with (decimal (suc n)) y (number_starts (suc n) m))) (λ k q rest v i. inl (rest, refl, i))
    (chain any_number (λ x k. sum_of true x k) (suc n) l (any_spelt (suc n) y m refl) (sum_of_spelt true (suc n) f ps r h g e))

quotient_spelt : (n : ℕ) (d : ℤ) (r : List ℕ) → is_counted n ≡ true → is_literal d ≡ true → ends r ≡ true → Spelt lin_line (sums.Divide n d) (decimal n ++ (47 ∷ (signed_decimal d ++ r))) (skip r)
unfolding lin_line
quotient_spelt n (negsuc d) r h m e = absurd (cc (m))
quotient_spelt n (pos d) r h m e =
    let y = 47 ∷ (decimal d ++ r) in
    within (λ k. any_number (λ x. sum_or_quotient x k)) lin_line (sums.Divide n (pos d)) (λ k q ts v i. inr i)
    (chain any_number (λ x k. sum_or_quotient x k) n (sums.Divide n (pos d)) (any_spelt n y (counted_known n h) refl)
    (spelt_from (skip_none 47 (decimal d ++ r) refl)
    (worded any_number (sum_or_quotient n) (λ x. sums.Divide n (pos x)) (codes "/") d (slash_token (decimal d ++ r) (starts_with (decimal d) r (number_starts d m))) (λ k q rest v i. quotient_in n k q (text (codes "/") ∷ rest) v h (inl (rest, refl, i)))
    (any_spelt d r m (ends_stops r e)))))

-- lines in brackets

abbrev GoodSum : LinLine → Type 0
GoodSum l = readable_sum l ≡ true

all_parts : (ps : List SumPart) → all_of (map readable_part ps) ≡ true → AllGood GoodPart ps
all_parts [] h = tt
all_parts (p ∷ ps) h = let q = and_parts (readable_part p) (all_of (map readable_part ps)) h in (q.0, all_parts ps q.1)

bracket : (l : LinLine) (w r : List ℕ) → ends r ≡ true → Spelt lin_line l (w ++ (93 ∷ r)) (skip (93 ∷ r)) → Spelt closed_line l (w ++ (93 ∷ r)) (skip r)
unfolding closed_line
bracket l w r e s = chain lin_line (λ x k. mark (codes "]") (k x)) l l s (spelt_from (skip_none 93 r refl) (closed (codes "]") l (close_square r e)))

grouped_sum : (a b c l r : List ℕ) → ((a ++ b ++ c) ++ l ++ codes "]") ++ r ≡ a ++ (b ++ (c ++ (l ++ (93 ∷ r))))
grouped_sum a b c l r = simp append_assoc

grouped_quotient : (a b c r : List ℕ) → ((a ++ b ++ c) ++ codes "]") ++ r ≡ a ++ (b ++ (c ++ (93 ∷ r)))
grouped_quotient a b c r = simp append_assoc

pub closed_spelt : (l : LinLine) → GoodSum l → (r : List ℕ) → ends r ≡ true → Spelt closed_line l (closed_text l ++ r) (skip r)
unfolding part_text
closed_spelt (sums.Sum []) g r e = absurd (cc (g))
closed_spelt (sums.Sum (p ∷ ps)) g r e =
    let q = and_parts (readable_part p) (all_of (map readable_part ps)) g in
    let h = and_parts (is_multiplier p.times) (readable_reference p.of) q.0 in
    let l = listed (codes " + ") (codes " + ") (map part_text ps) in
    let w = signed_decimal p.times ++ (42 ∷ (reference_text p.of ++ l)) in
    let shown : signed_decimal p.times ++ (42 ∷ (reference_text p.of ++ (l ++ (93 ∷ r)))) ≡ w ++ (93 ∷ r) = sym (grouped_w (signed_decimal p.times) (reference_text p.of) l (93 ∷ r)) in
    spelt_from (grouped_sum (signed_decimal p.times) (codes "*") (reference_text p.of) l r ∙ shown)
    (bracket (sums.Sum (p ∷ ps)) w r e (spelt_from (sym shown) (sum_spelt p.times p.of ps (93 ∷ r) h.0 h.1 (all_parts ps q.1) refl)))
  where
    grouped_w : (a c l z : List ℕ) → (a ++ (42 ∷ (c ++ l))) ++ z ≡ a ++ (42 ∷ (c ++ (l ++ z)))
    grouped_w a c l z = simp append_assoc
closed_spelt (sums.Divide n d) g r e =
    let q = and_parts (is_counted n) (is_literal d) g in
    let w = decimal n ++ (47 ∷ signed_decimal d) in
    let shown : decimal n ++ (47 ∷ (signed_decimal d ++ (93 ∷ r))) ≡ w ++ (93 ∷ r) = sym (append_assoc (decimal n) (47 ∷ signed_decimal d) (93 ∷ r)) in
    spelt_from (grouped_quotient (decimal n) (codes "/") (signed_decimal d) r ∙ shown)
    (bracket (sums.Divide n d) w r e (spelt_from (sym shown) (quotient_spelt n d (93 ∷ r) q.0 q.1 refl)))

closed_starts : (l : LinLine) → GoodSum l → Starts (closed_text l)
closed_starts (sums.Sum []) g = absurd (cc (g))
closed_starts (sums.Sum (p ∷ ps)) g = starts_with _ _ (starts_with _ _ (part_starts p (and_parts (readable_part p) (all_of (map readable_part ps)) g).0))
closed_starts (sums.Divide n d) g = starts_with _ _ (starts_with _ _ (starts_with _ _ (counted_starts n (and_parts (is_counted n) (is_literal d) g).0)))

closed_item : (l : LinLine) → GoodSum l → (r : List ℕ) → ends r ≡ true → Item lin_form (a_sum l) (closed_text l ++ r) (skip r)
unfolding lin_form
closed_item l g r e = item closed_line a_sum l (closed_spelt l g r e)

square_front : (y : List ℕ) → Starts y → token_at (skip (32 ∷ 91 ∷ y)) ≡ Some (text (codes "["), y)
square_front y s = ap token_at (skip_space (91 ∷ y) ∙ skip_none 91 y refl) ∙ open_square y s

lines_laid : Laid {A = LinLine} lin_form (codes "[") (codes " [") a_sum closed_text GoodSum
lines_laid = record { front = square_front; apart = λ y. refl; start = closed_starts; one = closed_item }

all_sums : (ls : List LinLine) → all_of (map readable_sum ls) ≡ true → AllGood GoodSum ls
all_sums [] h = tt
all_sums (l ∷ ls) h = let q = and_parts (readable_sum l) (all_of (map readable_sum ls)) h in (q.0, all_sums ls q.1)

pub lin_spelt : (l : LinLine) (ls : List LinLine) (r : List ℕ) → some_and_all (map readable_sum (l ∷ ls)) ≡ true → ends r ≡ true → Spelt lin (l ∷ ls) (skip (32 ∷ 91 ∷ (closed_text l ++ (listed (codes " [") (codes " [") (map closed_text ls) ++ r)))) (skip r)
unfolding lin closed_lines
lin_spelt l ls r g e =
    let q = and_parts (readable_sum l) (all_of (map readable_sum ls)) g in
    let z = listed (codes " [") (codes " [") (map closed_text ls) ++ r in
    marked (codes "[") (λ k. many lin_form (codes "[") (λ gs. k (map lin_in gs))) (l ∷ ls) (square_front (closed_text l ++ z) (starts_with (closed_text l) z (closed_starts l q.0)))
    (spelt_as (unwrapped a_sum lin_in (l ∷ ls) (λ x. refl)) (mapped (many lin_form (codes "[")) (map lin_in) (map a_sum (l ∷ ls)) (list_spelt lin_form (codes "[") (codes " [") a_sum closed_text GoodSum lines_laid l ls q.0 (all_sums ls q.1) r e)))
