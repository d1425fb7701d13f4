-- The values of the fields of a name, and decimal numbers up to the limit.
use Rattle.std.proofs.Common.{subst, Some, None, inl, inr, ltb, ◌≡◌, ℕ, ◌+◌, ◌*◌, ◌-◌, ◌<◌, min, Bool, true, false, cond, List, [], ◌∷◌, ◌++◌, length, take, map, get_or, refl, ap, sym, ◌∙◌, ◌↔◌, arith, IsTrue}
use Rattle.std.proofs.lemmas.Bool.{cases_Bool, and_right, and_from, lt-ltb}
use Rattle.std.proofs.lemmas.List.{map_more, append-nil}
use Rattle.std.proofs.lemmas.Slice.Eq.{bytes_eq-Decides}
use Rattle.std.proofs.lemmas.Bool.{false_from_ne_true, both_ways}
use Rattle.std.specs.Char.{is_ascii_digit, digit_value}
use Rattle.std.specs.Cmp.Lexicographic.{pointwise}
use Rattle.std.specs.Prelude.{nat_eq, codes}
use Rattle.std.specs.Str.Parse.{digits_value}
use Rattle.std.specs.List.{list_all}
use Rattle.httparse.specs.declared.spans.HeaderSpan.{HeaderSpan}
use Rattle.httparse.specs.declared.spans.Span.{Span}
use Rattle.httparse.specs.Spans.{IsWithin, header_bytes, span_bytes}
use Rattle.rw_http.specs.declared.fields.Named.{Named}
use Rattle.rw_http.specs.declared.fields.Named.TheVariants.{Never, Once, Often}
use Rattle.rw_http.specs.NamedValues.{HoldsValues, with_value}
use Rattle.rw_http.specs.Fields.{NameAndValue, is_named, values_of, length_said, length_unless, up_to_limit, decimal_number, body_length}

-- the values of two lists of fields, one behind the other
pub values_of-append : (name : List ℕ) (one other : List NameAndValue) → values_of name (one ++ other) ≡ values_of name one ++ values_of name other
values_of-append name [] other = refl
values_of-append name (f ∷ fields) other =
    elim (is_named name f) as (λ b. cond b (f.1 ∷ values_of name (fields ++ other)) (values_of name (fields ++ other)) ≡ cond b (f.1 ∷ values_of name fields) (values_of name fields) ++ values_of name other) [
      | true ↦ ap (λ vs. f.1 ∷ vs) (values_of-append name fields other)
      | false ↦ values_of-append name fields other
    ]

-- one more field that has the name
pub values_of_one : (name : List ℕ) (f : NameAndValue) → is_named name f ≡ true → values_of name (f ∷ []) ≡ f.1 ∷ []
values_of_one name f h = ap (λ b. cond b (f.1 ∷ []) []) h

-- and one that has not
pub values_of_none : (name : List ℕ) (f : NameAndValue) → is_named name f ≡ false → values_of name (f ∷ []) ≡ []
values_of_none name f h = ap (λ b. cond b (f.1 ∷ []) []) h

-- the last byte of a number up to the limit
pub up_to_step : (a v d : ℕ) → v ≡ min a 65537 → min (v * 10 + d) 65537 ≡ min (a * 10 + d) 65537
up_to_step a v d h = omega arith

-- what a digit stands for
pub digit_stands : (c : ℕ) → is_ascii_digit c ≡ true → digit_value c ≡ c - 48
digit_stands c h = grind arith

-- what a comparison without regard to case tests
pub named_test : (r : Bool) (a b low : List ℕ) → (IsTrue r ↔ (a ≡ b)) → b ≡ low → r ≡ pointwise nat_eq a low
named_test r a b low iff e =
    elim (cases_Bool r) [
      | inl t ↦ t ∙ sym ((bytes_eq-Decides a low).1 (iff.0 t ∙ e))
      | inr f ↦ f ∙ sym (false_from_ne_true (pointwise nat_eq a low) (λ t. both_ways r f (iff.1 ((bytes_eq-Decides a low).0 t ∙ sym e))))
    ]

-- one more field
pub values_more : (front name : List ℕ) (headers : List HeaderSpan) (i : ℕ) (d : HeaderSpan) → i < length headers
    → values_of name (map (header_bytes front) (take (i + 1) headers)) ≡ values_of name (map (header_bytes front) (take i headers)) ++ values_of name (header_bytes front (get_or headers i d) ∷ [])
values_more front name headers i d h =
    ap (values_of name) (map_more (header_bytes front) headers i d h)
    ∙ values_of-append name (map (header_bytes front) (take i headers)) (header_bytes front (get_or headers i d) ∷ [])

-- one more value behind those that were found
holds_with : (front : List ℕ) (found : Named) (value : Span) (values : List (List ℕ)) → HoldsValues front found values → IsWithin (length front) value
    → HoldsValues front (with_value found value) (values ++ span_bytes front value ∷ [])
holds_with front Never value values holds within = record { within = within; values_are = ap (λ vs. vs ++ span_bytes front value ∷ []) holds }
holds_with front (Once s) value values holds within =
    (span_bytes front s, span_bytes front value, [], ap (λ vs. vs ++ span_bytes front value ∷ []) holds.values_are)
holds_with front Often value values holds within =
    (holds.0, holds.1, holds.2 ++ span_bytes front value ∷ [], ap (λ vs. vs ++ span_bytes front value ∷ []) holds.3)

-- a field that has the name
pub step_named : (front name : List ℕ) (headers : List HeaderSpan) (i : ℕ) (d : HeaderSpan) (found : Named) → i < length headers
    → HoldsValues front found (values_of name (map (header_bytes front) (take i headers))) → is_named name (header_bytes front (get_or headers i d)) ≡ true
    → IsWithin (length front) (get_or headers i d).value
    → HoldsValues front (with_value found (get_or headers i d).value) (values_of name (map (header_bytes front) (take (i + 1) headers)))
step_named front name headers i d found h holds named within =
    let before = values_of name (map (header_bytes front) (take i headers)) in
    let same = values_more front name headers i d h ∙ ap (λ vs. before ++ vs) (values_of_one name _ named) in
    subst (HoldsValues front (with_value found (get_or headers i d).value)) (sym same) (holds_with front found _ before holds within)

-- a field that has it not
pub step_none : (front name : List ℕ) (headers : List HeaderSpan) (i : ℕ) (d : HeaderSpan) (found : Named) → i < length headers
    → HoldsValues front found (values_of name (map (header_bytes front) (take i headers))) → is_named name (header_bytes front (get_or headers i d)) ≡ false
    → HoldsValues front found (values_of name (map (header_bytes front) (take (i + 1) headers)))
step_none front name headers i d found h holds named =
    let same = values_more front name headers i d h ∙ ap (λ vs. values_of name (map (header_bytes front) (take i headers)) ++ vs) (values_of_none name _ named) ∙ append-nil _ in
    subst (HoldsValues front found) (sym same) holds

-- no text without a byte, and none with a byte that is no digit, is a decimal number
pub no_decimal_empty : (text : List ℕ) → text ≡ [] → up_to_limit (decimal_number text) ≡ None
unfolding decimal_number
no_decimal_empty text h = ap (λ t. up_to_limit (decimal_number t)) h

pub no_decimal : (text : List ℕ) → list_all is_ascii_digit text ≡ false → up_to_limit (decimal_number text) ≡ None
unfolding decimal_number
no_decimal text h =
    ap (λ b. up_to_limit (cond b (Some (digits_value 10 text)) None)) (and_right (ltb 0 (length text)) (list_all is_ascii_digit text) h)

-- digits alone are one
pub is_decimal_number : (text : List ℕ) (n : ℕ) → 0 < length text → list_all is_ascii_digit text ≡ true → n ≡ min (digits_value 10 text) 65537
    → up_to_limit (decimal_number text) ≡ Some n
unfolding decimal_number
is_decimal_number text n some digits e =
    ap (λ b. up_to_limit (cond b (Some (digits_value 10 text)) None)) (and_from (ltb 0 (length text)) (list_all is_ascii_digit text) (lt-ltb 0 (length text) some) digits)
    ∙ ap Some (sym e)

-- the length that found values give
pub length_of_coding : (front : List ℕ) (found : Named) (fields : List NameAndValue) → HoldsValues front found (values_of (codes "transfer-encoding") fields) → (found ≡ Never → ⊥)
    → body_length fields ≡ None
unfolding body_length
length_of_coding front found fields holds some = at found (values_of (codes "transfer-encoding") fields) holds some
  where
    at : (found : Named) (values : List (List ℕ)) → HoldsValues front found values → (found ≡ Never → ⊥) → length_unless values (values_of (codes "content-length") fields) ≡ None
    at Never values holds some = absurd (some refl)
    at (Once s) values holds some = ap (λ vs. length_unless vs (values_of (codes "content-length") fields)) holds.values_are
    at Often values holds some = ap (λ vs. length_unless vs (values_of (codes "content-length") fields)) holds.3

pub length_of_values : (fields : List NameAndValue) → values_of (codes "transfer-encoding") fields ≡ []
    → body_length fields ≡ length_said (values_of (codes "content-length") fields)
unfolding body_length
length_of_values fields none = ap (λ vs. length_unless vs (values_of (codes "content-length") fields)) none
