-- One byte more, and the lines.
use Rattle.std.proofs.Common.{◌≡◌, ◌≢◌, ◌<◌, ◌≤◌, ℕ, List, [], ◌∷◌, ◌++◌, length, length-append, refl, sym, ◌∙◌, ap, inl, inr, arith, append_assoc}
use Rattle.std.proofs.lemmas.List.{append-nil}
use Rattle.std.proofs.lemmas.Bool.{cases_eq}
use Rattle.std.proofs.lemmas.Bool.Decides.{nat_tests}
use Rattle.rw_project.specs.Lines.{whole_from, rest_from, whole_lines, last_part, if_any, lines_of, with_feeds}

whole_at_lf : (line : List ℕ) (c : ℕ) (cs : List ℕ) → c ≡ 10 → whole_from line (c ∷ cs) ≡ line ∷ whole_from [] cs
whole_at_lf line c cs e = grind (arith, nat_tests)

pub whole_at_other : (line : List ℕ) (c : ℕ) (cs : List ℕ) → c ≢ 10 → whole_from line (c ∷ cs) ≡ whole_from (line ++ c ∷ []) cs
whole_at_other line c cs ne = grind (arith, nat_tests)

rest_at_lf : (line : List ℕ) (c : ℕ) (cs : List ℕ) → c ≡ 10 → rest_from line (c ∷ cs) ≡ rest_from [] cs
rest_at_lf line c cs e = grind (arith, nat_tests)

pub rest_at_other : (line : List ℕ) (c : ℕ) (cs : List ℕ) → c ≢ 10 → rest_from line (c ∷ cs) ≡ rest_from (line ++ c ∷ []) cs
rest_at_other line c cs ne = grind (arith, nat_tests)

-- the text goes on
pub whole_from_append : (line xs ys : List ℕ) → whole_from line (xs ++ ys) ≡ whole_from line xs ++ whole_from (rest_from line xs) ys
whole_from_append line [] ys = refl
whole_from_append line (c ∷ xs) ys = elim (cases_eq c 10) [
  | inl e ↦
      whole_at_lf line c (xs ++ ys) e ∙ ap (λ (l : List (List ℕ)). line ∷ l) (whole_from_append [] xs ys)
      ∙ sym (ap (λ (l : List (List ℕ)). l ++ whole_from (rest_from line (c ∷ xs)) ys) (whole_at_lf line c xs e)
      ∙ ap (λ (r : List ℕ). line ∷ (whole_from [] xs ++ whole_from r ys)) (rest_at_lf line c xs e))
  | inr ne ↦
      whole_at_other line c (xs ++ ys) ne ∙ whole_from_append (line ++ c ∷ []) xs ys
      ∙ sym (ap (λ (l : List (List ℕ)). l ++ whole_from (rest_from line (c ∷ xs)) ys) (whole_at_other line c xs ne)
      ∙ ap (λ (r : List ℕ). whole_from (line ++ c ∷ []) xs ++ whole_from r ys) (rest_at_other line c xs ne))
]

pub rest_from_append : (line xs ys : List ℕ) → rest_from line (xs ++ ys) ≡ rest_from (rest_from line xs) ys
rest_from_append line [] ys = refl
rest_from_append line (c ∷ xs) ys = elim (cases_eq c 10) [
  | inl e ↦ rest_at_lf line c (xs ++ ys) e ∙ rest_from_append [] xs ys ∙ sym (ap (λ (r : List ℕ). rest_from r ys) (rest_at_lf line c xs e))
  | inr ne ↦ rest_at_other line c (xs ++ ys) ne ∙ rest_from_append (line ++ c ∷ []) xs ys ∙ sym (ap (λ (r : List ℕ). rest_from r ys) (rest_at_other line c xs ne))
]

pub whole_lf : (seen : List ℕ) (c : ℕ) → c ≡ 10 → whole_lines (seen ++ c ∷ []) ≡ whole_lines seen ++ last_part seen ∷ []
whole_lf seen c e = whole_from_append [] seen (c ∷ []) ∙ ap (λ (l : List (List ℕ)). whole_lines seen ++ l) (whole_at_lf (last_part seen) c [] e)

pub whole_other : (seen : List ℕ) (c : ℕ) → c ≢ 10 → whole_lines (seen ++ c ∷ []) ≡ whole_lines seen
whole_other seen c ne =
    whole_from_append [] seen (c ∷ []) ∙ ap (λ (l : List (List ℕ)). whole_lines seen ++ l) (whole_at_other (last_part seen) c [] ne) ∙ append-nil (whole_lines seen)

pub last_lf : (seen : List ℕ) (c : ℕ) → c ≡ 10 → last_part (seen ++ c ∷ []) ≡ []
last_lf seen c e = rest_from_append [] seen (c ∷ []) ∙ rest_at_lf (last_part seen) c [] e

pub last_other : (seen : List ℕ) (c : ℕ) → c ≢ 10 → last_part (seen ++ c ∷ []) ≡ last_part seen ++ c ∷ []
last_other seen c ne = rest_from_append [] seen (c ∷ []) ∙ rest_at_other (last_part seen) c [] ne

-- the whole lines of a text come first in what it goes on to
pub lines_go_on : (seen more : List ℕ) → lines_of (seen ++ more) ≡ whole_lines seen ++ (whole_from (last_part seen) more ++ if_any (last_part (seen ++ more)))
lines_go_on seen more =
    ap (λ (l : List (List ℕ)). l ++ if_any (last_part (seen ++ more))) (whole_from_append [] seen more)
    ∙ append_assoc (whole_lines seen) (whole_from (last_part seen) more) (if_any (last_part (seen ++ more)))

-- what begins with some bytes has a first line at least as long
pub first_line : (line cs : List ℕ) → 0 < length line → (l : List ℕ) × (ls : List (List ℕ)) × (whole_from line cs ++ if_any (rest_from line cs) ≡ l ∷ ls) × (length line ≤ length l)
first_line [] [] some = absurd (omega arith)
first_line (x ∷ xs) [] some = (x ∷ xs, [], refl, omega arith)
first_line line (c ∷ cs) some = elim (cases_eq c 10) [
  | inl e ↦ (
    line,
    whole_from [] cs ++ if_any (rest_from [] cs),
    ap (λ (l : List (List ℕ)). l ++ if_any (rest_from line (c ∷ cs))) (whole_at_lf line c cs e) ∙ ap (λ (r : List ℕ). (line ∷ whole_from [] cs) ++ if_any r) (rest_at_lf line c cs e),
    omega arith,
  )
  | inr ne ↦
      let more = first_line (line ++ c ∷ []) cs (omega (arith, length-append line (c ∷ []))) in (
        more.0,
        more.1,
        ap (λ (l : List (List ℕ)). l ++ if_any (rest_from line (c ∷ cs))) (whole_at_other line c cs ne) ∙ ap (λ (r : List ℕ). whole_from (line ++ c ∷ []) cs ++ if_any r) (rest_at_other line c cs ne) ∙ more.2,
        omega (arith, more.3, length-append line (c ∷ [])),
      )
]

-- one byte more belongs to some line
pub some_line : (line : List ℕ) (c : ℕ) (cs : List ℕ) → 1 ≤ length (whole_from line (c ∷ cs) ++ if_any (rest_from line (c ∷ cs)))
some_line line c cs = elim (cases_eq c 10) [
  | inl e ↦ omega (arith, ap (λ (l : List (List ℕ)). length (l ++ if_any (rest_from line (c ∷ cs)))) (whole_at_lf line c cs e))
  | inr ne ↦
      let first = first_line (line ++ c ∷ []) cs (omega (arith, length-append line (c ∷ []))) in
      omega (arith, ap length (ap (λ (l : List (List ℕ)). l ++ if_any (rest_from line (c ∷ cs))) (whole_at_other line c cs ne) ∙ ap (λ (r : List ℕ). whole_from (line ++ c ∷ []) cs ++ if_any r) (rest_at_other line c cs ne) ∙ first.2))
]

joined_from : (line bytes : List ℕ) → with_feeds (whole_from line bytes) ++ rest_from line bytes ≡ line ++ bytes
joined_from line [] = sym (append-nil line)
joined_from line (c ∷ cs) = elim (cases_eq c 10) [
  | inl e ↦
      ap (λ (ls : List (List ℕ)). with_feeds ls ++ rest_from line (c ∷ cs)) (whole_at_lf line c cs e)
      ∙ ap (λ (r : List ℕ). ((line ++ 10 ∷ []) ++ with_feeds (whole_from [] cs)) ++ r) (rest_at_lf line c cs e)
      ∙ append_assoc (line ++ 10 ∷ []) (with_feeds (whole_from [] cs)) (rest_from [] cs)
      ∙ ap (λ (l : List ℕ). (line ++ 10 ∷ []) ++ l) (joined_from [] cs)
      ∙ append_assoc line (10 ∷ []) cs ∙ ap (λ (x : ℕ). line ++ x ∷ cs) (sym e)
  | inr ne ↦
      ap (λ (ls : List (List ℕ)). with_feeds ls ++ rest_from line (c ∷ cs)) (whole_at_other line c cs ne)
      ∙ ap (λ (r : List ℕ). with_feeds (whole_from (line ++ c ∷ []) cs) ++ r) (rest_at_other line c cs ne)
      ∙ joined_from (line ++ c ∷ []) cs ∙ append_assoc line (c ∷ []) cs
]

pub joined : (bytes : List ℕ) → with_feeds (whole_lines bytes) ++ last_part bytes ≡ bytes
joined bytes = joined_from [] bytes
