-- The rows of an atom, one step of a loop at a time, and the rows of all atoms.
use Rattle.std.proofs.Common.{◌≡◌, ℕ, zero, suc, ◌+◌, ◌-◌, ◌≤◌, ◌<◌, ◌||◌, Bool, true, false, List, [], ◌++◌, drop, length, get_or, Option, sym, ap, ◌∙◌, subst, arith, add-one}
use Rattle.std.specs.Option.{option_to_list}
use Rattle.std.proofs.lemmas.List.{at_drop_more, append-nil, append_assoc}
use Rattle.rw_terms.specs.declared.term.Term.{Term}
use Rattle.rw_elimination.specs.declared.hypotheses.Hypothesis.{Hypothesis}
use Rattle.rw_elimination.specs.declared.row.Row.{Row}
use Rattle.rw_elimination.specs.Rows.{given_rows, all_given}
use Rattle.rw_elimination.specs.Elimination.{pair, pairs_with, pairs_from, with_pairs, after_atoms, some_ends, until}
use Rattle.rw_elimination.proofs.Stops.{all_there, ends_split, until_stops, until_goes}

pub with_step : (atoms : List Term) (at k : ℕ) (first : Row) (rows : List Row) (i : ℕ) (x : Row) (row : Option Row) → i < length rows → get_or rows i x ≡ x → row ≡ pair atoms at k first (i + 1) x →
    pairs_with atoms at k first (i + 1) (drop i rows) ≡ option_to_list row ++ pairs_with atoms at k first (i + 1 + 1) (drop (i + 1) rows)
with_step atoms at k first rows i x row l is e =
    at_drop_more (pairs_with atoms at k first (i + 1)) rows i x l
    ∙ ap (λ o. option_to_list o ++ pairs_with atoms at k first (i + 1 + 1) (drop (i + 1) rows)) (ap (pair atoms at k first (i + 1)) is ∙ sym e)

pub from_step : (atoms : List Term) (at : ℕ) (all rows : List Row) (i : ℕ) (x : Row) → i < length rows → get_or rows i x ≡ x →
    pairs_from atoms at all (i + 1) (drop i rows) ≡ pairs_with atoms at (i + 1) x 1 all ++ pairs_from atoms at all (i + 1 + 1) (drop (i + 1) rows)
from_step atoms at all rows i x l is =
    at_drop_more (pairs_from atoms at all (i + 1)) rows i x l ∙ ap (λ y. pairs_with atoms at (i + 1) y 1 all ++ pairs_from atoms at all (i + 1 + 1) (drop (i + 1) rows)) is

pub given_step : (atoms : List Term) (hs : List Hypothesis) (i : ℕ) (h : Hypothesis) → i < length hs → get_or hs i h ≡ h →
    all_given atoms (drop i hs) ≡ given_rows atoms h ++ all_given atoms (drop (i + 1) hs)
given_step atoms hs i h l is = at_drop_more (all_given atoms) hs i h l ∙ ap (λ y. given_rows atoms y ++ all_given atoms (drop (i + 1) hs)) is

-- the rows after more atoms have those after fewer in front
record Longer (rows all : List Row) : Type 0 where
  more : List Row
  is : all ≡ rows ++ more

further : (atoms : List Term) (given : List Row) (n d : ℕ) → Longer (after_atoms atoms n given) (after_atoms atoms (d + n) given)
further atoms given n zero = record { more = []; is = ap (λ m. after_atoms atoms m given) (none_on n) ∙ sym (append-nil (after_atoms atoms n given)) }
  where
    none_on : (n : ℕ) → 0 + n ≡ n
    none_on n = omega arith
further atoms given n (suc d) =
    let before = further atoms given n d in
    let rows = after_atoms atoms (d + n) given in
    record {
      more = before.more ++ pairs_from atoms (d + n) rows 1 rows;
      is = ap (λ m. after_atoms atoms m given) (one_on n d) ∙ ap (λ zs. zs ++ pairs_from atoms (d + n) rows 1 rows) before.is ∙ append_assoc (after_atoms atoms n given) before.more (pairs_from atoms (d + n) rows 1 rows);
    }
  where
    one_on : (n d : ℕ) → suc d + n ≡ suc (d + n)
    one_on n d = omega arith

longer_at : (atoms : List Term) (given : List Row) (n m : ℕ) → n ≤ m → Longer (after_atoms atoms n given) (after_atoms atoms m given)
longer_at atoms given n m l = subst (λ k. Longer (after_atoms atoms n given) (after_atoms atoms k given)) (together n m l) (further atoms given n (m - n))
  where
    together : (n m : ℕ) → n ≤ m → (m - n) + n ≡ m
    together n m l = omega arith

or_true : (a b : Bool) → a ≡ true → (a || b) ≡ true
or_true a b e = ap (λ c. c || b) e

-- where one of these rows ends it, so it does with all atoms
pub ended_early : (atoms : List Term) (given : List Row) (n m : ℕ) → n ≤ m → some_ends 0 (after_atoms atoms n given) ≡ true →
    (until 0 (after_atoms atoms m given) ≡ until 0 (after_atoms atoms n given)) × (some_ends 0 (after_atoms atoms m given) ≡ true)
ended_early atoms given n m l k =
    let more = longer_at atoms given n m l in
    (ap (until 0) more.is ∙ until_stops (after_atoms atoms n given) more.more 0 k, ap (some_ends 0) more.is ∙ ends_split (after_atoms atoms n given) more.more 0 ∙ or_true _ _ k)

module _ (atoms : List Term) (given rows next : List Row) (at : ℕ) (is : rows ≡ after_atoms atoms at given) (goes : some_ends 0 rows ≡ false)
    (called : next ≡ rows ++ until (length rows) (pairs_from atoms at rows 1 rows)) where
  abbrev made : List Row
  made = pairs_from atoms at rows 1 rows

  with_is : after_atoms atoms (at + 1) given ≡ rows ++ made
  with_is = ap (λ n. after_atoms atoms n given) (add-one at) ∙ ap (with_pairs atoms at) (sym is)

  front : 0 + length rows ≡ length rows
  front = omega arith

  ends_is : some_ends 0 (rows ++ made) ≡ some_ends (length rows) made
  ends_is = ends_split rows made 0 ∙ ap (λ b. b || some_ends (0 + length rows) made) goes ∙ ap (λ n. some_ends n made) front

  -- no row of this atom ends it
  pub on : some_ends (length rows) made ≡ false → (next ≡ after_atoms atoms (at + 1) given) × (some_ends 0 next ≡ false)
  on k = let whole = called ∙ ap (λ zs. rows ++ zs) (all_there (length rows) made k) in (whole ∙ sym with_is, ap (some_ends 0) whole ∙ ends_is ∙ k)

  -- one of them does
  pub at_end : (m : ℕ) → at + 1 ≤ m → some_ends (length rows) made ≡ true → (next ≡ until 0 (after_atoms atoms m given)) × (true ≡ some_ends 0 (after_atoms atoms m given))
  at_end m l k =
      let early = ended_early atoms given (at + 1) m l (ap (some_ends 0) with_is ∙ ends_is ∙ k) in
      (called ∙ ap (λ n. rows ++ until n made) (sym front) ∙ sym (until_goes rows made 0 goes) ∙ ap (until 0) (sym with_is) ∙ sym early.0, sym early.1)

module _ (atoms : List Term) (given rows next : List Row) (none : rows ≡ []) (called : next ≡ rows ++ until (length rows) given) where
  ends_from_none : some_ends 0 given ≡ some_ends (length rows) given
  ends_from_none = ap (λ (r : List Row). some_ends (length r) given) (sym none)

  is_all : next ≡ until 0 given
  is_all = called ∙ ap (λ (r : List Row). r ++ until (length r) given) none

  -- no hypothesis ends it
  pub given_on : some_ends (length rows) given ≡ false → (next ≡ given) × (some_ends 0 next ≡ false)
  given_on k = let whole = is_all ∙ all_there 0 given (ends_from_none ∙ k) in (whole, ap (some_ends 0) whole ∙ ends_from_none ∙ k)

  -- one of them does
  pub given_end : some_ends (length rows) given ≡ true → (next ≡ until 0 (after_atoms atoms (length atoms) given)) × (true ≡ some_ends 0 (after_atoms atoms (length atoms) given))
  given_end k = let early = ended_early atoms given 0 (length atoms) (from_none (length atoms)) (ends_from_none ∙ k) in (is_all ∙ sym early.0, sym early.1)
    where
      from_none : (n : ℕ) → 0 ≤ n
      from_none n = omega arith

-- after all atoms
pub all_done : (atoms : List Term) (given rows : List Row) (at : ℕ) → at ≡ length atoms → rows ≡ after_atoms atoms at given → some_ends 0 rows ≡ false → rows ≡ until 0 (after_atoms atoms (length atoms) given)
all_done atoms given rows at e is goes = sym (ap (until 0) (ap (λ n. after_atoms atoms n given) (sym e) ∙ sym is) ∙ all_there 0 rows goes)
