-- Lines that are found have a text that reads back.
use Rattle.std.proofs.Common.{◌≡◌, ℕ, zero, suc, ◌+◌, ◌*◌, ◌<◌, ◌≤◌, leb, nat_lt, nat_eq, Bool, true, false, cond, ◌&&◌, ◌||◌, ℤ, pos, negsuc, neg_ℤ, ◌*ℤ◌, List, [], ◌∷◌, ◌++◌, map, length, Option, Some, None, refl, sym, ap, ◌∙◌, subst, true≢false, arith}
use Rattle.std.specs.List.{list_all, list_any}
use Rattle.std.specs.Option.{option_to_list}
use Rattle.std.proofs.lemmas.Bool.{and_parts, leb-true}
use Rattle.std.proofs.lemmas.Bool.Decides.{nat_tests}
use Rattle.rw_terms.specs.declared.term.Term.{Term}
use Rattle.rw_terms.specs.declared.term.Formula.{Formula}
use Rattle.rw_terms.specs.declared.sequent.Sequent.{Sequent}
use Rattle.rw_terms.specs.AllOf.{all_of}
use Rattle.rw_terms.specs.Validity.{Each}
use Rattle.rw_arith.specs.declared.line.Ref.{Ref}
use Rattle.rw_arith.specs.declared.line.Ref.TheVariants.{Left, Right, Line}
use Rattle.rw_arith.specs.declared.line.Part.{Part}
use Rattle.rw_arith.specs.declared.line.LinLine.{LinLine}
use Rattle.rw_arith.specs.declared.poly.Summand.{Summand}
use Rattle.rw_arith.specs.declared.poly.Expansion.{Expansion}
use Rattle.rw_arith.specs.declared.poly.Expansion.TheVariants as x
use Rattle.rw_arith.specs.Polynomials.{is_narrow, is_zero, negated}
use Rattle.rw_arith.specs.Given.{given_by_left, given_by_right}
use Rattle.rw_arith.specs.Lines.{is_positive, is_negative, lines_fault}
use Rattle.rw_elimination.specs.declared.hypotheses.Hypothesis.{Hypothesis}
use Rattle.rw_elimination.specs.declared.row.Parts.{Parts}
use Rattle.rw_elimination.specs.declared.row.Parts.TheVariants.{One, Two}
use Rattle.rw_elimination.specs.declared.row.Inequality.{Inequality}
use Rattle.rw_elimination.specs.declared.row.Row.{Row}
use Rattle.rw_elimination.specs.declared.row.Row.TheVariants.{Wide, Long, Fits}
use Rattle.rw_elimination.specs.declared.ending.Elimination.{Elimination}
use Rattle.rw_elimination.specs.declared.ending.Elimination.TheVariants as e
use Rattle.rw_elimination.specs.declared.writing.Written.{Written}
use Rattle.rw_elimination.specs.Hypotheses.{is_linear, is_equation, atoms_in, number_at, used_if, used_by, used_left, used_right, used}
use Rattle.rw_elimination.specs.Rows.{is_multiple_of, coefficient, lead, row_of, multiples_fit, fitting, given_row, given_rows, all_given, sum_fits, summed, signed_by, named, paired}
use Rattle.rw_elimination.specs.Elimination.{atoms_of, lead_by, pair_inequalities, pair, pairs_with, pairs_from, with_pairs, after_atoms, eliminated, ends, some_ends, until}
use Rattle.rw_elimination.specs.Writing.{is_none, is_sum, adds, parts_of, needed_by, needed, line_number, lined, lined_part, line_by, lines_by, lines_of}
use Rattle.rw_elimination.specs.Answer.{last, answer_by, answer, answer_by_rows, answer_of}
use Rattle.rw_finder.specs.declared.fraction.Fraction.{Fraction}
use Rattle.rw_finder.specs.declared.find.Found.TheVariants as f
use Rattle.rw_finder.specs.Point.{last_values}
use Rattle.rw_finder.specs.Finding.{point_by, found_by, found_of}
use Rattle.rw_finder_soundness.proofs.Found.{found_accepted}
use Rattle.rw_forms.specs.Certificates.{CertSpells}
use Rattle.rw_printer.specs.Readable.{some_and_all, is_counted, is_multiplier, readable_reference, readable_part, readable_sum}
use Rattle.rw_printer.specs.Lines.{cert_text}
use Rattle.rw_printer.proofs.SpeltLines.{cert_reads_back}
use Rattle.rw_found_texts.specs.Texts.{lin_cert}

both : (a b : Bool) → a ≡ true → b ≡ true → (a && b) ≡ true
both a b h k = (λ i. h i && k i)

each_append : {X : Type 0} (P : X → Type 0) (xs ys : List X) → Each P xs → Each P ys → Each P (xs ++ ys)
each_append P [] ys h k = k
each_append P (x ∷ xs) ys h k = (h.0, each_append P xs ys h.1 k)

-- the number of a formula can be written; that of a row is not written
abbrev is_numbered : Ref → Bool
is_numbered (Left n) = is_counted n
is_numbered (Right n) = is_counted n
is_numbered (Line n) = true

-- a formula of which the number can be written
abbrev is_given : Ref → Bool
is_given (Left n) = is_counted n
is_given (Right n) = is_counted n
is_given (Line n) = false

numbered_given : (r : Ref) → is_given r ≡ true → is_numbered r ≡ true
numbered_given (Left n) h = h
numbered_given (Right n) h = h
numbered_given (Line n) h = refl

abbrev IsGood : Part → Type 0
IsGood part = (is_multiplier part.times ≡ true) × (is_numbered part.of ≡ true)

abbrev PartsGood : Parts → Type 0
PartsGood (One part) = (is_multiplier part.times ≡ true) × (is_given part.of ≡ true)
PartsGood (Two first second) = IsGood first × IsGood second

-- a multiplier from 1 on, within 128 bits
narrow_good : (n : ℕ) → is_narrow (pos n) ≡ true → is_multiplier (pos n) ≡ true
narrow_good n h = grind (arith, nat_tests)

-- a number whose multiple by one from 1 on is within 128 bits
factor_good : (n m : ℕ) → is_narrow (pos (suc n) *ℤ pos (suc m)) ≡ true → is_multiplier (pos (suc n)) ≡ true
factor_good n m h = let l : suc n ≤ suc n * suc m = grind arith in below (suc n) (suc n * suc m) l h
  where
    below : (a b : ℕ) → a ≤ b → is_narrow (pos b) ≡ true → is_multiplier (pos a) ≡ true
    below a b l h = grind (arith, nat_tests)

opposite_good : (n : ℕ) → is_multiplier (pos n) ≡ true → is_multiplier (neg_ℤ (pos n)) ≡ true
opposite_good zero h = h
opposite_good (suc n) h = h

named_good : (m n : ℕ) (parts : Parts) → is_multiplier (pos m) ≡ true → PartsGood parts → IsGood (named (pos m) n parts)
named_good m n (One part) h g = (signed part.times, numbered_given part.of g.1)
  where
    signed : (t : ℤ) → is_multiplier (signed_by t (pos m)) ≡ true
    signed (pos k) = h
    signed (negsuc k) = opposite_good m h
named_good m n (Two first second) h g = (h, refl)

-- the multiple of a coefficient other than 0
fits_by : (d : ℤ) (a : Term) (p : List Summand) → multiples_fit d p ≡ true → is_positive (coefficient a p) ≡ true → is_narrow (coefficient a p *ℤ d) ≡ true
fits_by d a [] h k = absurd (true≢false (sym k))
fits_by d a (s ∷ p) h k = let parts = and_parts (is_narrow (s.times *ℤ d)) (multiples_fit d p) h in by_case (is_multiple_of a s.atoms) parts.0 (fits_by d a p parts.1) k
  where
    by_case : (b : Bool) → is_narrow (s.times *ℤ d) ≡ true → (is_positive (coefficient a p) ≡ true → is_narrow (coefficient a p *ℤ d) ≡ true) → is_positive (cond b s.times (coefficient a p)) ≡ true → is_narrow (cond b s.times (coefficient a p) *ℤ d) ≡ true
    by_case true one more k = one
    by_case false one more k = more k

lead_fits : (d : ℤ) (p : List Summand) (at n : ℕ) (atoms : List Term) → multiples_fit d p ≡ true → is_positive (lead_by at (lead n atoms p)) ≡ true → is_narrow (lead_by at (lead n atoms p) *ℤ d) ≡ true
lead_fits d p at n [] h k = absurd (true≢false (sym k))
lead_fits d p at n (a ∷ atoms) h k = by_case (is_zero (coefficient a p)) (lead_fits d p at (n + 1) atoms h) k
  where
    here : (b : Bool) → is_positive (cond b (coefficient a p) (pos 0)) ≡ true → is_narrow (cond b (coefficient a p) (pos 0) *ℤ d) ≡ true
    here true k = fits_by d a p h k
    here false k = absurd (true≢false (sym k))

    by_case : (b : Bool) → (is_positive (lead_by at (lead (n + 1) atoms p)) ≡ true → is_narrow (lead_by at (lead (n + 1) atoms p) *ℤ d) ≡ true) → is_positive (lead_by at (cond b (lead (n + 1) atoms p) (Some (record { atom = n; times = coefficient a p })))) ≡ true →
        is_narrow (lead_by at (cond b (lead (n + 1) atoms p) (Some (record { atom = n; times = coefficient a p }))) *ℤ d) ≡ true
    by_case true more k = more k
    by_case false more k = here (nat_eq n at) k

module _ (atoms : List Term) where
  -- a row with the lead of its atoms, whose parts can be written
  abbrev RowGood : Row → Type 0
  RowGood Wide = Unit {0}
  RowGood Long = Unit {0}
  RowGood (Fits i) = (i.lead ≡ lead 0 atoms i.summands) × PartsGood i.parts

  of_good : (parts : Parts) (y : Expansion) → PartsGood parts → RowGood (row_of atoms parts y)
  of_good parts (x.Polynomial p) h = (refl, h)
  of_good parts x.Unfit h = tt
  of_good parts x.Wide h = tt

  given_good : (hs : List Hypothesis) → Each (λ (h : Hypothesis). is_given h.of ≡ true) hs → Each RowGood (all_given atoms hs)
  given_good [] g = tt
  given_good (h ∷ hs) g =
      each_append RowGood (given_rows atoms h) (all_given atoms hs)
      (of_good (One (record { times = pos 1; of = h.of })) (fitting (x.Polynomial h.summands)) (refl, g.0), opposite h.is_equation) (given_good hs g.1)
    where
      opposite : (b : Bool) → Each RowGood (cond b (given_row atoms h (negsuc 0) (negated (x.Polynomial h.summands)) ∷ []) [])
      opposite true = (of_good (One (record { times = negsuc 0; of = h.of })) (fitting (negated (x.Polynomial h.summands))) (refl, g.0), tt)
      opposite false = tt

  module _ (at k n : ℕ) (first second : Inequality) (first_good : RowGood (Fits first)) (second_good : RowGood (Fits second)) where
    sum_good : (c d : ℕ) → lead_by at first.lead ≡ pos (suc c) → (b : Bool) → is_narrow (pos (suc d)) ≡ b →
        RowGood (cond b (row_of atoms (Two (named (pos (suc d)) k first.parts) (named (pos (suc c)) n second.parts)) (summed (pos (suc d)) first.summands (pos (suc c)) second.summands)) Wide)
    sum_good c d c_is false d_in = tt
    sum_good c d c_is true d_in = by_case (multiples_fit (pos (suc d)) first.summands) refl (list_all (sum_fits (pos (suc d)) first.summands (pos (suc c))) second.summands) _
      where
        lead_is : lead_by at (lead 0 atoms first.summands) ≡ pos (suc c)
        lead_is = ap (lead_by at) (sym first_good.0) ∙ c_is

        by_case : (b : Bool) → multiples_fit (pos (suc d)) first.summands ≡ b → (m : Bool) (y : Expansion) →
            RowGood (row_of atoms (Two (named (pos (suc d)) k first.parts) (named (pos (suc c)) n second.parts)) (cond (b && m) y x.Wide))
        by_case false h m y = tt
        by_case true h false y = tt
        by_case true h true y =
            let narrow = subst (λ z. is_narrow (z *ℤ pos (suc d)) ≡ true) lead_is (lead_fits (pos (suc d)) first.summands at 0 atoms h (ap is_positive lead_is)) in
            of_good (Two (named (pos (suc d)) k first.parts) (named (pos (suc c)) n second.parts)) y
            (named_good (suc d) k first.parts (narrow_good (suc d) d_in) first_good.1, named_good (suc c) n second.parts (factor_good c d narrow) second_good.1)

    pair_case : (c less : ℤ) → lead_by at first.lead ≡ c → Each RowGood (option_to_list (cond (is_positive c && is_negative less) (Some (paired atoms k first c n second less)) None))
    pair_case (pos zero) less c_is = tt
    pair_case (negsuc c) less c_is = tt
    pair_case (pos (suc c)) (pos d) c_is = tt
    pair_case (pos (suc c)) (negsuc d) c_is = (sum_good c d c_is (is_narrow (pos (suc d))) refl, tt)

  pair_good : (at k n : ℕ) (r s : Row) → RowGood r → RowGood s → Each RowGood (option_to_list (pair atoms at k r n s))
  pair_good at k n (Fits u) (Fits v) g h = pair_case at k n u v g h (lead_by at u.lead) (lead_by at v.lead) refl
  pair_good at k n (Fits u) Wide g h = tt
  pair_good at k n (Fits u) Long g h = tt
  pair_good at k n Wide s g h = tt
  pair_good at k n Long s g h = tt

  with_good : (at k n : ℕ) (r : Row) (rows : List Row) → RowGood r → Each RowGood rows → Each RowGood (pairs_with atoms at k r n rows)
  with_good at k n r [] g h = tt
  with_good at k n r (s ∷ rows) g h = each_append RowGood (option_to_list (pair atoms at k r n s)) (pairs_with atoms at k r (n + 1) rows) (pair_good at k n r s g h.0) (with_good at k (n + 1) r rows g h.1)

  from_good : (at k : ℕ) (all rows : List Row) → Each RowGood all → Each RowGood rows → Each RowGood (pairs_from atoms at all k rows)
  from_good at k all [] g h = tt
  from_good at k all (r ∷ rows) g h = each_append RowGood (pairs_with atoms at k r 1 all) (pairs_from atoms at all (k + 1) rows) (with_good at k 1 r all h.0 g) (from_good at (k + 1) all rows g h.1)

  after_good : (n : ℕ) (rows : List Row) → Each RowGood rows → Each RowGood (after_atoms atoms n rows)
  after_good zero rows g = g
  after_good (suc n) rows g = let h = after_good n rows g in each_append RowGood (after_atoms atoms n rows) (pairs_from atoms n (after_atoms atoms n rows) 1 (after_atoms atoms n rows)) h (from_good n 1 (after_atoms atoms n rows) (after_atoms atoms n rows) h h)

  until_good : (n : ℕ) (rows : List Row) → Each RowGood rows → Each RowGood (until n rows)
  until_good n [] g = tt
  until_good n (r ∷ rows) g = (g.0, by_case (ends n r) (until_good (n + 1) rows g.1))
    where
      by_case : (b : Bool) → Each RowGood (until (n + 1) rows) → Each RowGood (cond b [] (until (n + 1) rows))
      by_case true h = tt
      by_case false h = h

  needed_good : (n : ℕ) (rows : List Row) → Each RowGood rows → Each (λ (w : Written). PartsGood w.parts) (needed n rows)
  needed_good n [] g = tt
  needed_good n (r ∷ rows) g = by_row r g.0 (needed_good (n + 1) rows g.1)
    where
      by_case : (b : Bool) (w : Written) (later : List Written) → PartsGood w.parts → Each (λ (w : Written). PartsGood w.parts) later → Each (λ (w : Written). PartsGood w.parts) (cond b (w ∷ later) later)
      by_case true w later g h = (g, h)
      by_case false w later g h = h

      by_row : (r : Row) → RowGood r → Each (λ (w : Written). PartsGood w.parts) (needed (n + 1) rows) → Each (λ (w : Written). PartsGood w.parts) (needed_by n (parts_of r) (is_none rows) (needed (n + 1) rows))
      by_row Wide g h = h
      by_row Long g h = h
      by_row (Fits i) g h =
          by_case (is_none rows || (is_sum i.parts && list_any (λ (y : Written). adds n y.parts) (needed (n + 1) rows))) (record { number = n; parts = i.parts }) (needed (n + 1) rows) g.1 h

needed_few : (n : ℕ) (rows : List Row) → length (needed n rows) ≤ length rows
needed_few n [] = omega arith
needed_few n (r ∷ rows) = by_row (parts_of r) (needed (n + 1) rows) (length rows) (needed_few (n + 1) rows)
  where
    by_case : (b : Bool) (w : Written) (later : List Written) (m : ℕ) → length later ≤ m → length (cond b (w ∷ later) later) ≤ suc m
    by_case true w later m h = omega arith
    by_case false w later m h = omega arith

    by_row : (o : Option Parts) (later : List Written) (m : ℕ) → length later ≤ m → length (needed_by n o (is_none rows) later) ≤ suc m
    by_row None later m h = omega arith
    by_row (Some parts) later m h = by_case (is_none rows || (is_sum parts && list_any (λ (y : Written). adds n y.parts) later)) (record { number = n; parts = parts }) later m h

number_few : (n before : ℕ) (rows : List Written) → line_number n before rows ≤ before + length rows
number_few n before [] = omega arith
number_few n before (w ∷ rows) = by_case (nat_eq w.number n) (line_number n (before + 1) rows) (length rows) (number_few n (before + 1) rows)
  where
    by_case : (b : Bool) (later m : ℕ) → later ≤ (before + 1) + m → cond b (before + 1) later ≤ before + suc m
    by_case true later m h = omega arith
    by_case false later m h = omega arith

counted_few : (n m : ℕ) → n ≤ 0 + m → m ≤ 4096 → is_counted n ≡ true
counted_few n m h k = grind (arith, nat_tests)

module _ (all : List Written) (few : length all ≤ 4096) where
  part_read : (part : Part) → IsGood part → readable_part (lined_part all part) ≡ true
  part_read part g = both (is_multiplier part.times) _ g.0 (by_ref part.of g.1)
    where
      by_ref : (r : Ref) → is_numbered r ≡ true → readable_reference (lined all r) ≡ true
      by_ref (Left n) h = h
      by_ref (Right n) h = h
      by_ref (Line n) h = counted_few (line_number n 0 all) (length all) (number_few n 0 all) few

  line_read : (parts : Parts) → PartsGood parts → readable_sum (line_by all parts) ≡ true
  line_read (Two first second) g = both _ _ (part_read first g.0) (both _ true (part_read second g.1) refl)
  line_read (One part) g = both _ true (both _ _ g.0 (by_ref part.of g.1)) refl
    where
      by_ref : (r : Ref) → is_given r ≡ true → readable_reference r ≡ true
      by_ref (Left n) h = h
      by_ref (Right n) h = h
      by_ref (Line n) h = absurd (true≢false (sym h))

  lines_read : (rows : List Written) → Each (λ (w : Written). PartsGood w.parts) rows → all_of (map readable_sum (lines_by all rows)) ≡ true
  lines_read [] g = refl
  lines_read (w ∷ rows) g = both _ _ (line_read w.parts g.0) (lines_read rows g.1)

-- the formulas that are used have numbers that can be written
number_given : (side : ℕ → Ref) → ((n : ℕ) → is_given (side n) ≡ is_counted n) → (at : ℕ) (p : Formula) (y : Expansion) → Each (λ (h : Hypothesis). is_given h.of ≡ true) (used_by side (number_at at) p y)
number_given side same at p y = by_case (nat_lt at 4294967295) refl
  where
    if_linear : (n : ℕ) (q : List Summand) (b : Bool) → is_given (side n) ≡ true → Each (λ (h : Hypothesis). is_given h.of ≡ true) (cond b (record { of = side n; is_equation = is_equation p; summands = q; atoms = atoms_in p } ∷ []) [])
    if_linear n q true g = (g, tt)
    if_linear n q false g = tt

    if_used : (n : ℕ) (y : Expansion) → is_given (side n) ≡ true → Each (λ (h : Hypothesis). is_given h.of ≡ true) (used_if (side n) p y)
    if_used n (x.Polynomial q) g = if_linear n q (is_linear q) g
    if_used n x.Unfit g = tt
    if_used n x.Wide g = tt

    counted : nat_lt at 4294967295 ≡ true → is_counted (at + 1) ≡ true
    counted h = grind (arith, nat_tests)

    by_case : (b : Bool) → nat_lt at 4294967295 ≡ b → Each (λ (h : Hypothesis). is_given h.of ≡ true) (used_by side (cond b (Some (at + 1)) None) p y)
    by_case true h = if_used (at + 1) y (same (at + 1) ∙ counted h)
    by_case false h = tt

left_given : (at : ℕ) (fs : List Formula) → Each (λ (h : Hypothesis). is_given h.of ≡ true) (used_left at fs)
left_given at [] = tt
left_given at (p ∷ fs) = each_append (λ (h : Hypothesis). is_given h.of ≡ true) (used_by Left (number_at at) p (given_by_left p)) (used_left (at + 1) fs) (number_given Left (λ n. refl) at p (given_by_left p)) (left_given (at + 1) fs)

right_given : (at : ℕ) (fs : List Formula) → Each (λ (h : Hypothesis). is_given h.of ≡ true) (used_right at fs)
right_given at [] = tt
right_given at (p ∷ fs) = each_append (λ (h : Hypothesis). is_given h.of ≡ true) (used_by Right (number_at at) p (given_by_right p)) (used_right (at + 1) fs) (number_given Right (λ n. refl) at p (given_by_right p)) (right_given (at + 1) fs)

-- each line can be written
abbrev Written_all : Elimination → Type 0
Written_all (e.Lines lines) = all_of (map readable_sum lines) ≡ true
Written_all (e.Wide k) = Unit {0}
Written_all e.Many = Unit {0}
Written_all (e.Rows t) = Unit {0}

module _ (atoms : List Term) where
  of_rows : (rows : List Row) → Each (RowGood atoms) rows → length rows ≤ 4096 → all_of (map readable_sum (lines_of rows)) ≡ true
  of_rows rows g few = let n = needed_few 1 rows in lines_read (needed 1 rows) (omega arith) (needed 1 rows) (needed_good atoms 1 rows g)

  of_last : (rows : List Row) (o : Option Row) → Each (RowGood atoms) rows → Written_all (answer_by rows o)
  of_last rows None g = tt
  of_last rows (Some Wide) g = tt
  of_last rows (Some Long) g = tt
  of_last rows (Some (Fits i)) g = by_case (leb (length rows) 4096) refl
    where
      by_case : (b : Bool) → leb (length rows) 4096 ≡ b → Written_all (cond b (e.Lines (lines_of rows)) e.Many)
      by_case true h = of_rows rows g (leb-true (length rows) 4096 h)
      by_case false h = tt

  of_all : (rows : List Row) → Each (RowGood atoms) rows → Written_all (answer_by_rows atoms rows)
  of_all rows g = by_case (some_ends 0 rows)
    where
      by_case : (b : Bool) → Written_all (cond b (answer (until 0 rows)) (e.Rows (record { atoms = atoms; rows = rows })))
      by_case true = of_last (until 0 rows) (last (until 0 rows)) (until_good atoms 0 rows g)
      by_case false = tt

elimination_written : (left right : List Formula) → Written_all (answer_of left right)
elimination_written left right =
    let hs = used left right in
    let given = each_append (λ (h : Hypothesis). is_given h.of ≡ true) (used_left 0 left) (used_right 0 right) (left_given 0 left) (right_given 0 right) in
    of_all (atoms_of hs) (eliminated (atoms_of hs) hs) (after_good (atoms_of hs) (length (atoms_of hs)) (all_given (atoms_of hs) hs) (given_good (atoms_of hs) hs given))

no_lines : (atoms : List Term) (n : ℕ) (o : Option (List Fraction)) (lines : List LinLine) → point_by atoms n o ≡ f.Lines lines → ⊥
no_lines atoms n None lines h = cc
no_lines atoms n (Some values) lines h = cc

by_elimination : (y : Elimination) (lines : List LinLine) → Written_all y → found_by y ≡ f.Lines lines → all_of (map readable_sum lines) ≡ true
by_elimination (e.Lines given) lines h is = let same : given ≡ lines = cc in subst (λ ls. all_of (map readable_sum ls) ≡ true) same h
by_elimination (e.Wide k) lines h is = absurd (cc)
by_elimination e.Many lines h is = absurd (cc)
by_elimination (e.Rows t) lines h is = absurd (no_lines t.atoms (length t.rows) (last_values t.atoms t.rows (length t.atoms)) lines is)

-- there is a line, since none refute nothing
some_read : (left right : List Formula) (lines : List LinLine) → lines_fault left right lines ≡ None → all_of (map readable_sum lines) ≡ true → some_and_all (map readable_sum lines) ≡ true
some_read left right [] fault h = absurd (cc)
some_read left right (l ∷ lines) fault h = h

pub found_reads_back : (goal : Sequent) (lines : List LinLine) → found_of goal ≡ f.Lines lines → CertSpells (cert_text (lin_cert lines)) (lin_cert lines)
found_reads_back goal lines is =
    let each = by_elimination (answer_of goal.left goal.right) lines (elimination_written goal.left goal.right) is in
    cert_reads_back (lin_cert lines).lines (both _ true (some_read goal.left goal.right lines (found_accepted goal lines is) each) refl) refl (tt, tt)
