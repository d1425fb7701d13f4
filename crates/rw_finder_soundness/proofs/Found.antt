-- The lines that are found for a goal are accepted.
use Rattle.std.proofs.Common.{◌≡◌, ℕ, ◌+◌, ◌≤◌, leb, Bool, true, false, cond, ◌||◌, List, [], ◌∷◌, ◌++◌, length, Option, Some, None, refl, sym, ap, ◌∙◌, subst, true≢false, arith}
use Rattle.std.proofs.lemmas.Bool.{leb-true}
use Rattle.rw_terms.specs.declared.term.Term.{Term}
use Rattle.rw_terms.specs.declared.term.Formula.{Formula}
use Rattle.rw_terms.specs.declared.sequent.Sequent.{Sequent}
use Rattle.rw_arith.specs.declared.line.LinLine.{LinLine}
use Rattle.rw_arith.specs.Lines.{is_contradiction, lines_fault}
use Rattle.rw_elimination.specs.declared.row.Inequality.{Inequality}
use Rattle.rw_elimination.specs.declared.row.Row.{Row}
use Rattle.rw_elimination.specs.declared.row.Row.TheVariants.{Wide, Long, Fits}
use Rattle.rw_elimination.specs.declared.ending.Elimination.{Elimination}
use Rattle.rw_elimination.specs.declared.ending.Elimination.TheVariants as e
use Rattle.rw_elimination.specs.declared.ending.Table.{Table}
use Rattle.rw_elimination.specs.Hypotheses.{used}
use Rattle.rw_elimination.specs.Elimination.{atoms_of, eliminated, ends, some_ends, until}
use Rattle.rw_elimination.specs.Writing.{lines_of}
use Rattle.rw_elimination.specs.Answer.{last, answer_by, answer, answer_by_rows, answer_of}
use Rattle.rw_finder.specs.declared.fraction.Fraction.{Fraction}
use Rattle.rw_finder.specs.declared.find.Found.{Found}
use Rattle.rw_finder.specs.declared.find.Found.TheVariants as f
use Rattle.rw_finder.specs.Point.{last_values}
use Rattle.rw_finder.specs.Finding.{point_by, found_by, found_of}
use Rattle.rw_finder_soundness.proofs.Sound.{RowSound, Sound, all_sound}
use Rattle.rw_finder_soundness.proofs.Accepted.{Ended, row_ends, rows_accepted}

-- lines that are given are accepted
abbrev Accepts : List Formula → List Formula → Elimination → Type 0
Accepts left right (e.Lines lines) = lines_fault left right lines ≡ None
Accepts left right (e.Wide k) = Unit {0}
Accepts left right e.Many = Unit {0}
Accepts left right (e.Rows t) = Unit {0}

module _ (left right : List Formula) where
  sound_until : (rows before : List Row) (n : ℕ) → Sound left right before rows → Sound left right before (until n rows)
  sound_until [] before n h = tt
  sound_until (r ∷ rows) before n h = (h.0, by_case (ends n r) (sound_until rows (before ++ r ∷ []) (n + 1) h.1))
    where
      by_case : (b : Bool) → Sound left right (before ++ r ∷ []) (until (n + 1) rows) → Sound left right (before ++ r ∷ []) (cond b [] (until (n + 1) rows))
      by_case true k = tt
      by_case false k = k

  full_or : (b c : Bool) → b ≡ false → (b || c) ≡ true → c ≡ true
  full_or true c h k = absurd (true≢false h)
  full_or false c h k = k

  room : (b : Bool) (n : ℕ) → leb 4096 n ≡ b → n + 1 ≤ 4096 → b ≡ false
  room true n h k = let full = leb-true 4096 n h in absurd (omega arith)
  room false n h k = refl

  end_row : (r : Row) (i : Inequality) (n : ℕ) → ends n r ≡ true → n + 1 ≤ 4096 → Some r ≡ Some (Fits i) → row_ends r
  end_row (Fits j) i n h few is = full_or (leb 4096 n) (is_contradiction j.summands) (room (leb 4096 n) n refl few) h
  end_row Wide i n h few is = absurd (cc)
  end_row Long i n h few is = absurd (cc)

  last_ends : (rows : List Row) (i : Inequality) (n : ℕ) → some_ends n rows ≡ true → n + length (until n rows) ≤ 4096 → last (until n rows) ≡ Some (Fits i) → Ended (until n rows)
  last_ends [] i n h few is = absurd (true≢false (sym h))
  last_ends (r ∷ []) i n h few is = by_case (ends n r) refl h few is
    where
      by_case : (b : Bool) → ends n r ≡ b → (b || false) ≡ true → n + length (r ∷ cond b [] []) ≤ 4096 → last (r ∷ cond b [] []) ≡ Some (Fits i) → Ended (r ∷ cond b [] [])
      by_case true k h few is = end_row r i n k (omega arith) is
      by_case false k h few is = absurd (true≢false (sym h))
  last_ends (r ∷ s ∷ rows) i n h few is = by_case (ends n r) refl (last_ends (s ∷ rows) i (n + 1)) h few is
    where
      rest : List Row
      rest = cond (ends (n + 1) s) [] (until (n + 1 + 1) rows)

      by_case : (b : Bool) → ends n r ≡ b → (some_ends (n + 1) (s ∷ rows) ≡ true → (n + 1) + length (s ∷ rest) ≤ 4096 → last (s ∷ rest) ≡ Some (Fits i) → Ended (s ∷ rest)) → (b || some_ends (n + 1) (s ∷ rows)) ≡ true → n + length (r ∷ cond b [] (s ∷ rest)) ≤ 4096 → last (r ∷ cond b [] (s ∷ rest)) ≡ Some (Fits i) → Ended (r ∷ cond b [] (s ∷ rest))
      by_case true k ih h few is = end_row r i n k (omega arith) is
      by_case false k ih h few is = ih h (omega arith) is

  answer_accepts : (rows : List Row) (o : Option Row) → Sound left right [] rows → ((i : Inequality) → o ≡ Some (Fits i) → length rows ≤ 4096 → Ended rows) → Accepts left right (answer_by rows o)
  answer_accepts rows None sound ends = tt
  answer_accepts rows (Some Wide) sound ends = tt
  answer_accepts rows (Some Long) sound ends = tt
  answer_accepts rows (Some (Fits i)) sound ends = by_case (leb (length rows) 4096) refl
    where
      by_case : (b : Bool) → leb (length rows) 4096 ≡ b → Accepts left right (cond b (e.Lines (lines_of rows)) e.Many)
      by_case true h = rows_accepted left right rows sound (ends i refl (leb-true (length rows) 4096 h))
      by_case false h = tt

  rows_accept : (atoms : List Term) (rows : List Row) → Sound left right [] rows → Accepts left right (answer_by_rows atoms rows)
  rows_accept atoms rows sound = by_case (some_ends 0 rows) refl
    where
      by_case : (b : Bool) → some_ends 0 rows ≡ b → Accepts left right (cond b (answer (until 0 rows)) (e.Rows (record { atoms = atoms; rows = rows })))
      by_case true h = answer_accepts (until 0 rows) (last (until 0 rows)) (sound_until rows [] 0 sound) (λ i is few. last_ends rows i 0 h (omega arith) is)
      by_case false h = tt

  elimination_accepts : Accepts left right (answer_of left right)
  elimination_accepts = rows_accept (atoms_of (used left right)) (eliminated (atoms_of (used left right)) (used left right)) (all_sound left right (atoms_of (used left right)))

  no_lines : (atoms : List Term) (n : ℕ) (o : Option (List Fraction)) (lines : List LinLine) → point_by atoms n o ≡ f.Lines lines → ⊥
  no_lines atoms n None lines h = cc
  no_lines atoms n (Some values) lines h = cc

  by_elimination : (x : Elimination) (lines : List LinLine) → Accepts left right x → found_by x ≡ f.Lines lines → lines_fault left right lines ≡ None
  by_elimination (e.Lines given) lines h is = let same : given ≡ lines = cc in subst (λ ls. lines_fault left right ls ≡ None) same h
  by_elimination (e.Wide k) lines h is = absurd (cc)
  by_elimination e.Many lines h is = absurd (cc)
  by_elimination (e.Rows t) lines h is = absurd (no_lines t.atoms (length t.rows) (last_values t.atoms t.rows (length t.atoms)) lines is)

pub found_accepted : (goal : Sequent) (lines : List LinLine) → found_of goal ≡ f.Lines lines → lines_fault goal.left goal.right lines ≡ None
found_accepted goal lines is = by_elimination goal.left goal.right (answer_of goal.left goal.right) lines (elimination_accepts goal.left goal.right) is
