-- The lines of rows whose last one is a negative constant are accepted.
use Rattle.std.proofs.Common.{◌≡◌, ℕ, zero, suc, ◌+◌, ◌<◌, ◌≤◌, leb, nat_eq, Bool, true, false, cond, not, ◌&&◌, ◌||◌, ℤ, pos, negsuc, ◌*ℤ◌, List, [], ◌∷◌, ◌++◌, length, Option, Some, None, Result, Ok, Err, refl, sym, ap, ◌∙◌, subst, add-one, true≢false, arith}
use Rattle.std.specs.List.{slice_get, list_all, list_any}
use Rattle.std.proofs.Math.IntN.{one, *ℤ-one}
use Rattle.std.proofs.lemmas.Bool.{and_parts, eqb-true, eq-eqb}
use Rattle.std.proofs.lemmas.List.{append_assoc, length-append}
use Rattle.rw_terms.specs.declared.term.Term.{Term}
use Rattle.rw_terms.specs.declared.term.Formula.{Formula}
use Rattle.rw_terms.specs.Validity.{Each}
use Rattle.rw_arith.specs.declared.line.Ref.{Ref}
use Rattle.rw_arith.specs.declared.line.Ref.TheVariants.{Left, Right, Line}
use Rattle.rw_arith.specs.declared.line.Part.{Part}
use Rattle.rw_arith.specs.declared.line.LinLine.{LinLine}
use Rattle.rw_arith.specs.declared.error.LinError.{LinError}
use Rattle.rw_arith.specs.declared.error.LinError.TheVariants as fault
use Rattle.rw_arith.specs.declared.poly.Summand.{Summand}
use Rattle.rw_arith.specs.declared.poly.Expansion.{Expansion}
use Rattle.rw_arith.specs.declared.poly.Expansion.TheVariants as x
use Rattle.rw_arith.specs.Polynomials.{is_narrow, is_product, has_atoms, and_then, with_summand, with_multiple, with_multiples}
use Rattle.rw_arith.specs.Given.{is_non_negative}
use Rattle.rw_arith.specs.Lines.{numbered, passes, expansion_by, is_allowed, with_part, with_parts, sum_of, line_expansion, made_by, if_made, all_made, is_negative, is_contradiction, refutes, fault_of, lines_fault}
use Rattle.rw_elimination.specs.declared.row.Parts.{Parts}
use Rattle.rw_elimination.specs.declared.row.Parts.TheVariants.{One, Two}
use Rattle.rw_elimination.specs.declared.row.Inequality.{Inequality}
use Rattle.rw_elimination.specs.declared.row.Row.{Row}
use Rattle.rw_elimination.specs.declared.row.Row.TheVariants.{Wide, Long, Fits}
use Rattle.rw_elimination.specs.declared.writing.Written.{Written}
use Rattle.rw_elimination.specs.Rows.{multiples_fit, signed_by, named}
use Rattle.rw_elimination.specs.Writing.{is_row, adds, is_sum, needed, line_number, lined_part, line_by, lines_by, lines_of}
use Rattle.rw_finder_soundness.proofs.Backed.{Backs}
use Rattle.rw_finder_soundness.proofs.Sound.{Adds, PartsSound, RowSound, Sound, each_append, get_front, get_middle}

numbered_front : {X : Type 0} (xs ys : List X) (n : ℕ) (y : X) → numbered xs n ≡ Some y → numbered (xs ++ ys) n ≡ Some y
numbered_front xs ys zero y e = absurd (cc)
numbered_front xs ys (suc n) y e = get_front xs ys n y e

-- what holds of each place where something stands, and of one more
at_last : {X : Type 0} (P : ℕ → Type 0) (front : List X) (r y : X) → ((k : ℕ) → slice_get front k ≡ Some y → P k) → (r ≡ y → P (length front)) → (k : ℕ) → slice_get (front ++ r ∷ []) k ≡ Some y → P k
at_last P [] r y h last zero e = last (cc)
at_last P [] r y h last (suc k) e = absurd (cc)
at_last P (z ∷ front) r y h last zero e = h zero e
at_last P (z ∷ front) r y h last (suc k) e = at_last (λ n. P (suc n)) front r y (λ n. h (suc n)) last k e

differs : (b : Bool) (m n : ℕ) → nat_eq m n ≡ b → m < n → b ≡ false
differs true m n e h = let same : m ≡ n = eqb-true m n e in absurd (omega arith)
differs false m n e h = refl

-- the line of a row, where the rows before it have lower numbers
line_at : (w : List Written) (n m : ℕ) (y : Written) (later : List Written) → Each (λ z. z.number < n) w → y.number ≡ n → line_number n m (w ++ y ∷ later) ≡ (m + length w) + 1
line_at [] n m y later h e = ap (λ b. cond b (m + 1) (line_number n (m + 1) later)) (eq-eqb y.number n e) ∙ none m
  where
    none : (m : ℕ) → m + 1 ≡ (m + 0) + 1
    none m = omega arith
line_at (z ∷ w) n m y later h e =
    ap (λ b. cond b (m + 1) (line_number n (m + 1) (w ++ y ∷ later))) (differs (nat_eq z.number n) z.number n refl h.0) ∙ line_at w n (m + 1) y later h.1 e ∙ one_on m w
  where
    one_on : (m : ℕ) (w : List Written) → ((m + 1) + length w) + 1 ≡ (m + length (z ∷ w)) + 1
    one_on m w = omega arith

unfit_stays : (m : ℤ) (q : List Summand) → with_multiples m q x.Unfit ≡ x.Unfit
unfit_stays m [] = refl
unfit_stays m (s ∷ ss) = unfit_stays m ss

wide_stays : (m : ℤ) (q : List Summand) → with_multiples m q x.Wide ≡ x.Wide
wide_stays m [] = refl
wide_stays m (s ∷ ss) = wide_stays m ss

alone : (z : ℤ) (ts : List Term) → (not (has_atoms ts) && is_negative z) ≡ true → with_summand [] (record { times = z; atoms = ts }) ≡ x.Polynomial (record { times = z; atoms = ts } ∷ [])
alone (negsuc n) [] h = refl
alone (pos n) [] h = absurd (true≢false (sym h))
alone z (t ∷ ts) h = absurd (true≢false (sym h))

times_one : (z : ℤ) → z *ℤ pos 1 ≡ z
unfolding one
times_one z = *ℤ-one z

-- a negative constant is once itself
constant_once : (p : List Summand) → is_contradiction p ≡ true → multiples_fit (pos 1) p ≡ true → with_multiples (pos 1) p (x.Polynomial []) ≡ x.Polynomial p
constant_once [] h f = absurd (true≢false (sym h))
constant_once (s ∷ []) h f =
    let narrow = and_parts (is_narrow (s.times *ℤ pos 1)) true f in
    ap (λ b. cond b (with_summand [] (record { times = s.times *ℤ pos 1; atoms = s.atoms })) x.Wide) narrow.0
    ∙ ap (λ z. with_summand [] (record { times = z; atoms = s.atoms })) (times_one s.times) ∙ alone s.times s.atoms h
constant_once (s ∷ t ∷ ss) h f = absurd (true≢false (sym h))

unlined : (rows : List Written) (of : Ref) (times : ℤ) → ((n : ℕ) → is_row n of ≡ false) → lined_part rows (record { times = times; of = of }) ≡ record { times = times; of = of }
unlined rows (Left n) times h = refl
unlined rows (Right n) times h = refl
unlined rows (Line n) times h = absurd (true≢false (sym (eq-eqb n n refl) ∙ h n))

or_first : (a b c : Bool) → a ≡ true → ((a || b) || c) ≡ true
or_first true b c e = refl
or_first false b c e = absurd (true≢false (sym e))

or_second : (a b c : Bool) → b ≡ true → ((a || b) || c) ≡ true
or_second true true c e = refl
or_second false true c e = refl
or_second a false c e = absurd (true≢false (sym e))

or_later : (a b : Bool) → b ≡ true → (a || b) ≡ true
or_later true true e = refl
or_later false true e = refl
or_later a false e = absurd (true≢false (sym e))

abbrev row_parts : Row → Parts → Parts
row_parts (Fits i) p = i.parts
row_parts Wide p = p
row_parts Long p = p

abbrev row_summands : Row → List Summand
row_summands (Fits i) = i.summands
row_summands Wide = []
row_summands Long = []

-- it is a negative constant
abbrev pub row_ends : Row → Type 0
row_ends (Fits i) = is_contradiction i.summands ≡ true
row_ends Wide = ⊥
row_ends Long = ⊥

-- the last row is a negative constant
abbrev pub Ended : List Row → Type 0
Ended [] = ⊥
Ended (r ∷ []) = row_ends r
Ended (r ∷ s ∷ rows) = Ended (s ∷ rows)

each_less : (n : ℕ) (w : List Written) → Each (λ y. y.number < n) w → Each (λ y. y.number < n + 1) w
each_less n [] h = tt
each_less n (y ∷ w) h = (one_more y.number n h.0, each_less n w h.1)
  where
    one_more : (m n : ℕ) → m < n → m < n + 1
    one_more m n h = omega arith

same_length : (made : List (List Summand)) (w : List Written) (p : List Summand) (y : Written) → length made ≡ length w → length (made ++ p ∷ []) ≡ length (w ++ y ∷ [])
same_length made w p y e = let a = length-append made (p ∷ []) in let b = length-append w (y ∷ []) in omega arith

last_number : (made : List (List Summand)) (p : List Summand) → numbered (made ++ p ∷ []) (length made + 1) ≡ Some p
last_number made p = ap (numbered (made ++ p ∷ [])) (add-one (length made)) ∙ get_middle made [] p

module _ (left right : List Formula) (written : List Written) where
  -- a part of a line adds a multiple of this polynomial
  record Makes (made : List (List Summand)) (part : Part) (d : ℤ) (p : List Summand) : Type 0 where
    pub adds : (so_far : List Summand) → with_part left right made so_far part ≡ with_multiples d p (x.Polynomial so_far)
    pub allowed : is_allowed left right made part ≡ true

  part_made : (made : List (List Summand)) (k : ℕ) (d : ℤ) (parts : Parts) (p : List Summand) → ((part : Part) → parts ≡ One part → Backs left right part p) →
      (is_sum parts ≡ true → is_row (k + 1) (named d (k + 1) parts).of ≡ true → numbered made (line_number (k + 1) 0 written) ≡ Some p) → is_non_negative d ≡ true → Makes made (lined_part written (named d (k + 1) parts)) d p
  part_made made k d (One part) p given found h =
      let b = given part refl in
      let same = unlined written part.of (signed_by part.times d) b.no_row in
      record { adds = λ so_far. ap (with_part left right made so_far) same ∙ b.adds made d so_far; allowed = ap (is_allowed left right made) same ∙ b.allowed made d h }
  part_made made k d (Two first second) p given found h =
      let there = found refl (eq-eqb (k + 1) (k + 1) refl) in
      record { adds = λ so_far. ap (λ o. and_then (expansion_by x.Polynomial o) (λ q. with_multiples d q (x.Polynomial so_far))) there; allowed = ap (passes (λ (q : List Summand). is_non_negative d)) there ∙ h }

  module _ (made : List (List Summand)) where
    second_made : (second : Part) (c : ℤ) (v p : List Summand) → Makes made second c v → (e : Expansion) → with_multiples c v e ≡ x.Polynomial p → and_then e (λ sum. with_part left right made sum second) ≡ x.Polynomial p
    second_made second c v p s (x.Polynomial q) h = s.adds q ∙ h
    second_made second c v p s x.Unfit h = let u = unfit_stays c v in absurd (cc)
    second_made second c v p s x.Wide h = let u = wide_stays c v in absurd (cc)

    sum_made : (first second : Part) (d c : ℤ) (u v p : List Summand) → Makes made first d u → Makes made second c v → with_multiples c v (with_multiples d u (x.Polynomial [])) ≡ x.Polynomial p →
        sum_of left right made (first ∷ second ∷ []) ≡ x.Polynomial p
    sum_made first second d c u v p f s h =
        (λ i. cond (f.allowed i && (s.allowed i && true)) (with_parts left right made (first ∷ second ∷ []) (x.Polynomial [])) x.Unfit)
        ∙ ap (λ e. and_then e (λ sum. with_part left right made sum second)) (f.adds []) ∙ second_made second c v p s (with_multiples d u (x.Polynomial [])) h

    once_made : (part : Part) (p : List Summand) → Backs left right part p → is_contradiction p ≡ true → multiples_fit (pos 1) p ≡ true → sum_of left right made (part ∷ []) ≡ x.Polynomial p
    once_made part p b h f =
        let same : record { times = signed_by part.times (pos 1); of = part.of } ≡ part = (λ i. record { times = b.itself i; of = part.of }) in
        (λ i. cond ((sym (ap (is_allowed left right made) same) ∙ b.allowed made (pos 1) refl) i && true) (with_part left right made [] part) x.Unfit)
        ∙ sym (ap (with_part left right made []) same) ∙ b.adds made (pos 1) [] ∙ constant_once p h f

  -- the rows that later ones add have their lines
  abbrev Has : List (List Summand) → List Row → List Written → Type 0
  Has made front later =
      (k : ℕ) (u : Inequality) → slice_get front k ≡ Some (Fits u) → is_sum u.parts ≡ true → list_any (λ (y : Written). adds (k + 1) y.parts) later ≡ true → numbered made (line_number (k + 1) 0 written) ≡ Some u.summands

  -- the rows of hypotheses are backed
  abbrev Given : List Row → Type 0
  Given front = (k : ℕ) (u : Inequality) → slice_get front k ≡ Some (Fits u) → (part : Part) → u.parts ≡ One part → Backs left right part u.summands

  given_more : (front : List Row) (r : Row) → Given front → RowSound left right front r → Given (front ++ r ∷ [])
  given_more front r given sound k u e =
      at_last (λ n. (part : Part) → u.parts ≡ One part → Backs left right part u.summands) front r (Fits u) (λ n h. given n u h)
      (λ is part one. (subst (λ p. PartsSound left right front p u.summands) one (subst (RowSound left right front) is sound)).0) k e

  line_made : (made : List (List Summand)) (front : List Row) (n : ℕ) (later : List Written) (parts : Parts) (p : List Summand) → PartsSound left right front parts p → Given front → Has made front (record { number = n; parts = parts } ∷ later) →
      (is_sum parts ≡ false → is_contradiction p ≡ true) → line_expansion left right made (line_by written parts) ≡ x.Polynomial p
  line_made made front n later (One part) p sound given has ends = once_made made part p sound.0 (ends refl) sound.1
  line_made made front n later (Two first second) p a given has ends =
      let rest = list_any (λ (y : Written). adds (a.k + 1) y.parts) later in
      let more = list_any (λ (y : Written). adds (a.n + 1) y.parts) later in
      sum_made made (lined_part written first) (lined_part written second) a.d a.c a.u.summands a.v.summands p
      (subst (λ q. Makes made (lined_part written q) a.d a.u.summands) (sym a.first_is)
      (part_made made a.k a.d a.u.parts a.u.summands (given a.k a.u a.u_is)
      (λ s row. has a.k a.u a.u_is s (or_first (is_row (a.k + 1) first.of) (is_row (a.k + 1) second.of) rest (ap (λ (q : Part). is_row (a.k + 1) q.of) a.first_is ∙ row))) a.d_least))
      (subst (λ q. Makes made (lined_part written q) a.c a.v.summands) (sym a.second_is)
      (part_made made a.n a.c a.v.parts a.v.summands (given a.n a.v a.v_is)
      (λ s row. has a.n a.v a.v_is s (or_second (is_row (a.n + 1) first.of) (is_row (a.n + 1) second.of) more (ap (λ (q : Part). is_row (a.n + 1) q.of) a.second_is ∙ row))) a.c_least))
      a.sum_is

  -- the lines give polynomials, the last of which refutes
  record Refutes (made : Result (List (List Summand)) LinError) : Type 0 where
    pub of : List (List Summand)
    pub is : made ≡ Ok of
    pub refutes : refutes of ≡ true

  one_more : (m : ℕ) (made : List (List Summand)) (line : LinLine) (lines : List LinLine) (p : List Summand) → line_expansion left right made line ≡ x.Polynomial p →
      all_made left right m (line ∷ lines) made ≡ all_made left right (m + 1) lines (made ++ p ∷ [])
  one_more m made line lines p e = ap (λ z. if_made (made_by (m + 1) made z) (all_made left right (m + 1) lines)) e

  last_line : (m : ℕ) (made : List (List Summand)) (line : LinLine) (p : List Summand) → line_expansion left right made line ≡ x.Polynomial p → is_contradiction p ≡ true → Refutes (all_made left right m (line ∷ []) made)
  last_line m made line p e h = record {
    of = made ++ p ∷ [];
    is = one_more m made line [] p e;
    refutes = ap (λ n. passes is_contradiction (numbered (made ++ p ∷ []) n)) (length-append made (p ∷ [])) ∙ ap (passes is_contradiction) (last_number made p) ∙ h;
  }

  -- what comes of rows behind others, from what they need on
  abbrev Goes : List Row → ℕ → List Written → Type 0
  Goes front n later =
      (m : ℕ) (w : List Written) (made : List (List Summand)) → written ≡ w ++ later → length made ≡ length w → Each (λ y. y.number < n) w → Has made front later → Refutes (all_made left right m (lines_by written later) made)

  skipped : (front : List Row) (r : Row) (n : ℕ) (later : List Written) → n ≡ length front + 1 → ((u : Inequality) → r ≡ Fits u → is_sum u.parts ≡ true → list_any (λ (y : Written). adds (length front + 1) y.parts) later ≡ true → ⊥) →
      Goes (front ++ r ∷ []) (n + 1) later → Goes front n later
  skipped front r n later at none ih m w made is l less has =
      ih m w made is l (each_less n w less)
      (λ k u e. at_last (λ j. is_sum u.parts ≡ true → list_any (λ (y : Written). adds (j + 1) y.parts) later ≡ true → numbered made (line_number (j + 1) 0 written) ≡ Some u.summands) front r (Fits u)
      (λ j h. has j u h) (λ same s a. absurd (none u same s a)) k e)

  kept_line : (front : List Row) (i : Inequality) (n : ℕ) (later : List Written) (w : List Written) (made : List (List Summand)) → n ≡ length front + 1 → written ≡ w ++ record { number = n; parts = i.parts } ∷ later → length made ≡ length w →
      Each (λ y. y.number < n) w → numbered (made ++ i.summands ∷ []) (line_number (length front + 1) 0 written) ≡ Some i.summands
  kept_line front i n later w made at is l less =
      let place : line_number (length front + 1) 0 written ≡ (0 + length w) + 1 = (λ j. line_number (sym at j) 0 (is j)) ∙ line_at w n 0 (record { number = n; parts = i.parts }) later less refl in
      let behind : (0 + length w) + 1 ≡ length made + 1 = omega arith in
      ap (numbered (made ++ i.summands ∷ [])) (place ∙ behind) ∙ last_number made i.summands

  kept : (front : List Row) (i : Inequality) (n : ℕ) (later : List Written) → n ≡ length front + 1 → is_sum i.parts ≡ true → PartsSound left right front i.parts i.summands → Given front → Goes (front ++ Fits i ∷ []) (n + 1) later →
      Goes front n (record { number = n; parts = i.parts } ∷ later)
  kept front i n later at sums sound given ih m w made is l less has =
      let new : Written = record { number = n; parts = i.parts } in
      subst Refutes (sym (one_more m made (line_by written i.parts) (lines_by written later) i.summands (line_made made front n later i.parts i.summands sound given has (λ k. absurd (true≢false (sym sums ∙ k))))))
      (ih (m + 1) (w ++ new ∷ []) (made ++ i.summands ∷ []) (is ∙ sym (append_assoc w (new ∷ []) later)) (same_length made w i.summands new l)
      (each_append (λ y. y.number < n + 1) w (new ∷ []) (each_less n w less) (omega arith, tt))
      (λ k u e. at_last (λ j. is_sum u.parts ≡ true → list_any (λ (y : Written). adds (j + 1) y.parts) later ≡ true → numbered (made ++ i.summands ∷ []) (line_number (j + 1) 0 written) ≡ Some u.summands) front (Fits i) (Fits u)
      (λ j h s a. numbered_front made (i.summands ∷ []) (line_number (j + 1) 0 written) u.summands (has j u h s (or_later (adds (j + 1) i.parts) (list_any (λ (y : Written). adds (j + 1) y.parts) later) a)))
      (λ same s a. kept_line front i n later w made at is l less ∙ ap (λ r. Some (row_summands r)) same) k e))

  fits_case : (b : Bool) (front : List Row) (i : Inequality) (n : ℕ) (later : List Written) → n ≡ length front + 1 → (is_sum i.parts && list_any (λ (y : Written). adds n y.parts) later) ≡ b → PartsSound left right front i.parts i.summands → Given front →
      Goes (front ++ Fits i ∷ []) (n + 1) later → Goes front n (cond b (record { number = n; parts = i.parts } ∷ later) later)
  fits_case true front i n later at e sound given ih = kept front i n later at (and_parts (is_sum i.parts) (list_any (λ (y : Written). adds n y.parts) later) e).0 sound given ih
  fits_case false front i n later at e sound given ih =
      skipped front (Fits i) n later at
      (λ u same s a. true≢false (sym (λ j. (ap (λ r. is_sum (row_parts r i.parts)) same ∙ s) j && (ap (λ z. list_any (λ (y : Written). adds z y.parts) later) at ∙ a) j) ∙ e)) ih

  row_goes : (r : Row) (front : List Row) (n : ℕ) (s : Row) (rows : List Row) → n ≡ length front + 1 → RowSound left right front r → Given front → Goes (front ++ r ∷ []) (n + 1) (needed (n + 1) (s ∷ rows)) → Goes front n (needed n (r ∷ s ∷ rows))
  row_goes (Fits i) front n s rows at sound given ih = fits_case (is_sum i.parts && list_any (λ (y : Written). adds n y.parts) (needed (n + 1) (s ∷ rows))) front i n (needed (n + 1) (s ∷ rows)) at refl sound given ih
  row_goes Wide front n s rows at sound given ih = skipped front Wide n (needed (n + 1) (s ∷ rows)) at (λ u same. absurd (cc)) ih
  row_goes Long front n s rows at sound given ih = skipped front Long n (needed (n + 1) (s ∷ rows)) at (λ u same. absurd (cc)) ih

  last_goes : (r : Row) (front : List Row) (n : ℕ) → row_ends r → RowSound left right front r → Given front → Goes front n (needed n (r ∷ []))
  last_goes (Fits i) front n ends sound given m w made is l less has = last_line m made (line_by written i.parts) i.summands (line_made made front n [] i.parts i.summands sound given has (λ k. ends)) ends
  last_goes Wide front n ends sound given m w made is l less has = absurd ends
  last_goes Long front n ends sound given m w made is l less has = absurd ends

  one_on : (front : List Row) (r : Row) (n : ℕ) → n ≡ length front + 1 → n + 1 ≡ length (front ++ r ∷ []) + 1
  one_on front r n e = let l = length-append front (r ∷ []) in omega arith

  goes : (rest front : List Row) (n : ℕ) → n ≡ length front + 1 → Ended rest → Sound left right front rest → Given front → Goes front n (needed n rest)
  goes [] front n at ends sound given = absurd ends
  goes (r ∷ []) front n at ends sound given = last_goes r front n ends sound.0 given
  goes (r ∷ s ∷ rows) front n at ends sound given =
      row_goes r front n s rows at sound.0 given (goes (s ∷ rows) (front ++ r ∷ []) (n + 1) (one_on front r n at) ends sound.1 (given_more front r given sound.0))

-- the lines of such rows are accepted
pub rows_accepted : (left right : List Formula) (rows : List Row) → Sound left right [] rows → Ended rows → lines_fault left right (lines_of rows) ≡ None
rows_accepted left right rows sound ends =
    let r = goes left right (needed 1 rows) rows [] 1 refl ends sound (λ k u e. absurd (cc)) 0 [] [] refl refl tt (λ k u e. absurd (cc)) in
    ap (fault_of (length (lines_of rows))) r.is ∙ ap (λ b. cond b None (Some (fault.NotContradiction (length (lines_of rows))))) r.refutes
