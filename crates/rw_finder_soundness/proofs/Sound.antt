-- Each row is what arithmetic lines make of its parts.
use Rattle.std.proofs.Common.{◌≡◌, ℕ, zero, suc, ◌+◌, ◌<◌, ◌≤◌, nat_lt, nat_eq, Bool, true, false, cond, ◌&&◌, ℤ, pos, negsuc, neg_ℤ, List, [], ◌∷◌, ◌++◌, map, length, Option, Some, None, refl, sym, ap, ◌∙◌, subst, add-one, true≢false, arith}
use Rattle.std.specs.List.{slice_get, list_all, flat_map}
use Rattle.std.specs.Option.{option_to_list}
use Rattle.std.proofs.lemmas.Bool.{and_parts}
use Rattle.std.proofs.lemmas.List.{append-nil, append_assoc, length-append}
use Rattle.rw_terms.specs.declared.term.Term.{Term}
use Rattle.rw_terms.specs.declared.term.Formula.{Formula}
use Rattle.rw_terms.specs.Validity.{Each}
use Rattle.rw_arith.specs.declared.line.Ref.{Ref}
use Rattle.rw_arith.specs.declared.line.Ref.TheVariants.{Left, Right, Line}
use Rattle.rw_arith.specs.declared.line.Part.{Part}
use Rattle.rw_arith.specs.declared.poly.Summand.{Summand}
use Rattle.rw_arith.specs.declared.poly.Expansion.{Expansion}
use Rattle.rw_arith.specs.declared.poly.Expansion.TheVariants as x
use Rattle.rw_arith.specs.Polynomials.{is_narrow, negated, negated_summand, with_multiples}
use Rattle.rw_arith.specs.Given.{is_non_negative, given_by_left, given_by_right}
use Rattle.rw_arith.specs.Lines.{is_positive, is_negative}
use Rattle.rw_elimination.specs.declared.hypotheses.Hypothesis.{Hypothesis}
use Rattle.rw_elimination.specs.declared.row.Parts.{Parts}
use Rattle.rw_elimination.specs.declared.row.Parts.TheVariants.{One, Two}
use Rattle.rw_elimination.specs.declared.row.Lead.{Lead}
use Rattle.rw_elimination.specs.declared.row.Inequality.{Inequality}
use Rattle.rw_elimination.specs.declared.row.Row.{Row}
use Rattle.rw_elimination.specs.declared.row.Row.TheVariants.{Wide, Long, Fits}
use Rattle.rw_elimination.specs.Hypotheses.{is_linear, is_equation, number_at, used_if, used_by, used_left, used_right, used}
use Rattle.rw_elimination.specs.Rows.{row_of, multiples_fit, fitting, given_row, given_rows, all_given, sum_fits, summed, named, paired}
use Rattle.rw_elimination.specs.Elimination.{lead_by, pair_inequalities, pair, pairs_with, pairs_from, with_pairs, after_atoms, eliminated}
use Rattle.rw_finder_soundness.proofs.Opposites.{negated_is}
use Rattle.rw_finder_soundness.proofs.Backed.{Gives, Backs, backs_once, backs_opposite, left_gives, right_gives}

pub each_append : {X : Type 0} (P : X → Type 0) (xs ys : List X) → Each P xs → Each P ys → Each P (xs ++ ys)
each_append P [] ys h k = k
each_append P (x ∷ xs) ys h k = (h.0, each_append P xs ys h.1 k)

pub get_front : {X : Type 0} (xs ys : List X) (n : ℕ) (x : X) → slice_get xs n ≡ Some x → slice_get (xs ++ ys) n ≡ Some x
get_front [] ys n x e = absurd (cc)
get_front (z ∷ xs) ys zero x e = e
get_front (z ∷ xs) ys (suc n) x e = get_front xs ys n x e

pub get_within : {X : Type 0} (xs : List X) (n : ℕ) (x : X) → slice_get xs n ≡ Some x → n < length xs
get_within [] n x e = absurd (cc)
get_within (z ∷ xs) zero x e = omega arith
get_within (z ∷ xs) (suc n) x e = let k = get_within xs n x e in omega arith

pub get_middle : {X : Type 0} (front rest : List X) (x : X) → slice_get (front ++ x ∷ rest) (length front) ≡ Some x
get_middle [] rest x = refl
get_middle (z ∷ front) rest x = get_middle front rest x

module _ (left right : List Formula) where
  -- a sum of multiples of two of these rows
  pub record Adds (rows : List Row) (first second : Part) (p : List Summand) : Type 0 where
    pub k : ℕ
    pub n : ℕ
    pub u : Inequality
    pub v : Inequality
    pub d : ℤ
    pub c : ℤ
    pub u_is : slice_get rows k ≡ Some (Fits u)
    pub v_is : slice_get rows n ≡ Some (Fits v)
    pub d_least : is_non_negative d ≡ true
    pub c_least : is_non_negative c ≡ true
    pub first_is : first ≡ named d (k + 1) u.parts
    pub second_is : second ≡ named c (n + 1) v.parts
    pub sum_is : with_multiples c v.summands (with_multiples d u.summands (x.Polynomial [])) ≡ x.Polynomial p

  -- a row made of those before it
  abbrev pub PartsSound : List Row → Parts → List Summand → Type 0
  PartsSound before (One part) p = Backs left right part p × (multiples_fit (pos 1) p ≡ true)
  PartsSound before (Two first second) p = Adds before first second p

  abbrev pub RowSound : List Row → Row → Type 0
  RowSound before Wide = Unit {0}
  RowSound before Long = Unit {0}
  RowSound before (Fits i) = PartsSound before i.parts i.summands

  more_parts : (before more : List Row) (parts : Parts) (p : List Summand) → PartsSound before parts p → PartsSound (before ++ more) parts p
  more_parts before more (One part) p h = h
  more_parts before more (Two first second) p h = record {
    k = h.k;
    n = h.n;
    u = h.u;
    v = h.v;
    d = h.d;
    c = h.c;
    u_is = get_front before more h.k (Fits h.u) h.u_is;
    v_is = get_front before more h.n (Fits h.v) h.v_is;
    d_least = h.d_least;
    c_least = h.c_least;
    first_is = h.first_is;
    second_is = h.second_is;
    sum_is = h.sum_is;
  }

  more_row : (before more : List Row) (r : Row) → RowSound before r → RowSound (before ++ more) r
  more_row before more Wide h = tt
  more_row before more Long h = tt
  more_row before more (Fits i) h = more_parts before more i.parts i.summands h

  -- each row behind others is made of those before it
  abbrev pub Sound : List Row → List Row → Type 0
  Sound before [] = Unit {0}
  Sound before (r ∷ rows) = RowSound before r × Sound (before ++ r ∷ []) rows

  sound_append : (before xs ys : List Row) → Sound before xs → Sound (before ++ xs) ys → Sound before (xs ++ ys)
  sound_append before [] ys h k = subst (λ b. Sound b ys) (append-nil before) k
  sound_append before (r ∷ xs) ys h k = (h.0, sound_append (before ++ r ∷ []) xs ys h.1 (subst (λ b. Sound b ys) (sym (append_assoc before (r ∷ []) xs)) k))

  -- rows each of which is made of the first ones alone
  sound_each : (first before rows : List Row) (more : List Row) → before ≡ first ++ more → Each (RowSound first) rows → Sound before rows
  sound_each first before [] more is h = tt
  sound_each first before (r ∷ rows) more is h = (
    subst (λ b. RowSound b r) (sym is) (more_row first more r h.0),
    sound_each first (before ++ r ∷ []) rows (more ++ r ∷ []) (ap (λ b. b ++ r ∷ []) is ∙ append_assoc first more (r ∷ [])) h.1,
  )

  given_case : (atoms : List Term) (h : Hypothesis) (part : Part) (b : Bool) (p : List Summand) → multiples_fit (pos 1) p ≡ b → Backs left right part p → (before : List Row) →
      RowSound before (row_of atoms (One part) (cond b (x.Polynomial p) x.Wide))
  given_case atoms h part true p e k before = (k, e)
  given_case atoms h part false p e k before = tt

  opposite_case : (atoms : List Term) (h : Hypothesis) → Gives left right h → h.is_equation ≡ true → (y : Expansion) → negated (x.Polynomial h.summands) ≡ y → (before : List Row) →
      RowSound before (given_row atoms h (negsuc 0) y)
  opposite_case atoms h g e (x.Polynomial q) is before = given_case atoms h _ (multiples_fit (pos 1) q) q refl (backs_opposite left right h g e q (negated_is h.summands q is)) before
  opposite_case atoms h g e x.Unfit is before = tt
  opposite_case atoms h g e x.Wide is before = tt

  equation_case : (atoms : List Term) (h : Hypothesis) → Gives left right h → (b : Bool) → h.is_equation ≡ b → (before : List Row) →
      Sound before (cond b (given_row atoms h (negsuc 0) (negated (x.Polynomial h.summands)) ∷ []) [])
  equation_case atoms h g true e before = (opposite_case atoms h g e (negated (x.Polynomial h.summands)) refl before, tt)
  equation_case atoms h g false e before = tt

  given_sound : (atoms : List Term) (hs : List Hypothesis) → Each (Gives left right) hs → (before : List Row) → Sound before (all_given atoms hs)
  given_sound atoms [] h before = tt
  given_sound atoms (y ∷ hs) h before =
      sound_append before (given_rows atoms y) (all_given atoms hs)
      (given_case atoms y _ (multiples_fit (pos 1) y.summands) y.summands refl (backs_once left right y h.0) before, equation_case atoms y h.0 y.is_equation refl (before ++ given_row atoms y (pos 1) (x.Polynomial y.summands) ∷ []))
      (given_sound atoms hs h.1 (before ++ given_rows atoms y))

  used_case : (h : Hypothesis) (b : Bool) → Gives left right h → Each (Gives left right) (cond b (h ∷ []) [])
  used_case h true g = (g, tt)
  used_case h false g = tt

  left_case : (f : Formula) (n : ℕ) (y : Expansion) → slice_get left n ≡ Some f → given_by_left f ≡ y → Each (Gives left right) (used_if (Left (n + 1)) f y)
  left_case f n (x.Polynomial p) there e = used_case _ (is_linear p) (left_gives left right f n p there e)
  left_case f n x.Unfit there e = tt
  left_case f n x.Wide there e = tt

  right_case : (f : Formula) (n : ℕ) (y : Expansion) → slice_get right n ≡ Some f → given_by_right f ≡ y → Each (Gives left right) (used_if (Right (n + 1)) f y)
  right_case f n (x.Polynomial p) there e = used_case _ (is_linear p) (right_gives left right f n p there e)
  right_case f n x.Unfit there e = tt
  right_case f n x.Wide there e = tt

  left_named : (f : Formula) (n : ℕ) (b : Bool) → slice_get left n ≡ Some f → Each (Gives left right) (used_by Left (cond b (Some (n + 1)) None) f (given_by_left f))
  left_named f n true there = left_case f n (given_by_left f) there refl
  left_named f n false there = tt

  right_named : (f : Formula) (n : ℕ) (b : Bool) → slice_get right n ≡ Some f → Each (Gives left right) (used_by Right (cond b (Some (n + 1)) None) f (given_by_right f))
  right_named f n true there = right_case f n (given_by_right f) there refl
  right_named f n false there = tt

  one_on : {X : Type 0} (front : List X) (y : X) (n : ℕ) → n ≡ length front → n + 1 ≡ length (front ++ y ∷ [])
  one_on front y n e = let l = length-append front (y ∷ []) in omega arith

  left_used : (fs front : List Formula) (n : ℕ) → left ≡ front ++ fs → n ≡ length front → Each (Gives left right) (used_left n fs)
  left_used [] front n is l = tt
  left_used (f ∷ fs) front n is l =
      each_append (Gives left right) (used_by Left (number_at n) f (given_by_left f)) (used_left (n + 1) fs)
      (left_named f n (nat_lt n 4294967295) ((λ i. slice_get (is i) (l i)) ∙ get_middle front fs f))
      (left_used fs (front ++ f ∷ []) (n + 1) (is ∙ sym (append_assoc front (f ∷ []) fs)) (one_on front f n l))

  right_used : (fs front : List Formula) (n : ℕ) → right ≡ front ++ fs → n ≡ length front → Each (Gives left right) (used_right n fs)
  right_used [] front n is l = tt
  right_used (f ∷ fs) front n is l =
      each_append (Gives left right) (used_by Right (number_at n) f (given_by_right f)) (used_right (n + 1) fs)
      (right_named f n (nat_lt n 4294967295) ((λ i. slice_get (is i) (l i)) ∙ get_middle front fs f))
      (right_used fs (front ++ f ∷ []) (n + 1) (is ∙ sym (append_assoc front (f ∷ []) fs)) (one_on front f n l))

  pub used_gives : Each (Gives left right) (used left right)
  used_gives = each_append (Gives left right) (used_left 0 left) (used_right 0 right) (left_used left [] 0 refl refl) (right_used right [] 0 refl refl)

  positive_least : (z : ℤ) → is_positive z ≡ true → is_non_negative z ≡ true
  positive_least (pos n) e = refl
  positive_least (negsuc n) e = absurd (true≢false (sym e))

  negative_least : (z : ℤ) → is_negative z ≡ true → is_non_negative (neg_ℤ z) ≡ true
  negative_least (pos n) e = absurd (true≢false (sym e))
  negative_least (negsuc n) e = refl

  module _ (atoms : List Term) (at : ℕ) (all : List Row) where
    sum_case : (k n : ℕ) (u v : Inequality) (d c : ℤ) → slice_get all k ≡ Some (Fits u) → slice_get all n ≡ Some (Fits v) → is_non_negative d ≡ true → is_non_negative c ≡ true →
        (y : Expansion) → with_multiples c v.summands (with_multiples d u.summands (x.Polynomial [])) ≡ y → RowSound all (row_of atoms (Two (named d (k + 1) u.parts) (named c (n + 1) v.parts)) y)
    sum_case k n u v d c u_is v_is d_least c_least (x.Polynomial p) e =
        record { k = k; n = n; u = u; v = v; d = d; c = c; u_is = u_is; v_is = v_is; d_least = d_least; c_least = c_least; first_is = refl; second_is = refl; sum_is = e }
    sum_case k n u v d c u_is v_is d_least c_least x.Unfit e = tt
    sum_case k n u v d c u_is v_is d_least c_least x.Wide e = tt

    fits_case : (b : Bool) (k n : ℕ) (u v : Inequality) (d c : ℤ) → slice_get all k ≡ Some (Fits u) → slice_get all n ≡ Some (Fits v) → is_non_negative d ≡ true → is_non_negative c ≡ true →
        RowSound all (row_of atoms (Two (named d (k + 1) u.parts) (named c (n + 1) v.parts)) (cond b (with_multiples c v.summands (with_multiples d u.summands (x.Polynomial []))) x.Wide))
    fits_case true k n u v d c u_is v_is d_least c_least = sum_case k n u v d c u_is v_is d_least c_least (with_multiples c v.summands (with_multiples d u.summands (x.Polynomial []))) refl
    fits_case false k n u v d c u_is v_is d_least c_least = tt

    narrow_case : (b : Bool) (k n : ℕ) (u v : Inequality) (less c : ℤ) → slice_get all k ≡ Some (Fits u) → slice_get all n ≡ Some (Fits v) → is_negative less ≡ true → is_positive c ≡ true →
        RowSound all (cond b (row_of atoms (Two (named (neg_ℤ less) (k + 1) u.parts) (named c (n + 1) v.parts)) (summed (neg_ℤ less) u.summands c v.summands)) Wide)
    narrow_case true k n u v less c u_is v_is d_least c_least =
        fits_case (multiples_fit (neg_ℤ less) u.summands && list_all (sum_fits (neg_ℤ less) u.summands c) v.summands) k n u v (neg_ℤ less) c u_is v_is (negative_least less d_least) (positive_least c c_least)
    narrow_case false k n u v less c u_is v_is d_least c_least = tt

    lead_case : (b : Bool) (k n : ℕ) (u v : Inequality) → (is_positive (lead_by at u.lead) && is_negative (lead_by at v.lead)) ≡ b → slice_get all k ≡ Some (Fits u) → slice_get all n ≡ Some (Fits v) →
        Each (RowSound all) (option_to_list (cond b (Some (paired atoms (k + 1) u (lead_by at u.lead) (n + 1) v (lead_by at v.lead))) None))
    lead_case true k n u v e u_is v_is =
        let parts = and_parts (is_positive (lead_by at u.lead)) _ e in
        (narrow_case (is_narrow (neg_ℤ (lead_by at v.lead))) k n u v (lead_by at v.lead) (lead_by at u.lead) u_is v_is parts.1 parts.0, tt)
    lead_case false k n u v e u_is v_is = tt

    pair_sound : (k n : ℕ) (r s : Row) → slice_get all k ≡ Some r → slice_get all n ≡ Some s → Each (RowSound all) (option_to_list (pair atoms at (k + 1) r (n + 1) s))
    pair_sound k n (Fits u) (Fits v) u_is v_is = lead_case (is_positive (lead_by at u.lead) && is_negative (lead_by at v.lead)) k n u v refl u_is v_is
    pair_sound k n (Fits u) Wide u_is v_is = tt
    pair_sound k n (Fits u) Long u_is v_is = tt
    pair_sound k n Wide s u_is v_is = tt
    pair_sound k n Long s u_is v_is = tt

    with_sound : (k : ℕ) (r : Row) → slice_get all k ≡ Some r → (rows front : List Row) (n : ℕ) → all ≡ front ++ rows → n ≡ length front → Each (RowSound all) (pairs_with atoms at (k + 1) r (n + 1) rows)
    with_sound k r r_is [] front n is l = tt
    with_sound k r r_is (s ∷ rows) front n is l =
        each_append (RowSound all) (option_to_list (pair atoms at (k + 1) r (n + 1) s)) (pairs_with atoms at (k + 1) r (n + 1 + 1) rows)
        (pair_sound k n r s r_is ((λ i. slice_get (is i) (l i)) ∙ get_middle front rows s))
        (with_sound k r r_is rows (front ++ s ∷ []) (n + 1) (is ∙ sym (append_assoc front (s ∷ []) rows)) (one_on front s n l))

    from_sound : (rows front : List Row) (k : ℕ) → all ≡ front ++ rows → k ≡ length front → Each (RowSound all) (pairs_from atoms at all (k + 1) rows)
    from_sound [] front k is l = tt
    from_sound (r ∷ rows) front k is l =
        each_append (RowSound all) (pairs_with atoms at (k + 1) r 1 all) (pairs_from atoms at all (k + 1 + 1) rows)
        (with_sound k r ((λ i. slice_get (is i) (l i)) ∙ get_middle front rows r) all [] 0 refl refl)
        (from_sound rows (front ++ r ∷ []) (k + 1) (is ∙ sym (append_assoc front (r ∷ []) rows)) (one_on front r k l))

  after_sound : (atoms : List Term) (given : List Row) → Sound [] given → (n : ℕ) → Sound [] (after_atoms atoms n given)
  after_sound atoms given h zero = h
  after_sound atoms given h (suc n) =
      let rows = after_atoms atoms n given in
      sound_append [] rows (pairs_from atoms n rows 1 rows) (after_sound atoms given h n)
      (sound_each rows rows (pairs_from atoms n rows 1 rows) [] (sym (append-nil rows)) (from_sound atoms n rows rows [] 0 refl refl))

  pub all_sound : (atoms : List Term) → Sound [] (eliminated atoms (used left right))
  all_sound atoms = after_sound atoms (all_given atoms (used left right)) (given_sound atoms (used left right) used_gives []) (length atoms)
