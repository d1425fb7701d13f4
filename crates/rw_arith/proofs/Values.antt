-- The value of polynomials after each step.
use Rattle.std.proofs.Common.{◌≡◌, ℕ, zero, suc, ◌+◌, ◌<◌, ◌≤◌, Bool, true, false, cond, ◌&&◌, leb, ℤ, pos, negsuc, neg_ℤ, ◌+ℤ◌, ◌-ℤ◌, ◌*ℤ◌, List, [], ◌∷◌, ◌++◌, map, take, drop, set, length, Option, Some, None, refl, sym, ◌∙◌, ap, subst, true≢false, arith}
use Rattle.std.specs.List.{list_all, slice_get, slice_set, remove}
use Rattle.std.proofs.lemmas.Int.{ints}
use Rattle.std.proofs.Math.IntN.{zero-*ℤ, *ℤ_comm}
use Rattle.rw_terms.specs.declared.term.Term.{Term}
use Rattle.rw_arith.specs.declared.poly.Summand.{Summand}
use Rattle.rw_arith.specs.declared.poly.Expansion.{Expansion}
use Rattle.rw_arith.specs.declared.poly.Expansion.TheVariants.{Polynomial, Unfit, Wide}
use Rattle.rw_arith.specs.Polynomials.{is_narrow, is_zero, is_one_product, further, place, within_limit, put_by, put_in, times_set, changed_to, joined, added, with_summand, and_then, for_each, sum, is_negatable, negated_summand, negated_polynomial, negated, difference, multiplied, with_product, with_products, product, with_multiple, with_multiples}
use Rattle.rw_arith.specs.Values.{product_value, summand_value, polynomial_value, IfPolynomial}
use Rattle.rw_arith.proofs.Integers.{spreads, spreads_left, negates, groups, crosses, one_times}
use Rattle.rw_arith.proofs.Steps.{times_set_is}
use Rattle.rw_arith.proofs.Multisets.{one_product_law}

pub zero_is : (z : ℤ) → is_zero z ≡ true → z ≡ pos 0
zero_is (pos zero) e = refl
zero_is (pos (suc n)) e = absurd (true≢false (sym e))
zero_is (negsuc n) e = absurd (true≢false (sym e))

-- what holds of a polynomial holds of it within its limit, and of the one of two that is taken
within : (P : List Summand → Type 0) (p : List Summand) (b : Bool) → P p → IfPolynomial (cond b (Polynomial p) Unfit) P
within P p true h = h
within P p false h = tt

unless_wide : (P : List Summand → Type 0) (e : Expansion) (b : Bool) → IfPolynomial e P → IfPolynomial (cond b e Wide) P
unless_wide P e true h = h
unless_wide P e false h = tt

unless_unfit : (P : List Summand → Type 0) (e : Expansion) (b : Bool) → IfPolynomial e P → IfPolynomial (cond b e Unfit) P
unless_unfit P e true h = h
unless_unfit P e false h = tt

pub weaker : (P Q : List Summand → Type 0) (e : Expansion) → ((p : List Summand) → P p → Q p) → IfPolynomial e P → IfPolynomial e Q
weaker P Q (Polynomial p) f h = f p h
weaker P Q Unfit f h = tt
weaker P Q Wide f h = tt

-- where a product was found, with its coefficient
record Found (atoms : List Term) (p : List Summand) (at : ℕ × ℤ) : Type 0 where
  there : Summand
  is_there : slice_get p at.0 ≡ Some there
  times : there.times ≡ at.1
  one : is_one_product there.atoms atoms ≡ true

abbrev FoundIf : List Term → List Summand → Option (ℕ × ℤ) → Type 0
FoundIf atoms p None = Unit {0}
FoundIf atoms p (Some at) = Found atoms p at

get_further : (s : Summand) (p : List Summand) (n : ℕ) → slice_get (s ∷ p) (1 + n) ≡ slice_get p n
get_further s p n = ap (slice_get (s ∷ p)) (one_further n)
  where
    one_further : (n : ℕ) → 1 + n ≡ suc n
    one_further n = omega arith

found_further : (atoms : List Term) (s : Summand) (p : List Summand) (o : Option (ℕ × ℤ)) → FoundIf atoms p o → FoundIf atoms (s ∷ p) (further 1 o)
found_further atoms s p None h = tt
found_further atoms s p (Some at) h = record { there = h.there; is_there = get_further s p at.0 ∙ h.is_there; times = h.times; one = h.one }

found_case : (atoms : List Term) (s : Summand) (p : List Summand) (b : Bool) → is_one_product s.atoms atoms ≡ b → (o : Option (ℕ × ℤ)) → FoundIf atoms p o →
    FoundIf atoms (s ∷ p) (cond b (Some (0, s.times)) (further 1 o))
found_case atoms s p true e o h = record { there = s; is_there = refl; times = refl; one = e }
found_case atoms s p false e o h = found_further atoms s p o h

found : (atoms : List Term) (p : List Summand) → FoundIf atoms p (place atoms p)
found atoms [] = tt
found atoms (s ∷ p) = found_case atoms s p (is_one_product s.atoms atoms) refl (place atoms p) (found atoms p)

module _ (of_atom : Term → ℤ) where
  abbrev val : List Summand → ℤ
  val = polynomial_value of_atom

  abbrev one : Summand → ℤ
  one = summand_value of_atom

  abbrev pv : List Term → ℤ
  pv = product_value of_atom

  third : (x r n : ℤ) → x +ℤ (r +ℤ n) ≡ (x +ℤ r) +ℤ n
  third x r n = omega (arith, ints)

  last_only : (n : ℤ) → n +ℤ pos 0 ≡ pos 0 +ℤ n
  last_only n = omega (arith, ints)

  pushed : (p : List Summand) (s : Summand) → val (p ++ s ∷ []) ≡ val p +ℤ one s
  pushed [] s = last_only (one s)
  pushed (x ∷ p) s = ap (λ z. one x +ℤ z) (pushed p s) ∙ third (one x) (val p) (one s)

  first_last : (a b : ℤ) → a +ℤ b ≡ b +ℤ a
  first_last a b = omega (arith, ints)

  put_value : (atoms : List Term) (p : List Summand) (s : Summand) → val (put_by atoms p s) ≡ val p +ℤ one s
  put_value [] p s = first_last (one s) (val p)
  put_value (t ∷ ts) p s = pushed p s

  no_more : (a z : ℤ) → z ≡ pos 0 → a ≡ a +ℤ z
  no_more a z e = omega (arith, ints)

  none : (s : Summand) → is_zero s.times ≡ true → one s ≡ pos 0
  none s e = ap (λ z. z *ℤ pv s.atoms) (zero_is s.times e) ∙ zero-*ℤ (pv s.atoms)

  put_case : (b : Bool) (p : List Summand) (s : Summand) → is_zero s.times ≡ b → val (cond b p (put_by s.atoms p s)) ≡ val p +ℤ one s
  put_case true p s e = no_more (val p) (one s) (none s e)
  put_case false p s e = put_value s.atoms p s

  set_step : (x r s n : ℤ) (a b : ℤ) → a +ℤ s ≡ b +ℤ n → (x +ℤ a) +ℤ s ≡ (x +ℤ b) +ℤ n
  set_step x r s n a b e = omega (arith, ints)

  set_first : (x s r : ℤ) → (x +ℤ r) +ℤ s ≡ (s +ℤ r) +ℤ x
  set_first x s r = omega (arith, ints)

  same_one : (x s : Summand) → Some x ≡ Some s → one x ≡ one s
  same_one x s e = let same : x ≡ s = cc in ap one same

  set_value : (p : List Summand) (at : ℕ) (s x : Summand) → slice_get p at ≡ Some s → val (slice_set p at x) +ℤ one s ≡ val p +ℤ one x
  set_value [] at s x e = cc
  set_value (y ∷ p) zero s x e = ap (λ z. (one x +ℤ val p) +ℤ z) (sym (same_one y s e)) ∙ set_first (one x) (one y) (val p)
  set_value (y ∷ p) (suc at) s x e = set_step (one y) (pos 0) (one s) (one x) _ _ (set_value p at s x e)

  gone_first : (s r : ℤ) → r +ℤ s ≡ s +ℤ r
  gone_first s r = omega (arith, ints)

  gone_step : (x a s b : ℤ) → a +ℤ s ≡ b → (x +ℤ a) +ℤ s ≡ x +ℤ b
  gone_step x a s b e = omega (arith, ints)

  remove_value : (p : List Summand) (at : ℕ) (s : Summand) → slice_get p at ≡ Some s → val (remove p at) +ℤ one s ≡ val p
  remove_value [] at s e = cc
  remove_value (y ∷ p) zero s e = ap (λ z. val p +ℤ z) (sym (same_one y s e)) ∙ gone_first (one y) (val p)
  remove_value (y ∷ p) (suc at) s e = gone_step (one y) _ (one s) _ (remove_value p at s e)

  -- a coefficient that is the sum of two is worth the sum of both
  both_times : (a : ℤ) (s new : Summand) → s.times ≡ a → is_one_product s.atoms new.atoms ≡ true → (a +ℤ new.times) *ℤ pv s.atoms ≡ one s +ℤ one new
  both_times a s new e h =
      spreads a new.times (pv s.atoms) ∙ (λ i. (sym e i *ℤ pv s.atoms) +ℤ (new.times *ℤ one_product_law of_atom s.atoms new.atoms h i))

  removed : (v s n w : ℤ) → v +ℤ s ≡ w → s +ℤ n ≡ pos 0 → v ≡ w +ℤ n
  removed v s n w e f = omega (arith, ints)

  replaced : (v s n w x : ℤ) → v +ℤ s ≡ w +ℤ x → x ≡ s +ℤ n → v ≡ w +ℤ n
  replaced v s n w x e f = omega (arith, ints)

  changed_case : (b : Bool) (p : List Summand) (at : ℕ) (a : ℤ) (s new : Summand) → is_zero (a +ℤ new.times) ≡ b → slice_get p at ≡ Some s → s.times ≡ a →
      is_one_product s.atoms new.atoms ≡ true → val (cond b (remove p at) (times_set p at (a +ℤ new.times))) ≡ val p +ℤ one new
  changed_case true p at a s new z e t h =
      removed _ (one s) (one new) (val p) (remove_value p at s e)
      (sym (both_times a s new t h) ∙ ap (λ y. y *ℤ pv s.atoms) (zero_is (a +ℤ new.times) z) ∙ zero-*ℤ (pv s.atoms))
  changed_case false p at a s new z e t h =
      ap val (times_set_is p at s (a +ℤ new.times) e)
      ∙ replaced _ (one s) (one new) (val p) _ (set_value p at s (record s { times = a +ℤ new.times }) e) (both_times a s new t h)

  abbrev More : List Summand → ℤ → Expansion → Type 0
  More p n e = IfPolynomial e (λ r. val r ≡ val p +ℤ n)

  added_value : (p : List Summand) (new : Summand) (o : Option (ℕ × ℤ)) → FoundIf new.atoms p o → More p (one new) (added o p new)
  added_value p new None h = within (λ r. val r ≡ val p +ℤ one new) _ _ (put_case (is_zero new.times) p new refl)
  added_value p new (Some at) h =
      unless_wide (λ r. val r ≡ val p +ℤ one new) _ (is_narrow (at.1 +ℤ new.times))
      (within (λ r. val r ≡ val p +ℤ one new) _ _ (changed_case (is_zero (at.1 +ℤ new.times)) p at.0 at.1 h.there new refl h.is_there h.times h.one))

  with_value : (p : List Summand) (new : Summand) → More p (one new) (with_summand p new)
  with_value p new = added_value p new (place new.atoms p) (found new.atoms p)

  -- the sum of what the summands are worth
  abbrev total : (Summand → ℤ) → List Summand → ℤ
  total g [] = pos 0
  total g (s ∷ ss) = g s +ℤ total g ss

  module _ (step : List Summand → Summand → Expansion) (g : Summand → ℤ) (worth : (p : List Summand) (s : Summand) → More p (g s) (step p s)) where
    next : (e : Expansion) (base : ℤ) (s : Summand) → IfPolynomial e (λ p. val p ≡ base) → IfPolynomial (and_then e (λ p. step p s)) (λ p. val p ≡ base +ℤ g s)
    next (Polynomial p) base s h = weaker _ _ (step p s) (λ r k. k ∙ ap (λ z. z +ℤ g s) h) (worth p s)
    next Unfit base s h = tt
    next Wide base s h = tt

    at_end : (a z : ℤ) → z ≡ pos 0 → a ≡ a +ℤ z
    at_end a z e = omega (arith, ints)

    regroup : (b x y : ℤ) → (b +ℤ x) +ℤ y ≡ b +ℤ (x +ℤ y)
    regroup b x y = omega (arith, ints)

    each_value : (ss : List Summand) (e : Expansion) (base : ℤ) → IfPolynomial e (λ p. val p ≡ base) → IfPolynomial (for_each step ss e) (λ p. val p ≡ base +ℤ total g ss)
    each_value [] e base h = weaker _ _ e (λ p k. k ∙ at_end base (pos 0) refl) h
    each_value (s ∷ ss) e base h =
        weaker _ _ (for_each step ss (and_then e (λ p. step p s))) (λ p k. k ∙ regroup base (g s) (total g ss)) (each_value ss (and_then e (λ p. step p s)) (base +ℤ g s) (next e base s h))

  total_one : (q : List Summand) → total one q ≡ val q
  total_one [] = refl
  total_one (s ∷ q) = ap (λ z. one s +ℤ z) (total_one q)

  -- a sum is worth the sum of both
  pub sum_value : (a b : Expansion) (x y : ℤ) → IfPolynomial a (λ p. val p ≡ x) → IfPolynomial b (λ p. val p ≡ y) → IfPolynomial (sum a b) (λ p. val p ≡ x +ℤ y)
  sum_value (Polynomial p) (Polynomial q) x y h k =
      weaker _ _ (for_each with_summand q (Polynomial p)) (λ r e. e ∙ (λ i. h i +ℤ (total_one q ∙ k) i)) (each_value with_summand one with_value q (Polynomial p) (val p) refl)
  sum_value (Polynomial p) Unfit x y h k = tt
  sum_value (Polynomial p) Wide x y h k = tt
  sum_value Unfit b x y h k = tt
  sum_value Wide b x y h k = tt

  negated_sum : (a b : ℤ) → neg_ℤ a +ℤ neg_ℤ b ≡ neg_ℤ (a +ℤ b)
  negated_sum a b = omega (arith, ints)

  map_value : (p : List Summand) → val (map negated_summand p) ≡ neg_ℤ (val p)
  map_value [] = refl
  map_value (s ∷ p) = (λ i. negates s.times (pv s.atoms) i +ℤ map_value p i) ∙ negated_sum (one s) (val p)

  pub negated_value : (a : Expansion) (x : ℤ) → IfPolynomial a (λ p. val p ≡ x) → IfPolynomial (negated a) (λ p. val p ≡ neg_ℤ x)
  negated_value (Polynomial p) x h = unless_wide (λ r. val r ≡ neg_ℤ x) (Polynomial (map negated_summand p)) (list_all is_negatable p) (map_value p ∙ ap neg_ℤ h)
  negated_value Unfit x h = tt
  negated_value Wide x h = tt

  pub difference_value : (a b : Expansion) (x y : ℤ) → IfPolynomial a (λ p. val p ≡ x) → IfPolynomial b (λ p. val p ≡ y) → IfPolynomial (difference a b) (λ p. val p ≡ x -ℤ y)
  difference_value a b x y h k = sum_value a (negated b) x (neg_ℤ y) h (negated_value b y k)

  atoms_of_both : (ts us : List Term) → pv (ts ++ us) ≡ pv ts *ℤ pv us
  atoms_of_both [] us = sym (one_times (pv us))
  atoms_of_both (t ∷ ts) us = ap (λ z. of_atom t *ℤ z) (atoms_of_both ts us) ∙ sym (groups (of_atom t) (pv ts) (pv us))

  multiplied_value : (l r : Summand) → one (multiplied l r) ≡ one l *ℤ one r
  multiplied_value l r = ap (λ z. (l.times *ℤ r.times) *ℤ z) (atoms_of_both l.atoms r.atoms) ∙ crosses l.times r.times (pv l.atoms) (pv r.atoms)

  one_more_product : (l : Summand) (p : List Summand) (r : Summand) → More p (one l *ℤ one r) (with_product l p r)
  one_more_product l p r =
      unless_unfit (λ q. val q ≡ val p +ℤ (one l *ℤ one r)) _ (leb (length l.atoms + length r.atoms) 16)
      (unless_wide (λ q. val q ≡ val p +ℤ (one l *ℤ one r)) _ (is_narrow (l.times *ℤ r.times))
      (weaker _ _ (with_summand p (multiplied l r)) (λ q e. e ∙ ap (λ z. val p +ℤ z) (multiplied_value l r)) (with_value p (multiplied l r))))

  total_times : (a : ℤ) (q : List Summand) → total (λ r. a *ℤ one r) q ≡ a *ℤ val q
  total_times a [] = sym (*ℤ_comm a (pos 0) ∙ zero-*ℤ a)
  total_times a (s ∷ q) = ap (λ z. (a *ℤ one s) +ℤ z) (total_times a q) ∙ sym (spreads_left a (one s) (val q))

  one_more_row : (q p : List Summand) (l : Summand) → More p (one l *ℤ val q) (with_products q p l)
  one_more_row q p l =
      weaker _ _ (with_products q p l) (λ r e. e ∙ ap (λ z. val p +ℤ z) (total_times (one l) q))
      (each_value (with_product l) (λ r. one l *ℤ one r) (one_more_product l) q (Polynomial p) (val p) refl)

  total_rows : (b : ℤ) (p : List Summand) → total (λ l. one l *ℤ b) p ≡ val p *ℤ b
  total_rows b [] = sym (zero-*ℤ b)
  total_rows b (s ∷ p) = ap (λ z. (one s *ℤ b) +ℤ z) (total_rows b p) ∙ sym (spreads (one s) (val p) b)

  from_none : (z : ℤ) → pos 0 +ℤ z ≡ z
  from_none z = omega (arith, ints)

  pub product_value_is : (a b : Expansion) (x y : ℤ) → IfPolynomial a (λ p. val p ≡ x) → IfPolynomial b (λ p. val p ≡ y) → IfPolynomial (product a b) (λ p. val p ≡ x *ℤ y)
  product_value_is (Polynomial p) (Polynomial q) x y h k =
      weaker _ _ (for_each (with_products q) p (Polynomial [])) (λ r e. e ∙ from_none (total (λ l. one l *ℤ val q) p) ∙ total_rows (val q) p ∙ (λ i. h i *ℤ k i))
      (each_value (with_products q) (λ l. one l *ℤ val q) (one_more_row q) p (Polynomial []) (pos 0) refl)
  product_value_is (Polynomial p) Unfit x y h k = tt
  product_value_is (Polynomial p) Wide x y h k = tt
  product_value_is Unfit b x y h k = tt
  product_value_is Wide b x y h k = tt

  multiple_value : (m : ℤ) (s : Summand) → (s.times *ℤ m) *ℤ pv s.atoms ≡ m *ℤ one s
  multiple_value m s = ap (λ z. z *ℤ pv s.atoms) (*ℤ_comm s.times m) ∙ groups m s.times (pv s.atoms)

  one_more_multiple : (m : ℤ) (p : List Summand) (s : Summand) → More p (m *ℤ one s) (with_multiple m p s)
  one_more_multiple m p s =
      unless_wide (λ q. val q ≡ val p +ℤ (m *ℤ one s)) _ (is_narrow (s.times *ℤ m))
      (weaker _ _ (with_summand p (record s { times = s.times *ℤ m })) (λ q e. e ∙ ap (λ z. val p +ℤ z) (multiple_value m s)) (with_value p (record s { times = s.times *ℤ m })))

  -- multiples added are worth the multiple of the polynomial
  pub multiples_value : (m : ℤ) (q : List Summand) (e : Expansion) (x : ℤ) → IfPolynomial e (λ p. val p ≡ x) → IfPolynomial (with_multiples m q e) (λ p. val p ≡ x +ℤ (m *ℤ val q))
  multiples_value m q e x h =
      weaker _ _ (with_multiples m q e) (λ p k. k ∙ ap (λ z. x +ℤ z) (total_times m q)) (each_value (with_multiple m) (λ s. m *ℤ one s) (one_more_multiple m) q e x h)
