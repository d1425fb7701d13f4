-- The order of fractions by their whole parts and rests.
use Rattle.std.proofs.Common.{◌≡◌, ℕ, zero, suc, ◌+◌, ◌-◌, ◌%◌, ◌*◌, ◌<◌, ◌≤◌, true, false, ℤ, pos, negsuc, ◌+ℤ◌, ◌-ℤ◌, ◌*ℤ◌, ◌≤ℤ◌, ◌<ℤ◌, int_lt, refl, sym, ap, ◌∙◌, subst, arith}
use Rattle.std.specs.Int.{int_div_euclid, int_rem_euclid}
use Rattle.std.proofs.lemmas.Int.{ints}
use Rattle.rw_arith.proofs.Integers.{spreads, groups, swaps}

times_comm : (m n : ℕ) → m * n ≡ n * m
times_comm m n = grind arith

room : (r b d : ℕ) → r < b → r * d + d ≤ b * d
room r b d h = grind arith

below : (x y : ℤ) → x <ℤ y → true ≡ int_lt x y
below x y h = grind (arith, ints)

not_below : (x y : ℤ) → y ≤ℤ x → false ≡ int_lt x y
not_below x y h = grind (arith, ints)

less_is : (x y : ℤ) → int_lt x y ≡ true → x <ℤ y
less_is x y e = grind (arith, ints)

same_is : (x y : ℤ) → int_lt x y ≡ false → int_lt y x ≡ false → x ≡ y
same_is x y e f = let h : y ≤ℤ x = grind (arith, ints) in let k : x ≤ℤ y = grind (arith, ints) in omega (arith, ints)

-- whole parts and rests: b * q + r over b, and d * s + t over d
module _ (b d r t : ℕ) (q s : ℤ) (r_in : r < b) (t_in : t < d) where
  abbrev one : ℤ
  one = ((pos b *ℤ q) +ℤ pos r) *ℤ pos d

  abbrev other : ℤ
  other = ((pos d *ℤ s) +ℤ pos t) *ℤ pos b

  one_is : one ≡ (q *ℤ pos (b * d)) +ℤ pos (r * d)
  one_is = spreads (pos b *ℤ q) (pos r) (pos d) ∙ ap (λ z. z +ℤ pos (r * d)) (groups (pos b) q (pos d) ∙ swaps (pos b) q (pos d))

  other_is : other ≡ (s *ℤ pos (b * d)) +ℤ pos (t * b)
  other_is =
      spreads (pos d *ℤ s) (pos t) (pos b) ∙ ap (λ z. z +ℤ pos (t * b)) (groups (pos d) s (pos b) ∙ swaps (pos d) s (pos b) ∙ ap (λ n. s *ℤ pos n) (times_comm d b))

  further : (x y : ℤ) (z : ℤ) → z ≡ y -ℤ x → x <ℤ y → (p : ℕ) → ((x *ℤ pos p) +ℤ pos p) ≤ℤ (y *ℤ pos p)
  further x y (pos zero) e h p = absurd (omega (arith, ints))
  further x y (negsuc k) e h p = absurd (omega (arith, ints))
  further x y (pos (suc k)) e h p =
      let is : y ≡ x +ℤ pos (suc k) = omega (arith, ints) in
      let whole = ap (λ z. z *ℤ pos p) is ∙ spreads x (pos (suc k)) (pos p) in
      let more : p ≤ suc k * p = grind arith in
      subst (λ z. ((x *ℤ pos p) +ℤ pos p) ≤ℤ z) (sym whole) (omega (arith, ints))

  -- the lower whole part decides
  pub by_whole : q <ℤ s → true ≡ int_lt one other
  by_whole h =
      let f = further q s (s -ℤ q) refl h (b * d) in
      let l = room r b d r_in in
      let k : ((q *ℤ pos (b * d)) +ℤ pos (r * d)) <ℤ ((s *ℤ pos (b * d)) +ℤ pos (t * b)) = omega (arith, ints) in
      below _ _ k ∙ (λ i. int_lt (sym one_is i) (sym other_is i))

  pub by_other_whole : s <ℤ q → false ≡ int_lt one other
  by_other_whole h =
      let f = further s q (q -ℤ s) refl h (b * d) in
      let l = room t d b t_in in
      let same = times_comm d b in
      let k : ((s *ℤ pos (b * d)) +ℤ pos (t * b)) ≤ℤ ((q *ℤ pos (b * d)) +ℤ pos (r * d)) = omega (arith, ints) in
      not_below _ _ k ∙ (λ i. int_lt (sym one_is i) (sym other_is i))

  shifted : (x y z : ℤ) → int_lt (x +ℤ y) (x +ℤ z) ≡ int_lt y z
  shifted x y z = grind (arith, ints)

  -- with the same whole part the rests decide, upside down
  pub by_rest : q ≡ s → int_lt (pos d *ℤ pos r) (pos b *ℤ pos t) ≡ int_lt one other
  by_rest e =
      (λ i. int_lt (pos (times_comm d r i)) (pos (times_comm b t i))) ∙ sym (shifted (q *ℤ pos (b * d)) (pos (r * d)) (pos (t * b)))
      ∙ (λ i. int_lt (sym one_is i) ((ap (λ z. (z *ℤ pos (b * d)) +ℤ pos (t * b)) e ∙ sym other_is) i))

some_there : (r : ℕ) → (pos r ≡ pos 0 → ⊥) → 0 < r
some_there zero h = absurd (h refl)
some_there (suc r) h = omega arith

-- a number over a positive one
record Split (a b : ℤ) : Type 0 where
  n : ℕ
  r : ℕ
  b_is : b ≡ pos n
  r_is : int_rem_euclid a b ≡ pos r
  r_in : r < n
  a_is : a ≡ (pos n *ℤ int_div_euclid a b) +ℤ pos r

split : (a b : ℤ) → pos 0 <ℤ b → Split a b
split a (pos zero) h = absurd (omega (arith, ints))
split a (negsuc n) h = absurd (omega (arith, ints))
split (pos m) (pos (suc n)) h = let p : 0 < suc n = omega arith in record { n = suc n; r = m % suc n; b_is = refl; r_is = refl; r_in = omega arith; a_is = omega (arith, ints) }
split (negsuc m) (pos (suc n)) h = let p : 0 < suc n = omega arith in record { n = suc n; r = suc n - 1 - m % suc n; b_is = refl; r_is = refl; r_in = omega arith; a_is = omega (arith, ints) }

none_less : (n r m : ℕ) → false ≡ int_lt (pos n *ℤ pos r) (pos m *ℤ pos 0)
none_less n r m = let z : m * 0 ≤ n * r = grind arith in not_below (pos (n * r)) (pos (m * 0)) (omega (arith, ints))

some_less : (n m t : ℕ) → 0 < m → 0 < t → true ≡ int_lt (pos n *ℤ pos 0) (pos m *ℤ pos t)
some_less n zero t h k = absurd (omega arith)
some_less n (suc m) zero h k = absurd (omega arith)
some_less n (suc m) (suc t) h k = let z : n * 0 < suc m * suc t = grind arith in below (pos (n * 0)) (pos (suc m * suc t)) (omega (arith, ints))

module _ (a b c d : ℤ) (b_in : pos 0 <ℤ b) (d_in : pos 0 <ℤ d) where
  abbrev x : Split a b
  x = split a b b_in

  abbrev y : Split c d
  y = split c d d_in

  same : int_lt (((pos x.n *ℤ int_div_euclid a b) +ℤ pos x.r) *ℤ pos y.n) (((pos y.n *ℤ int_div_euclid c d) +ℤ pos y.r) *ℤ pos x.n) ≡ int_lt (a *ℤ d) (c *ℤ b)
  same = (λ i. int_lt (sym x.a_is i *ℤ sym y.b_is i) (sym y.a_is i *ℤ sym x.b_is i))

  pub whole_less : int_div_euclid a b <ℤ int_div_euclid c d → true ≡ int_lt (a *ℤ d) (c *ℤ b)
  whole_less h = by_whole x.n y.n x.r y.r (int_div_euclid a b) (int_div_euclid c d) x.r_in y.r_in h ∙ same

  pub whole_more : int_div_euclid c d <ℤ int_div_euclid a b → false ≡ int_lt (a *ℤ d) (c *ℤ b)
  whole_more h = by_other_whole x.n y.n x.r y.r (int_div_euclid a b) (int_div_euclid c d) x.r_in y.r_in h ∙ same

  module _ (e : int_div_euclid a b ≡ int_div_euclid c d) where
    pub rest_less : int_lt (d *ℤ int_rem_euclid a b) (b *ℤ int_rem_euclid c d) ≡ int_lt (a *ℤ d) (c *ℤ b)
    rest_less = (λ i. int_lt (y.b_is i *ℤ x.r_is i) (x.b_is i *ℤ y.r_is i)) ∙ by_rest x.n y.n x.r y.r (int_div_euclid a b) (int_div_euclid c d) x.r_in y.r_in e ∙ same

    pub none_other : int_rem_euclid c d ≡ pos 0 → false ≡ int_lt (a *ℤ d) (c *ℤ b)
    none_other k = none_less y.n x.r x.n ∙ (λ i. int_lt (sym y.b_is i *ℤ sym x.r_is i) (sym x.b_is i *ℤ sym k i)) ∙ rest_less

    pub none_one : int_rem_euclid a b ≡ pos 0 → (int_rem_euclid c d ≡ pos 0 → ⊥) → true ≡ int_lt (a *ℤ d) (c *ℤ b)
    none_one k h =
        let in_x = x.r_in in
        some_less y.n x.n y.r (omega arith) (some_there y.r (λ z. h (y.r_is ∙ z))) ∙ (λ i. int_lt (sym y.b_is i *ℤ sym k i) (sym x.b_is i *ℤ sym y.r_is i)) ∙ rest_less

  -- what is told of the whole parts
  module _ (w v : ℤ) (w_is : w ≡ int_div_euclid a b) (v_is : v ≡ int_div_euclid c d) where
    pub told_less : int_lt w v ≡ true → true ≡ int_lt (a *ℤ d) (c *ℤ b)
    told_less k = whole_less (less_is _ _ ((λ i. int_lt (sym w_is i) (sym v_is i)) ∙ k))

    pub told_more : int_lt v w ≡ true → false ≡ int_lt (a *ℤ d) (c *ℤ b)
    told_more k = whole_more (less_is _ _ ((λ i. int_lt (sym v_is i) (sym w_is i)) ∙ k))

    pub told_same : int_lt w v ≡ false → int_lt v w ≡ false → int_div_euclid a b ≡ int_div_euclid c d
    told_same k l = sym w_is ∙ same_is w v k l ∙ v_is
