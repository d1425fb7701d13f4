-- A polynomial that is at least 0, divided by a positive number, is at least 0.
use Rattle.std.proofs.Common.{◌≡◌, ◌≢◌, ℕ, zero, suc, ◌+◌, ◌*◌, ◌<◌, ◌≤◌, Bool, true, false, cond, not, ◌&&◌, ℤ, pos, negsuc, neg_ℤ, ◌+ℤ◌, ◌-ℤ◌, ◌*ℤ◌, ◌≤ℤ◌, ◌<ℤ◌, List, [], ◌∷◌, map, refl, sym, ◌∙◌, ap, subst, true≢false, arith}
use Rattle.std.proofs.lemmas.Bool.{and_parts}
use Rattle.std.specs.List.{list_all, filter}
use Rattle.std.proofs.lemmas.Int.{ints}
use Rattle.std.proofs.Math.IntN.{zero-*ℤ, *ℤ_comm}
use Rattle.rw_terms.specs.declared.term.Term.{Term}
use Rattle.rw_terms.specs.Value.{div_floor, mod_floor}
use Rattle.rw_terms.proofs.Dividing.{quotient_law, rest_of_positive}
use Rattle.rw_arith.specs.declared.poly.Summand.{Summand}
use Rattle.rw_arith.specs.declared.poly.Expansion.{Expansion}
use Rattle.rw_arith.specs.declared.poly.Expansion.TheVariants.{Polynomial, Unfit}
use Rattle.rw_arith.specs.Polynomials.{is_zero, has_atoms, is_product}
use Rattle.rw_arith.specs.Lines.{divides, divides_all, quotient_of, is_there, quotients, is_positive, divided}
use Rattle.rw_arith.specs.Values.{product_value, summand_value, polynomial_value, IfPolynomial}
use Rattle.rw_arith.proofs.Integers.{spreads_left, groups}
use Rattle.rw_arith.proofs.Values.{zero_is}
use Rattle.rw_arith.proofs.ExpansionLaws.{times_one}

above_zero : (d : ℤ) → is_positive d ≡ true → pos 0 <ℤ d
above_zero (pos zero) e = absurd (true≢false (sym e))
above_zero (pos (suc n)) e = omega (arith, ints)
above_zero (negsuc n) e = absurd (true≢false (sym e))

not_zero : (d : ℤ) → pos 0 <ℤ d → d ≢ pos 0
not_zero d h e = let k : pos 0 <ℤ pos 0 = subst (λ z. pos 0 <ℤ z) e h in omega (arith, ints)

-- d * w + r is at least 0 only where w is, if r is below d
low_rest : (d w r : ℤ) → pos 0 <ℤ d → r <ℤ d → pos 0 ≤ℤ ((d *ℤ w) +ℤ r) → pos 0 ≤ℤ w
low_rest d (pos n) r p q h = omega (arith, ints)
low_rest (pos a) (negsuc k) r p q h = absurd (too_low a k r q (subst (λ z. pos 0 ≤ℤ (z +ℤ r)) refl h))
  where
    more : (a k : ℕ) → a ≤ a * suc k
    more a k = grind arith

    too_low : (a k : ℕ) (r : ℤ) → r <ℤ pos a → pos 0 ≤ℤ (neg_ℤ (pos (a * suc k)) +ℤ r) → ⊥
    too_low a k r q h = let m = more a k in omega (arith, ints)
low_rest (negsuc a) (negsuc k) r p q h = absurd (omega (arith, ints))

module _ (of_atom : Term → ℤ) where
  abbrev val : List Summand → ℤ
  val = polynomial_value of_atom

  abbrev one : Summand → ℤ
  one = summand_value of_atom

  abbrev pv : List Term → ℤ
  pv = product_value of_atom

  dropped : (p v r : ℤ) (z : ℤ) → z ≡ pos 0 → r ≡ v → r ≡ (z *ℤ p) +ℤ v
  dropped p v r z e h = h ∙ sym (ap (λ y. (y *ℤ p) +ℤ v) e ∙ ap (λ y. y +ℤ v) (zero-*ℤ p) ∙ omega (arith, ints))

  kept_case : (b : Bool) (s : Summand) (r : List Summand) (v : ℤ) → is_zero s.times ≡ b → val r ≡ v → val (cond (not b) (s ∷ r) r) ≡ one s +ℤ v
  kept_case true s r v e h = dropped (pv s.atoms) v (val r) s.times (zero_is s.times e) h
  kept_case false s r v e h = ap (λ z. one s +ℤ z) h

  -- what is left out is worth nothing
  kept_value : (p : List Summand) → val (filter is_there p) ≡ val p
  kept_value [] = refl
  kept_value (s ∷ p) = kept_case (is_zero s.times) s (filter is_there p) (val p) refl (kept_value p)

  module _ (d : ℤ) (positive : pos 0 <ℤ d) where
    abbrev q : Summand → ℤ
    q s = div_floor s.times d

    abbrev rest_of : Summand → ℤ
    rest_of s = mod_floor s.times d

    whole_of : (s : Summand) → s.times ≡ (d *ℤ q s) +ℤ rest_of s
    whole_of s = quotient_law s.times d (not_zero d positive)

    nothing_over : (x r y : ℤ) → x ≡ y +ℤ r → r ≡ pos 0 → y ≡ x
    nothing_over x r y e h = omega (arith, ints)

    exact_one : (s : Summand) → divides d s ≡ true → d *ℤ one (quotient_of d s) ≡ one s
    exact_one s e =
        sym (groups d (q s) (pv s.atoms)) ∙ ap (λ z. z *ℤ pv s.atoms) (nothing_over s.times (rest_of s) (d *ℤ q s) (whole_of s) (zero_is (rest_of s) e))

    exact : (p : List Summand) → list_all (divides d) p ≡ true → d *ℤ val (map (quotient_of d) p) ≡ val p
    exact [] e = *ℤ_comm d (pos 0) ∙ zero-*ℤ d
    exact (s ∷ p) e =
        spreads_left d (one (quotient_of d s)) (val (map (quotient_of d) p))
        ∙ (λ i. exact_one s (and_parts (divides d s) _ e).0 i +ℤ exact p (and_parts (divides d s) _ e).1 i)

    abbrev AtLeast : List Summand → Type 0
    AtLeast p = pos 0 ≤ℤ val p → pos 0 ≤ℤ val (map (quotient_of d) p)

    add_none : (x y : ℤ) → x ≡ y → pos 0 ≤ℤ y → pos 0 ≤ℤ (x +ℤ pos 0)
    add_none x y e h = omega (arith, ints)

    exact_at_least : (p : List Summand) → list_all (divides d) p ≡ true → AtLeast p
    exact_at_least p e h = low_rest d (val (map (quotient_of d) p)) (pos 0) positive positive (add_none _ _ (exact p e) h)

    no_atoms : (ts : List Term) → has_atoms ts ≡ false → pv ts ≡ pos 1
    no_atoms [] e = refl
    no_atoms (t ∷ ts) e = absurd (true≢false e)

    together : (dq dv r x v w : ℤ) → x ≡ dq +ℤ r → dv ≡ v → pos 0 ≤ℤ (x +ℤ v) → pos 0 ≤ℤ ((dq +ℤ dv) +ℤ r)
    together dq dv r x v w e f h = omega (arith, ints)

    is_times : (z : ℤ) (s : Summand) → has_atoms s.atoms ≡ false → z *ℤ pv s.atoms ≡ z
    is_times z s e = ap (λ y. z *ℤ y) (no_atoms s.atoms e) ∙ times_one z

    constant_first : (s : Summand) (p : List Summand) → is_product s ≡ false → list_all (divides d) p ≡ true → AtLeast (s ∷ p)
    constant_first s p e f h =
        let v = val (map (quotient_of d) p) in
        let start : pos 0 ≤ℤ (s.times +ℤ val p) = subst (λ z. pos 0 ≤ℤ (z +ℤ val p)) (is_times s.times s e) h in
        let all : pos 0 ≤ℤ ((d *ℤ (q s +ℤ v)) +ℤ rest_of s) =
        subst (λ z. pos 0 ≤ℤ (z +ℤ rest_of s)) (sym (spreads_left d (q s) v)) (together (d *ℤ q s) (d *ℤ v) (rest_of s) s.times (val p) (pos 0) (whole_of s) (exact p f) start) in
        subst (λ z. pos 0 ≤ℤ (z +ℤ v)) (sym (is_times (q s) s e)) (low_rest d (q s +ℤ v) (rest_of s) positive (rest_of_positive s.times d positive).1 all)

    first_case : (b : Bool) (s : Summand) (p : List Summand) → is_product s ≡ b → (cond b (divides d s) true && list_all (divides d) p) ≡ true → AtLeast (s ∷ p)
    first_case true s p e f = exact_at_least (s ∷ p) f
    first_case false s p e f = constant_first s p e f

    at_least : (p : List Summand) → divides_all d p ≡ true → AtLeast p
    at_least [] e h = h
    at_least (s ∷ p) e h = first_case (is_product s) s p refl e h

  divided_case : (b : Bool) (d : ℤ) (p : List Summand) → (is_positive d && divides_all d p) ≡ b → pos 0 ≤ℤ val p → IfPolynomial (cond b (Polynomial (quotients d p)) Unfit) (λ r. pos 0 ≤ℤ val r)
  divided_case true d p e h =
      subst (λ z. pos 0 ≤ℤ z) (sym (kept_value (map (quotient_of d) p))) (at_least d (above_zero d (and_parts (is_positive d) _ e).0) p (and_parts (is_positive d) _ e).1 h)
  divided_case false d p e h = tt

  pub divided_at_least : (d : ℤ) (p : List Summand) → pos 0 ≤ℤ val p → IfPolynomial (divided d p) (λ r. pos 0 ≤ℤ val r)
  divided_at_least d p h = divided_case (is_positive d && divides_all d p) d p refl h
