-- Steps of Euclid: the rest is smaller, and more steps than are needed change nothing.
use Rattle.std.proofs.Common.{◌≡◌, ℕ, zero, suc, ◌<◌, Bool, true, false, cond, ℤ, pos, negsuc, ◌≤ℤ◌, ◌<ℤ◌, unsigned_abs, refl, sym, ap, ◌∙◌, true≢false, arith}
use Rattle.std.proofs.lemmas.Int.{ints}
use Rattle.rw_terms.specs.Value.{mod_floor}
use Rattle.rw_terms.proofs.Dividing.{rest_of_positive, rest_of_negative}
use Rattle.rw_arith.specs.Polynomials.{is_zero}
use Rattle.rw_finder.specs.Fractions.{common_by, common}

above_rest : (r : ℤ) (n : ℕ) → pos 0 ≤ℤ r → r <ℤ pos n → unsigned_abs r < n
above_rest (pos m) n h k = omega (arith, ints)
above_rest (negsuc m) n h k = absurd (omega (arith, ints))

below_rest : (r : ℤ) (n : ℕ) → negsuc n <ℤ r → r ≤ℤ pos 0 → unsigned_abs r < suc n
below_rest (pos m) n h k = omega (arith, ints)
below_rest (negsuc m) n h k = omega (arith, ints)

pub smaller : (a b : ℤ) → is_zero b ≡ false → unsigned_abs (mod_floor a b) < unsigned_abs b
smaller a (pos zero) e = absurd (true≢false e)
smaller a (pos (suc n)) e = let p : pos 0 <ℤ pos (suc n) = omega (arith, ints) in let h = rest_of_positive a (pos (suc n)) p in above_rest (mod_floor a (pos (suc n))) (suc n) h.0 h.1
smaller a (negsuc n) e = let p : negsuc n <ℤ pos 0 = omega (arith, ints) in let h = rest_of_negative a (negsuc n) p in below_rest (mod_floor a (negsuc n)) n h.0 h.1

enough_case : (b : Bool) (a x y : ℤ) → (b ≡ false → x ≡ y) → cond b a x ≡ cond b a y
enough_case true a x y h = refl
enough_case false a x y h = h refl

enough : (n m : ℕ) (a b : ℤ) → unsigned_abs b < n → unsigned_abs b < m → common_by n a b ≡ common_by m a b
enough zero m a b h k = absurd (omega arith)
enough (suc n) zero a b h k = absurd (omega arith)
enough (suc n) (suc m) a b h k =
    enough_case (is_zero b) a (common_by n b (mod_floor a b)) (common_by m b (mod_floor a b)) (λ e. let l = smaller a b e in enough n m b (mod_floor a b) (omega arith) (omega arith))

-- one step
pub common_step : (a b : ℤ) → is_zero b ≡ false → common b (mod_floor a b) ≡ common a b
common_step a b e =
    let l = smaller a b e in
    enough (suc (unsigned_abs (mod_floor a b))) (unsigned_abs b) b (mod_floor a b) (omega arith) l ∙ ap (λ z. cond z a (common_by (unsigned_abs b) b (mod_floor a b))) (sym e)
