-- Fractions whose numbers are within 128 bits.
use Rattle.std.specs.Prelude.{ℕ, zero, suc, Bool, cond, ◌&&◌, ℤ, neg_ℤ, ◌+ℤ◌, ◌*ℤ◌, Option, Some, None}
use Rattle.std.specs.Int.RustNames.{unsigned_abs, int_lt}
use Rattle.rw_terms.specs.Value.{div_floor, mod_floor}
use Rattle.rw_arith.specs.Polynomials.{is_narrow, is_zero}
use Rattle.rw_arith.specs.Lines.{is_positive}
use Rattle.rw_finder.specs.declared.fraction.Fraction.{Fraction}

-- the number, where it is within 128 bits
abbrev pub narrow : ℤ → Option ℤ
narrow z = cond (is_narrow z) (Some z) None

-- what comes of it, where there is something
abbrev pub if_some : {X Y : Type 0} → Option X → (X → Option Y) → Option Y
if_some None f = None
if_some (Some x) f = f x

-- Euclid: the second number and the rest by it have the same common divisors; so many steps
abbrev pub common_by : ℕ → ℤ → ℤ → ℤ
common_by zero a b = a
common_by (suc n) a b = cond (is_zero b) a (common_by n b (mod_floor a b))

-- the greatest common divisor of two numbers, the second of which is positive
abbrev pub common : ℤ → ℤ → ℤ
common a b = common_by (suc (unsigned_abs b)) a b

-- the quotient
abbrev pub quotient : ℤ → ℤ → Option ℤ
quotient a b = narrow (div_floor a b)

-- a fraction of two numbers that are there
abbrev pub fraction : Option ℤ → Option ℤ → Option Fraction
fraction above below = if_some above (λ a. if_some below (λ b. Some (record { above = a; below = b })))

-- so many times a fraction: the number and the denominator are reduced before they are multiplied out
abbrev pub times : ℤ → Fraction → Option Fraction
times m f = if_some (quotient m (common m f.below)) (λ n. fraction (narrow (n *ℤ f.above)) (quotient f.below (common m f.below)))

-- in lowest terms
abbrev pub reduced : ℤ → ℤ → Option Fraction
reduced above below = fraction (quotient above (common above below)) (quotient below (common above below))

-- a sum over a common denominator, where the denominators are to be multiplied by these numbers
abbrev pub plus_over : Fraction → ℤ → Fraction → ℤ → Option Fraction
plus_over f m g n = if_some (narrow (f.below *ℤ m)) (λ below. if_some (narrow (f.above *ℤ m)) (λ a. if_some (narrow (g.above *ℤ n)) (λ b. if_some (narrow (a +ℤ b)) (λ above. reduced above below))))

-- a sum over the least common multiple of the denominators, reduced afterwards
abbrev pub plus : Fraction → Fraction → Option Fraction
plus f g = if_some (quotient g.below (common f.below g.below)) (λ m. if_some (quotient f.below (common f.below g.below)) (λ n. plus_over f m g n))

-- the fraction with the other sign
abbrev pub opposite : Fraction → Option Fraction
opposite f = fraction (narrow (neg_ℤ f.above)) (Some f.below)

-- a fraction divided by a positive number, with which it is reduced before
abbrev pub over : Fraction → ℤ → Option Fraction
over f m = if_some (quotient f.above (common f.above m)) (λ above. if_some (quotient m (common f.above m)) (λ n. fraction (Some above) (narrow (f.below *ℤ n))))

-- less than another, where both denominators are positive
abbrev pub is_below : Fraction → Fraction → Bool
is_below f g = (is_positive f.below && is_positive g.below) && int_lt (f.above *ℤ g.below) (g.above *ℤ f.below)
