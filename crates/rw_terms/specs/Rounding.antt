-- What division is: the quotient rounds to minus infinity, and the rest has the sign of the divisor.
use Rattle.std.specs.Prelude.{◌≡◌, ◌≢◌, ℤ, pos, ◌+ℤ◌, ◌*ℤ◌, ◌<ℤ◌, ◌≤ℤ◌}
use Rattle.rw_terms.specs.Value.{div_floor, mod_floor}

-- the dividend is the divisor times the quotient, and the rest
abbrev pub QuotientLaw : Type 0
QuotientLaw = (a b : ℤ) → b ≢ pos 0 → a ≡ (b *ℤ div_floor a b) +ℤ mod_floor a b

-- by a positive divisor the rest is at least 0 and below it
abbrev pub RestOfPositive : Type 0
RestOfPositive = (a b : ℤ) → pos 0 <ℤ b → (pos 0 ≤ℤ mod_floor a b) × (mod_floor a b <ℤ b)

-- by a negative divisor the rest is above it and at most 0
abbrev pub RestOfNegative : Type 0
RestOfNegative = (a b : ℤ) → b <ℤ pos 0 → (b <ℤ mod_floor a b) × (mod_floor a b ≤ℤ pos 0)

-- by 0 both are 0
abbrev pub ByZero : Type 0
ByZero = (a : ℤ) → (div_floor a (pos 0) ≡ pos 0) × (mod_floor a (pos 0) ≡ pos 0)
