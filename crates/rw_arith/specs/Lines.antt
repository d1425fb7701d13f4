-- Arithmetic lines: sums of multiples of what is given, divisions, and when they refute.
use Rattle.std.specs.Prelude.{◌≡◌, ℕ, zero, suc, ◌+◌, ◌≤◌, Bool, true, false, cond, not, ◌&&◌, ℤ, pos, negsuc, List, [], ◌∷◌, ◌++◌, map, length, Option, Some, None, Result, Ok, Err, slice_get}
use Rattle.std.specs.List.{list_all, filter}
use Rattle.rw_terms.specs.declared.term.Formula.{Formula}
use Rattle.rw_terms.specs.State.{State}
use Rattle.rw_terms.specs.Value.{div_floor, mod_floor}
use Rattle.rw_terms.specs.Truth.{Definition, holds}
use Rattle.rw_terms.specs.Validity.{Each}
use Rattle.rw_arith.specs.declared.line.Ref.{Ref}
use Rattle.rw_arith.specs.declared.line.Ref.TheVariants.{Left, Right, Line}
use Rattle.rw_arith.specs.declared.line.Part.{Part}
use Rattle.rw_arith.specs.declared.line.LinLine.{LinLine}
use Rattle.rw_arith.specs.declared.line.LinLine.TheVariants.{Sum, Divide}
use Rattle.rw_arith.specs.declared.error.LinError.{LinError}
use Rattle.rw_arith.specs.declared.error.LinError.TheVariants as fault
use Rattle.rw_arith.specs.declared.poly.Summand.{Summand}
use Rattle.rw_arith.specs.declared.poly.Expansion.{Expansion}
use Rattle.rw_arith.specs.declared.poly.Expansion.TheVariants.{Polynomial, Unfit, Wide}
use Rattle.rw_arith.specs.Polynomials.{is_zero, is_product, and_then, with_multiples}
use Rattle.rw_arith.specs.Given.{is_non_negative, given_by_left, given_by_right, left_allows, right_allows}

-- what has a number, counted from 1
abbrev pub numbered : {X : Type 0} → List X → ℕ → Option X
numbered xs zero = None
numbered xs (suc n) = slice_get xs n

-- there is one, and it passes the test
abbrev pub passes : {X : Type 0} → (X → Bool) → Option X → Bool
passes test None = false
passes test (Some x) = test x

-- the expansion of what is there
abbrev pub expansion_by : {X : Type 0} → (X → Expansion) → Option X → Expansion
expansion_by e None = Unfit
expansion_by e (Some x) = e x

module _ (left right : List Formula) (made : List (List Summand)) where
  -- the part names what is there, and the multiple of it may be taken
  abbrev pub ref_allows : ℤ → Ref → Bool
  ref_allows m (Left n) = passes (left_allows m) (numbered left n)
  ref_allows m (Right n) = passes (right_allows m) (numbered right n)
  ref_allows m (Line n) = passes (λ p. is_non_negative m) (numbered made n)

  -- the same of a part
  abbrev pub is_allowed : Part → Bool
  is_allowed part = ref_allows part.times part.of

  -- the polynomial of what is named
  abbrev pub named : Ref → Expansion
  named (Left n) = expansion_by given_by_left (numbered left n)
  named (Right n) = expansion_by given_by_right (numbered right n)
  named (Line n) = expansion_by Polynomial (numbered made n)

  -- a part is expanded, its summands are multiplied in order, and each result is added to the sum
  abbrev pub with_part : List Summand → Part → Expansion
  with_part sum part = and_then (named part.of) (λ p. with_multiples part.times p (Polynomial sum))

  -- the parts from left to right
  abbrev pub with_parts : List Part → Expansion → Expansion
  with_parts [] e = e
  with_parts (part ∷ parts) e = with_parts parts (and_then e (λ sum. with_part sum part))

  -- all parts are tested first
  abbrev pub sum_of : List Part → Expansion
  sum_of parts = cond (list_all is_allowed parts) (with_parts parts (Polynomial [])) Unfit

-- the number divides the coefficient
abbrev pub divides : ℤ → Summand → Bool
divides d s = is_zero (mod_floor s.times d)

-- it divides each coefficient but the constant, which stands first
abbrev pub divides_all : ℤ → List Summand → Bool
divides_all d [] = true
divides_all d (s ∷ ss) = cond (is_product s) (divides d s) true && list_all (divides d) ss

-- the coefficient divided, and rounded down
abbrev pub quotient_of : ℤ → Summand → Summand
quotient_of d s = record s { times = div_floor s.times d }

-- what has coefficient 0 is no summand
abbrev pub is_there : Summand → Bool
is_there s = not (is_zero s.times)

-- the quotients, without a constant that is 0
abbrev pub quotients : ℤ → List Summand → List Summand
quotients d p = filter is_there (map (quotient_of d) p)

-- at least 1
abbrev pub is_positive : ℤ → Bool
is_positive (pos zero) = false
is_positive (pos (suc n)) = true
is_positive (negsuc n) = false

-- a division by a number from 1 on that divides each coefficient but the constant
abbrev pub divided : ℤ → List Summand → Expansion
divided d p = cond (is_positive d && divides_all d p) (Polynomial (quotients d p)) Unfit

-- the polynomials with that of the line of a number, or why it has none
abbrev pub made_by : ℕ → List (List Summand) → Expansion → Result (List (List Summand)) LinError
made_by k made (Polynomial p) = Ok (made ++ p ∷ [])
made_by k made Unfit = Err (fault.BadLine k)
made_by k made Wide = Err (fault.Wide k)

-- the next step, where the one before gave polynomials
abbrev pub if_made : Result (List (List Summand)) LinError → (List (List Summand) → Result (List (List Summand)) LinError) → Result (List (List Summand)) LinError
if_made (Ok made) next = next made
if_made (Err e) next = Err e

module _ (left right : List Formula) where
  -- the polynomial of a line, which is at least 0
  abbrev pub line_expansion : List (List Summand) → LinLine → Expansion
  line_expansion made (Sum parts) = sum_of left right made parts
  line_expansion made (Divide k d) = expansion_by (divided d) (numbered made k)

  -- the polynomials of all lines behind so many others, or the first line that has none
  abbrev pub all_made : ℕ → List LinLine → List (List Summand) → Result (List (List Summand)) LinError
  all_made n [] made = Ok made
  all_made n (line ∷ lines) made = if_made (made_by (n + 1) made (line_expansion made line)) (all_made (n + 1) lines)

-- below 0
abbrev pub is_negative : ℤ → Bool
is_negative (pos n) = false
is_negative (negsuc n) = true

-- a negative constant
abbrev pub is_contradiction : List Summand → Bool
is_contradiction [] = false
is_contradiction (s ∷ []) = not (is_product s) && is_negative s.times
is_contradiction (s ∷ t ∷ ss) = false

-- the last line refutes
abbrev pub refutes : List (List Summand) → Bool
refutes made = passes is_contradiction (numbered made (length made))

-- the first line that fails, or the last one where it is no contradiction
abbrev pub fault_of : ℕ → Result (List (List Summand)) LinError → Option LinError
fault_of n (Err e) = Some e
fault_of n (Ok made) = cond (refutes made) None (Some (fault.NotContradiction n))

-- why the lines refute nothing, if they do not
abbrev pub lines_fault : List Formula → List Formula → List LinLine → Option LinError
lines_fault left right lines = fault_of (length lines) (all_made left right 0 lines [])

-- how many of so many lines are checked where this fault comes first, or none: the failing one is among them
abbrev pub checked_of : ℕ → Option LinError → ℕ
checked_of n None = n
checked_of n (Some (fault.BadLine k)) = k
checked_of n (Some (fault.Wide k)) = k
checked_of n (Some (fault.NotContradiction k)) = n
checked_of n (Some fault.Memory) = n

-- the steps counted, from what a check of so many lines answers: one for each line, up to the first that fails; where there is no memory at most these
abbrev pub Counted : ℕ → Option LinError → ℕ → ℕ → LinError → Type 0
Counted lines first old new (fault.BadLine k) = new ≡ old + k
Counted lines first old new (fault.Wide k) = new ≡ old + k
Counted lines first old new (fault.NotContradiction k) = new ≡ old + lines
Counted lines first old new fault.Memory = new ≤ old + checked_of lines first

-- no two states make all left formulas true and all right ones false
abbrev pub Refuted : List Formula → List Formula → Type 0
Refuted left right = (library : List Definition) (s0 s : State) → Each (λ f. holds library f s0 s []) left → ¬ (Each (λ f. ¬ (holds library f s0 s [])) right)
