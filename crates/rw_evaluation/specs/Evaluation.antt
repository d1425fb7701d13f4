-- What a run makes of terms and guards: they are evaluated wholly, the left operand first, with integers of 128 bits.
use Rattle.std.specs.Prelude.{zero, suc, ◌^◌, Bool, true, false, cond, not, ◌&&◌, ◌||◌, nat_lt, length, ℤ, pos, negsuc, ◌+ℤ◌, ◌-ℤ◌, ◌*ℤ◌, neg_ℤ, int_lt, int_le, List, [], ◌∷◌, map, slice_get, Option, Some, Result, Ok, Err}
use Rattle.std.specs.Ordering.{int_eq}
use Rattle.rw_terms.specs.declared.term.Term.{Term}
use Rattle.rw_terms.specs.declared.term.Term.TheOpen.{Term-F}
use Rattle.rw_terms.specs.declared.term.Term.TheFolds.{fold-Term}
use Rattle.rw_terms.specs.declared.term.Formula.{Formula}
use Rattle.rw_terms.specs.declared.term.Formula.TheOpen.{Formula-F}
use Rattle.rw_terms.specs.declared.term.Formula.TheFolds.{fold-Formula}
use Rattle.rw_terms.specs.State.{Value, Whole, Cells, whole, cells, State as Map, given, value_in}
use Rattle.rw_terms.specs.Value.{div_floor, mod_floor, read_at, put_at}
use Rattle.rw_evaluation.specs.declared.stop.AbortCause.TheVariants.{Division, Index}
use Rattle.rw_evaluation.specs.declared.stop.Stop.{Stop}
use Rattle.rw_evaluation.specs.declared.stop.Stop.TheVariants.{TooWide, Aborted}

-- within 128 bits
abbrev pub is_narrow : ℤ → Bool
is_narrow (pos n) = nat_lt n (2 ^ 127)
is_narrow (negsuc n) = nat_lt n (2 ^ 127)

-- it is 0
abbrev pub is_zero : ℤ → Bool
is_zero (pos zero) = true
is_zero (pos (suc n)) = false
is_zero (negsuc n) = false

-- it is an index of the list
abbrev pub is_index : ℤ → List ℤ → Bool
is_index (pos i) l = nat_lt i (length l)
is_index (negsuc i) l = false

-- what comes of a term: its value, or why it has none
abbrev pub Seen : Type 0
Seen = Result Value Stop

-- the integer, unless it is too wide
abbrev pub narrow : ℤ → Seen
narrow z = cond (is_narrow z) (Ok (Whole z)) (Err TooWide)

-- what comes of one part
abbrev pub one : {A B : Type 0} → Result A Stop → (A → Result B Stop) → Result B Stop
one (Ok u) f = f u
one (Err e) f = Err e

-- what comes of two parts, the left one first
abbrev pub two : {A B C : Type 0} → Result A Stop → Result B Stop → (A → B → Result C Stop) → Result C Stop
two a b f = one a (λ u. one b (λ v. f u v))

abbrev pub sum_of : Value → Value → Seen
sum_of u v = narrow (whole u +ℤ whole v)

abbrev pub difference_of : Value → Value → Seen
difference_of u v = narrow (whole u -ℤ whole v)

abbrev pub product_of : Value → Value → Seen
product_of u v = narrow (whole u *ℤ whole v)

-- a quotient or a rest: no divisor is 0
abbrev pub divided : (ℤ → ℤ → ℤ) → Value → Value → Seen
divided by u v = cond (is_zero (whole v)) (Err (Aborted Division)) (narrow (by (whole u) (whole v)))

-- the cell at an index, which is to be in range
abbrev pub cell_at : Value → Value → Seen
cell_at a i = cond (is_index (whole i) (cells a)) (Ok (Whole (read_at (cells a) (whole i)))) (Err (Aborted Index))

-- the array with another cell at an index, which is to be in range
abbrev pub changed_at : Value → Value → Value → Seen
changed_at a i e = cond (is_index (whole i) (cells a)) (Ok (Cells (put_at (cells a) (whole i) (whole e)))) (Err (Aborted Index))

-- one layer of a term, from what comes of its parts
abbrev pub seen_step : Map → Term-F Seen → Seen
seen_step s (Term-F.Lit n) = Ok (Whole n)
seen_step s (Term-F.Var x) = Ok (value_in s x)
seen_step s (Term-F.Init x) = Ok (value_in s x)
seen_step s (Term-F.Const x) = Ok (value_in s x)
seen_step s (Term-F.Bound k) = Ok (given (slice_get [] k))
seen_step s (Term-F.Neg a) = one a (λ u. narrow (neg_ℤ (whole u)))
seen_step s (Term-F.Add a b) = two a b sum_of
seen_step s (Term-F.Sub a b) = two a b difference_of
seen_step s (Term-F.Mul a b) = two a b product_of
seen_step s (Term-F.Div a b) = two a b (divided div_floor)
seen_step s (Term-F.Mod a b) = two a b (divided mod_floor)
seen_step s (Term-F.Read a i) = two a i cell_at
seen_step s (Term-F.Put a i e) = two a i (λ u v. one e (λ w. changed_at u v w))
seen_step s (Term-F.Fun _ args) = Ok (Whole (pos 0))

-- what comes of a term in a state
abbrev pub seen : Map → Term → Seen
seen s = fold-Term Seen (seen_step s)

-- what comes of terms, from left to right
abbrev pub in_order : List Seen → Result (List (Option Value)) Stop
in_order [] = Ok []
in_order (r ∷ rest) = two r (in_order rest) (λ v vs. Ok (Some v ∷ vs))

abbrev pub all_seen : Map → List Term → Result (List (Option Value)) Stop
all_seen s ts = in_order (map (seen s) ts)

abbrev pub same_cells : List ℤ → List ℤ → Bool
same_cells [] [] = true
same_cells [] (b ∷ bs) = false
same_cells (a ∷ ns) [] = false
same_cells (a ∷ ns) (b ∷ bs) = int_eq a b && same_cells ns bs

abbrev pub same_value : Value → Value → Bool
same_value (Whole a) (Whole b) = int_eq a b
same_value (Whole a) (Cells bs) = false
same_value (Cells ns) (Whole b) = false
same_value (Cells ns) (Cells bs) = same_cells ns bs

-- one layer of a guard, from what comes of its parts; a predicate and a quantifier are no guards
abbrev pub tested_step : Map → Formula-F (Result Bool Stop) → Result Bool Stop
tested_step s Formula-F.True = Ok true
tested_step s Formula-F.False = Ok false
tested_step s (Formula-F.Eq t u) = two (seen s t) (seen s u) (λ v w. Ok (same_value v w))
tested_step s (Formula-F.Less t u) = two (seen s t) (seen s u) (λ v w. Ok (int_lt (whole v) (whole w)))
tested_step s (Formula-F.AtMost t u) = two (seen s t) (seen s u) (λ v w. Ok (int_le (whole v) (whole w)))
tested_step s (Formula-F.Not f) = one f (λ b. Ok (not b))
tested_step s (Formula-F.And f g) = two f g (λ b c. Ok (b && c))
tested_step s (Formula-F.Or f g) = two f g (λ b c. Ok (b || c))
tested_step s (Formula-F.Imp f g) = two f g (λ b c. Ok (not b || c))
tested_step s (Formula-F.All _ f) = Ok false
tested_step s (Formula-F.Any _ f) = Ok false
tested_step s (Formula-F.App _ args) = Ok false

-- what comes of a guard in a state
abbrev pub tested : Map → Formula → Result Bool Stop
tested s = fold-Formula (Result Bool Stop) (tested_step s)
