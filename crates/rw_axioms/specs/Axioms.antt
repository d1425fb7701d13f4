-- The axioms of arrays and of division, for terms over a goal's names.
use Rattle.std.specs.Prelude.{ℕ, Bool, true, false, ◌&&◌, pos, nat_eq, List, [], ◌∷◌, Option, Some, None}
use Rattle.std.specs.Option.{option_map}
use Rattle.rw_terms.specs.declared.term.Sort.{Sort}
use Rattle.rw_terms.specs.declared.term.Sort.TheVariants.{Int, Array}
use Rattle.rw_terms.specs.declared.term.Term.{Term}
use Rattle.rw_terms.specs.declared.term.Term.TheVariants.{Lit, Bound, Add, Mul, Div, Mod, Read, Put}
use Rattle.rw_terms.specs.declared.term.Formula.{Formula}
use Rattle.rw_terms.specs.declared.term.Formula.TheVariants.{Eq, Less, AtMost, Not, And, Imp, All}
use Rattle.rw_terms.specs.Named.{Named}
use Rattle.rw_terms.specs.Rules.{is_of}
use Rattle.rw_terms.specs.InScope.{only_if}
use Rattle.rw_goals.specs.declared.added.Parts.{Parts}
use Rattle.rw_goals.specs.declared.added.Parts.TheVariants.{Fails, One}
use Rattle.rw_goals.specs.Causes as causes
use Rattle.rw_goals.specs.Premises.{on_left}
use Rattle.rw_goals.specs.Cut.{is_large}
use Rattle.rw_goals.specs.Sorting.{sort_of}

-- the length of an array, by its sort
abbrev pub array_length : Option Sort → Option ℕ
array_length None = None
array_length (Some Int) = None
array_length (Some (Array n)) = Some n

-- an axiom for terms of the right sorts goes to the left, if it keeps the limits
abbrev pub small_axiom : Bool → Formula → Parts
small_axiom true f = Fails causes.too_large
small_axiom false f = One (on_left (f ∷ []))

-- an axiom on the left, or the cause for terms of wrong sorts
abbrev pub axiom_parts : Option Formula → Parts
axiom_parts None = Fails causes.sort
axiom_parts (Some f) = small_axiom (is_large f) f

-- an index in range is read as what was put there
abbrev pub put_same : Term → Term → Term → ℕ → Formula
put_same a i e n = Imp (And (AtMost (Lit (pos 0)) i) (Less i (Lit (pos n)))) (Eq (Read (Put a i e) i) e)

-- another index is read as before
abbrev pub put_other : Term → Term → Term → Term → Formula
put_other a i e j = Imp (Not (Eq i j)) (Eq (Read (Put a i e) j) (Read a j))

-- arrays of one length are equal where each index is read alike
abbrev pub extension : Term → Term → Formula
extension a b = Imp (All Int (Eq (Read a (Bound 0)) (Read b (Bound 0)))) (Eq a b)

-- the dividend is the divisor times the quotient, and the rest
abbrev pub quotient_law : Term → Term → Formula
quotient_law t u = Imp (Not (Eq u (Lit (pos 0)))) (Eq t (Add (Mul u (Div t u)) (Mod t u)))

-- by a positive divisor the rest is at least 0 and below it
abbrev pub positive_law : Term → Term → Formula
positive_law t u = Imp (Less (Lit (pos 0)) u) (And (AtMost (Lit (pos 0)) (Mod t u)) (Less (Mod t u) u))

-- by a negative divisor the rest is above it and at most 0
abbrev pub negative_law : Term → Term → Formula
negative_law t u = Imp (Less u (Lit (pos 0))) (And (Less u (Mod t u)) (AtMost (Mod t u) (Lit (pos 0))))

-- what the quotient and the rest are
abbrev pub division : Term → Term → Formula
division t u = And (And (quotient_law t u) (positive_law t u)) (negative_law t u)

module _ (names : List Named) where
  -- an integer over the names
  abbrev pub is_int : Term → Bool
  is_int t = is_of Int (sort_of names [] t)

  -- each axiom, for terms of the right sorts over the names
  abbrev pub put_same_axiom : Term → Term → Term → Option Formula
  put_same_axiom a i e = only_if (is_int i && is_int e) (option_map (λ n. put_same a i e n) (array_length (sort_of names [] a)))

  abbrev pub put_other_axiom : Term → Term → Term → Term → Option Formula
  put_other_axiom a i e j = only_if (is_int i && is_int e && is_int j) (option_map (λ n. put_other a i e j) (array_length (sort_of names [] a)))

  -- as many cells
  abbrev pub same_length : Option ℕ → Option ℕ → Bool
  same_length None o = false
  same_length (Some m) None = false
  same_length (Some m) (Some n) = nat_eq m n

  abbrev pub extension_axiom : Term → Term → Option Formula
  extension_axiom a b = only_if (same_length (array_length (sort_of names [] a)) (array_length (sort_of names [] b))) (Some (extension a b))

  abbrev pub division_axiom : Term → Term → Option Formula
  division_axiom t u = only_if (is_int t && is_int u) (Some (division t u))
