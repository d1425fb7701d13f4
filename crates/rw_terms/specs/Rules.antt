-- The rules of sorts: the sort of a term whose parts all keep them, and the formulas that keep them.
use Rattle.std.specs.Prelude.{Bool, true, false, ◌&&◌, List, [], ◌∷◌, map, find, is_some, Option, Some, None, slice_get}
use Rattle.rw_terms.specs.declared.term.Sort.{Sort}
use Rattle.rw_terms.specs.declared.term.Sort.TheVariants.{Int, Array}
use Rattle.rw_terms.specs.declared.term.Term.{Term}
use Rattle.rw_terms.specs.declared.term.Term.TheOpen.{Term-F}
use Rattle.rw_terms.specs.declared.term.Term.TheFolds.{fold-Term}
use Rattle.rw_terms.specs.declared.term.Formula.{Formula}
use Rattle.rw_terms.specs.declared.term.Formula.TheOpen.{Formula-F}
use Rattle.rw_terms.specs.declared.term.Formula.TheFolds.{fold-Formula}
use Rattle.rw_terms.specs.declared.scope.Entry.{Entry}
use Rattle.rw_terms.specs.declared.scope.Head.{Head}
use Rattle.rw_terms.specs.Sorts.{variable_sort, constant_sort, is_literal}
use Rattle.rw_terms.specs.Formed.{same_sort, is_sort, is_head}

-- a literal is at least 0
abbrev pub of_literal : Bool → Option Sort
of_literal true = Some Int
of_literal false = None

-- an operation on an integer gives one
abbrev pub of_int : Option Sort → Option Sort
of_int (Some Int) = Some Int
of_int (Some (Array n)) = None
of_int None = None

-- so does one on two integers
abbrev pub of_ints : Option Sort → Option Sort → Option Sort
of_ints (Some Int) b = of_int b
of_ints (Some (Array n)) b = None
of_ints None b = None

-- a read takes an array and an integer and gives an integer
abbrev pub of_read : Option Sort → Option Sort → Option Sort
of_read (Some (Array n)) i = of_int i
of_read (Some Int) i = None
of_read None i = None

abbrev pub instead : Sort → Option Sort → Option Sort
instead sort (Some s) = Some sort
instead sort None = None

-- `put` takes an array and two integers and gives the sort of the array
abbrev pub of_put : Option Sort → Option Sort → Option Sort → Option Sort
of_put (Some (Array n)) i e = instead (Array n) (of_ints i e)
of_put (Some Int) i e = None
of_put None i e = None

-- a term of this sort
abbrev pub is_of : Sort → Option Sort → Bool
is_of s None = false
is_of s (Some t) = same_sort s t

-- terms of these sorts in order
abbrev pub are_of : List Sort → List (Option Sort) → Bool
are_of [] [] = true
are_of [] (o ∷ os) = false
are_of (s ∷ ss) [] = false
are_of (s ∷ ss) (o ∷ os) = is_of s o && are_of ss os

-- an equation takes two terms of one sort
abbrev pub may_equal_of : Option Sort → Option Sort → Bool
may_equal_of None u = false
may_equal_of (Some s) u = is_of s u

-- a predicate takes as many terms as its head has sorts, of these sorts in order, and has a head
abbrev pub applies : Option Head → List (Option Sort) → Bool
applies None os = false
applies (Some head) os = are_of head.sorts os

module _ (scope : List Entry) where
  -- the sort of a part, from those of its own parts and of the binders, the innermost first
  abbrev pub sort_step : List Sort → Term-F (Option Sort) → Option Sort
  sort_step binders (Term-F.Lit n) = of_literal (is_literal n)
  sort_step binders (Term-F.Var x) = variable_sort scope x
  sort_step binders (Term-F.Init x) = variable_sort scope x
  sort_step binders (Term-F.Const x) = constant_sort scope x
  sort_step binders (Term-F.Bound k) = slice_get binders k
  sort_step binders (Term-F.Neg a) = of_int a
  sort_step binders (Term-F.Add a b) = of_ints a b
  sort_step binders (Term-F.Sub a b) = of_ints a b
  sort_step binders (Term-F.Mul a b) = of_ints a b
  sort_step binders (Term-F.Div a b) = of_ints a b
  sort_step binders (Term-F.Mod a b) = of_ints a b
  sort_step binders (Term-F.Read a i) = of_read a i
  sort_step binders (Term-F.Put a i e) = of_put a i e
  sort_step binders (Term-F.Fun _ _) = None

  -- the sort of a term whose parts all keep the rules
  abbrev pub sort_in : List Sort → Term → Option Sort
  sort_in binders = fold-Term (Option Sort) (sort_step binders)

  module _ (heads : List Head) where
    abbrev pub keeps_step : Formula-F (List Sort → Bool) → List Sort → Bool
    keeps_step Formula-F.True binders = true
    keeps_step Formula-F.False binders = true
    keeps_step (Formula-F.Eq t u) binders = may_equal_of (sort_in binders t) (sort_in binders u)
    keeps_step (Formula-F.Less t u) binders = is_some (of_ints (sort_in binders t) (sort_in binders u))
    keeps_step (Formula-F.AtMost t u) binders = is_some (of_ints (sort_in binders t) (sort_in binders u))
    keeps_step (Formula-F.Not f) binders = f binders
    keeps_step (Formula-F.And f g) binders = f binders && g binders
    keeps_step (Formula-F.Or f g) binders = f binders && g binders
    keeps_step (Formula-F.Imp f g) binders = f binders && g binders
    keeps_step (Formula-F.All sort f) binders = is_sort sort && f (sort ∷ binders)
    keeps_step (Formula-F.Any sort f) binders = is_sort sort && f (sort ∷ binders)
    keeps_step (Formula-F.App p args) binders = applies (find (is_head p) heads) (map (sort_in binders) args)

    -- whether each part of the formula keeps the rules
    abbrev pub keeps_rules : Formula → List Sort → Bool
    keeps_rules = fold-Formula (List Sort → Bool) keeps_step
