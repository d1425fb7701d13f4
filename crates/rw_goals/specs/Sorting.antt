-- The rules of sorts for what a line of a certificate says of a goal: its names have sorts and no kinds, so that each may stand as
-- variable, as initial variable and as constant.
use Rattle.std.specs.Prelude.{ℕ, Bool, true, false, ◌&&◌, is_some, List, ◌∷◌, map, find, Option, Some, None, slice_get}
use Rattle.std.specs.Option.{option_map}
use Rattle.rw_terms.specs.declared.term.Sort.{Sort}
use Rattle.rw_terms.specs.declared.term.Term.{Term}
use Rattle.rw_terms.specs.declared.term.Term.TheOpen.{Term-F}
use Rattle.rw_terms.specs.declared.term.Term.TheFolds.{fold-Term}
use Rattle.rw_terms.specs.declared.term.Formula.{Formula}
use Rattle.rw_terms.specs.declared.term.Formula.TheOpen.{Formula-F}
use Rattle.rw_terms.specs.declared.term.Formula.TheFolds.{fold-Formula}
use Rattle.rw_terms.specs.Sorts.{is_literal}
use Rattle.rw_terms.specs.Formed.{is_sort}
use Rattle.rw_terms.specs.Named.{Named, is_named}
use Rattle.rw_terms.specs.Rules.{of_literal, of_int, of_ints, of_read, of_put, are_of, may_equal_of}
use Rattle.rw_goals.specs.declared.library.Item.{Item}
use Rattle.rw_goals.specs.Library.{parameters_of}

-- a predicate that is defined takes as many terms as it has parameters, of their sorts in order
abbrev pub takes : Option (List Named) → List (Option Sort) → Bool
takes None sorts = false
takes (Some params) sorts = are_of (map (λ p. p.1) params) sorts

module _ (names : List Named) where
  -- the sort of a name
  abbrev pub name_sort : List ℕ → Option Sort
  name_sort x = option_map (λ n. n.1) (find (is_named x) names)

  -- the sort of a part, from those of its own parts and of the binders, the innermost first
  abbrev pub sort_step : List Sort → Term-F (Option Sort) → Option Sort
  sort_step binders (Term-F.Lit n) = of_literal (is_literal n)
  sort_step binders (Term-F.Var x) = name_sort x
  sort_step binders (Term-F.Init x) = name_sort x
  sort_step binders (Term-F.Const x) = name_sort x
  sort_step binders (Term-F.Bound k) = slice_get binders k
  sort_step binders (Term-F.Neg a) = of_int a
  sort_step binders (Term-F.Add a b) = of_ints a b
  sort_step binders (Term-F.Sub a b) = of_ints a b
  sort_step binders (Term-F.Mul a b) = of_ints a b
  sort_step binders (Term-F.Div a b) = of_ints a b
  sort_step binders (Term-F.Mod a b) = of_ints a b
  sort_step binders (Term-F.Read a i) = of_read a i
  sort_step binders (Term-F.Put a i e) = of_put a i e
  sort_step binders (Term-F.Fun _ _) = None

  -- the sort of a term that keeps the rules
  abbrev pub sort_of : List Sort → Term → Option Sort
  sort_of binders = fold-Term (Option Sort) (sort_step binders)

  module _ (entries : List Item) where
    -- whether a formula keeps the rules, from its parts, where its loose binders have these sorts
    abbrev pub keeps_step : Formula-F (List Sort → Bool) → List Sort → Bool
    keeps_step Formula-F.True binders = true
    keeps_step Formula-F.False binders = true
    keeps_step (Formula-F.Eq t u) binders = may_equal_of (sort_of binders t) (sort_of binders u)
    keeps_step (Formula-F.Less t u) binders = is_some (of_ints (sort_of binders t) (sort_of binders u))
    keeps_step (Formula-F.AtMost t u) binders = is_some (of_ints (sort_of binders t) (sort_of binders u))
    keeps_step (Formula-F.Not f) binders = f binders
    keeps_step (Formula-F.And f g) binders = f binders && g binders
    keeps_step (Formula-F.Or f g) binders = f binders && g binders
    keeps_step (Formula-F.Imp f g) binders = f binders && g binders
    keeps_step (Formula-F.All sort f) binders = is_sort sort && f (sort ∷ binders)
    keeps_step (Formula-F.Any sort f) binders = is_sort sort && f (sort ∷ binders)
    keeps_step (Formula-F.App p args) binders = takes (parameters_of entries p) (map (sort_of binders) args)

    -- whether a formula keeps the rules, where its loose binders have these sorts
    abbrev pub keeps_rules : Formula → List Sort → Bool
    keeps_rules = fold-Formula (List Sort → Bool) keeps_step
