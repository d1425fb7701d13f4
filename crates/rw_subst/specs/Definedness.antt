-- The conditions that say that a term is defined.
use Rattle.std.specs.Prelude.{ℕ, pos, List, [], ◌∷◌, ◌++◌, map, Option, Some, None}
use Rattle.rw_terms.specs.declared.term.Sort.{Sort}
use Rattle.rw_terms.specs.declared.term.Sort.TheVariants.{Int, Array}
use Rattle.rw_terms.specs.declared.term.Term.{Term}
use Rattle.rw_terms.specs.declared.term.Term.TheVariants.{Lit}
use Rattle.rw_terms.specs.declared.term.Term.TheOpen.{Term-F}
use Rattle.rw_terms.specs.declared.term.Term.TheFolds.{para-Term}
use Rattle.rw_terms.specs.declared.term.Formula.{Formula}
use Rattle.rw_terms.specs.declared.term.Formula.TheVariants.{Eq, Less, AtMost, Not}
use Rattle.rw_terms.specs.declared.term.Formula.TheOpen.{Formula-F}
use Rattle.rw_terms.specs.declared.term.Formula.TheFolds.{fold-Formula}
use Rattle.rw_terms.specs.declared.scope.Entry.{Entry}
use Rattle.rw_terms.specs.Sorts.{sort_report}
use Rattle.rw_subst.specs.Conj.{conj}

-- the length of an array by its sort
abbrev pub array_length : Option Sort → ℕ
array_length (Some (Array n)) = n
array_length (Some Int) = 0
array_length None = 0

-- the divisor is not 0
abbrev pub nonzero : Term → Formula
nonzero t = Not (Eq t (Lit (pos 0)))

-- the index is not negative, and below the length
abbrev pub not_negative : Term → Formula
not_negative i = AtMost (Lit (pos 0)) i

abbrev pub below : Term → ℕ → Formula
below i n = Less i (Lit (pos n))

abbrev pub appended : List (List Formula) → List Formula
appended [] = []
appended (fs ∷ more) = fs ++ appended more

module _ (scope : List Entry) where
  -- the index is within the array
  abbrev pub in_range : Term → Term → List Formula
  in_range a i = not_negative i ∷ below i (array_length (sort_report scope [] a).sort) ∷ []

  -- the conditions of a part behind those of its own parts
  abbrev pub conditions_step : Term-F (Term × List Formula) → List Formula
  conditions_step (Term-F.Lit _) = []
  conditions_step (Term-F.Var _) = []
  conditions_step (Term-F.Init _) = []
  conditions_step (Term-F.Const _) = []
  conditions_step (Term-F.Bound _) = []
  conditions_step (Term-F.Neg a) = a.1
  conditions_step (Term-F.Add a b) = a.1 ++ b.1
  conditions_step (Term-F.Sub a b) = a.1 ++ b.1
  conditions_step (Term-F.Mul a b) = a.1 ++ b.1
  conditions_step (Term-F.Div a b) = (a.1 ++ b.1) ++ nonzero b.0 ∷ []
  conditions_step (Term-F.Mod a b) = (a.1 ++ b.1) ++ nonzero b.0 ∷ []
  conditions_step (Term-F.Read a i) = (a.1 ++ i.1) ++ in_range a.0 i.0
  conditions_step (Term-F.Put a i e) = ((a.1 ++ i.1) ++ e.1) ++ in_range a.0 i.0
  conditions_step (Term-F.Fun _ args) = appended (map (λ a. a.1) args)

  -- in order of text, inner parts first
  abbrev pub conditions : Term → List Formula
  conditions = para-Term (List Formula) conditions_step

  abbrev pub conditions_of : List Term → List Formula
  conditions_of ts = appended (map conditions ts)

  -- those of all terms of a guard, whatever its connectives
  abbrev pub guard_conditions_step : Formula-F (List Formula) → List Formula
  guard_conditions_step Formula-F.True = []
  guard_conditions_step Formula-F.False = []
  guard_conditions_step (Formula-F.Eq t u) = conditions t ++ conditions u
  guard_conditions_step (Formula-F.Less t u) = conditions t ++ conditions u
  guard_conditions_step (Formula-F.AtMost t u) = conditions t ++ conditions u
  guard_conditions_step (Formula-F.Not f) = f
  guard_conditions_step (Formula-F.And f g) = f ++ g
  guard_conditions_step (Formula-F.Or f g) = f ++ g
  guard_conditions_step (Formula-F.Imp f g) = f ++ g
  guard_conditions_step (Formula-F.All _ f) = f
  guard_conditions_step (Formula-F.Any _ f) = f
  guard_conditions_step (Formula-F.App _ args) = conditions_of args

  abbrev pub guard_conditions : Formula → List Formula
  guard_conditions = fold-Formula (List Formula) guard_conditions_step

  -- the formula that says that a term is defined, and that a guard is
  abbrev pub definedness : Term → Formula
  definedness t = conj (conditions t)

  abbrev pub guard_definedness : Formula → Formula
  guard_definedness f = conj (guard_conditions f)

  -- and that each of some terms is
  abbrev pub definedness_of : List Term → Formula
  definedness_of ts = conj (conditions_of ts)
