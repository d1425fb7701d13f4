-- Where initial variables stand, and names that stand twice in a list.
use Rattle.std.specs.Prelude.{ℕ, Bool, false, not, ◌||◌, List, [], ◌∷◌, map}
use Rattle.std.specs.List.{list_any}
use Rattle.std.specs.Str.{bytes_eq}
use Rattle.rw_terms.specs.declared.term.Term.{Term}
use Rattle.rw_terms.specs.declared.term.Term.TheOpen.{Term-F}
use Rattle.rw_terms.specs.declared.term.Term.TheFolds.{fold-Term}
use Rattle.rw_terms.specs.declared.term.Formula.{Formula}
use Rattle.rw_terms.specs.declared.term.Formula.TheOpen.{Formula-F}
use Rattle.rw_terms.specs.declared.term.Formula.TheFolds.{fold-Formula}
use Rattle.rw_terms.specs.Mentions.{any_of}

-- a name is among these
abbrev pub is_listed : List (List ℕ) → List ℕ → Bool
is_listed names x = list_any (bytes_eq x) names

-- some name stands twice in the list
abbrev pub is_twice : List (List ℕ) → Bool
is_twice [] = false
is_twice (x ∷ names) = is_listed names x || is_twice names

module _ (names : List (List ℕ)) where
  abbrev pub outside_step : Term-F Bool → Bool
  outside_step (Term-F.Lit _) = false
  outside_step (Term-F.Var _) = false
  outside_step (Term-F.Init x) = not (is_listed names x)
  outside_step (Term-F.Const _) = false
  outside_step (Term-F.Bound _) = false
  outside_step (Term-F.Neg a) = a
  outside_step (Term-F.Add a b) = a || b
  outside_step (Term-F.Sub a b) = a || b
  outside_step (Term-F.Mul a b) = a || b
  outside_step (Term-F.Div a b) = a || b
  outside_step (Term-F.Mod a b) = a || b
  outside_step (Term-F.Read a i) = a || i
  outside_step (Term-F.Put a i e) = a || i || e
  outside_step (Term-F.Fun _ args) = any_of args

  -- an initial variable of a name that is not among these stands in the term
  abbrev pub term_outside : Term → Bool
  term_outside = fold-Term Bool outside_step

  abbrev pub terms_outside : List Term → Bool
  terms_outside ts = any_of (map term_outside ts)

  abbrev pub formula_outside_step : Formula-F Bool → Bool
  formula_outside_step Formula-F.True = false
  formula_outside_step Formula-F.False = false
  formula_outside_step (Formula-F.Eq t u) = term_outside t || term_outside u
  formula_outside_step (Formula-F.Less t u) = term_outside t || term_outside u
  formula_outside_step (Formula-F.AtMost t u) = term_outside t || term_outside u
  formula_outside_step (Formula-F.Not f) = f
  formula_outside_step (Formula-F.And f g) = f || g
  formula_outside_step (Formula-F.Or f g) = f || g
  formula_outside_step (Formula-F.Imp f g) = f || g
  formula_outside_step (Formula-F.All _ f) = f
  formula_outside_step (Formula-F.Any _ f) = f
  formula_outside_step (Formula-F.App _ args) = terms_outside args

  -- the same of a formula
  abbrev pub initial_outside : Formula → Bool
  initial_outside = fold-Formula Bool formula_outside_step
