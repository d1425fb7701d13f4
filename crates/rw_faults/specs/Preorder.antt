-- The parts of a term and of a formula in preorder, and the first of them that breaks its own rule.
use Rattle.std.specs.Prelude.{◌≡◌, ℕ, ◌+◌, ◌&&◌, List, [], ◌∷◌, ◌++◌, map, find, Option, Some, None, slice_get}
use Rattle.std.specs.List.{flat_map}
use Rattle.rw_terms.specs.declared.error.TermError.{TermError}
use Rattle.rw_terms.specs.declared.error.TermError.TheVariants.{UnknownName}
use Rattle.rw_terms.specs.declared.term.Sort.{Sort}
use Rattle.rw_terms.specs.declared.term.Term.{Term}
use Rattle.rw_terms.specs.declared.term.Term.TheOpen.{Term-F}
use Rattle.rw_terms.specs.declared.term.Term.TheViews.{roll-Term, out-Term}
use Rattle.rw_terms.specs.declared.term.Term.TheFolds.{fold-Term, map-Term}
use Rattle.rw_terms.specs.declared.term.Formula.{Formula}
use Rattle.rw_terms.specs.declared.term.Formula.TheOpen.{Formula-F}
use Rattle.rw_terms.specs.declared.term.Formula.TheViews.{roll-Formula, out-Formula}
use Rattle.rw_terms.specs.declared.term.Formula.TheFolds.{fold-Formula, map-Formula}
use Rattle.rw_terms.specs.declared.scope.Entry.{Entry}
use Rattle.rw_terms.specs.declared.scope.Head.{Head}
use Rattle.rw_terms.specs.Sorts.{SortReport, sort_report, variable_sort, constant_sort, is_literal, unless, named, bound, may_be_int, may_be_array, first_of}
use Rattle.rw_terms.specs.Formed.{formula_report, may_equal, is_sort, is_head, takes}

-- a term with its parts in preorder
abbrev pub Listed : Type 0
Listed = Term × List Term

-- the parts of a term's own parts, one after another
abbrev pub parts_below : Term-F Listed → List Term
parts_below (Term-F.Lit _) = []
parts_below (Term-F.Var _) = []
parts_below (Term-F.Init _) = []
parts_below (Term-F.Const _) = []
parts_below (Term-F.Bound _) = []
parts_below (Term-F.Neg a) = a.1
parts_below (Term-F.Add a b) = a.1 ++ b.1
parts_below (Term-F.Sub a b) = a.1 ++ b.1
parts_below (Term-F.Mul a b) = a.1 ++ b.1
parts_below (Term-F.Div a b) = a.1 ++ b.1
parts_below (Term-F.Mod a b) = a.1 ++ b.1
parts_below (Term-F.Read a i) = a.1 ++ i.1
parts_below (Term-F.Put a i e) = a.1 ++ i.1 ++ e.1
parts_below (Term-F.Fun _ args) = flat_map (λ a. a.1) args

abbrev pub listed_step : Term-F Listed → Listed
listed_step x = let t = roll-Term (map-Term Listed Term (λ a. a.0) x) in (t, t ∷ parts_below x)

-- the parts of a term in preorder, the term itself first
abbrev pub preorder : Term → List Term
preorder t = (fold-Term Listed listed_step t).1

module _ (scope : List Entry) (binders : List Sort) where
  -- the sort that a part gives, whether or not its own parts keep the rules
  abbrev pub gives : Term → Option Sort
  gives t = (sort_report scope binders t).sort

  -- whether a part breaks its own rule, as far as its own parts give sorts
  abbrev pub own_fault : Term-F Term → ℕ → Option TermError
  own_fault (Term-F.Lit n) = unless (is_literal n)
  own_fault (Term-F.Var x) = (named x (variable_sort scope x)).fault
  own_fault (Term-F.Init x) = (named x (variable_sort scope x)).fault
  own_fault (Term-F.Const x) = (named x (constant_sort scope x)).fault
  own_fault (Term-F.Bound k) = (bound (slice_get binders k)).fault
  own_fault (Term-F.Neg a) = unless (may_be_int (gives a))
  own_fault (Term-F.Add a b) = unless (may_be_int (gives a) && may_be_int (gives b))
  own_fault (Term-F.Sub a b) = unless (may_be_int (gives a) && may_be_int (gives b))
  own_fault (Term-F.Mul a b) = unless (may_be_int (gives a) && may_be_int (gives b))
  own_fault (Term-F.Div a b) = unless (may_be_int (gives a) && may_be_int (gives b))
  own_fault (Term-F.Mod a b) = unless (may_be_int (gives a) && may_be_int (gives b))
  own_fault (Term-F.Read a i) = unless (may_be_array (gives a) && may_be_int (gives i))
  own_fault (Term-F.Put a i e) = unless (may_be_array (gives a) && may_be_int (gives i) && may_be_int (gives e))
  own_fault (Term-F.Fun f args) = λ place. Some (UnknownName f)

  -- the first of some parts that breaks its rule, where they are numbered from a place on
  abbrev pub first_broken : List Term → ℕ → Option TermError
  first_broken [] place = None
  first_broken (t ∷ ts) place = first_of (own_fault (out-Term t) place) (first_broken ts (place + 1))

-- what is told of a term is the first of its parts in preorder that breaks its rule
abbrev pub FirstInPreorder : Type 0
FirstInPreorder = (scope : List Entry) (binders : List Sort) (t : Term) (place : ℕ) → (sort_report scope binders t).fault place ≡ first_broken scope binders (preorder t) place

-- a part of a formula, with the sorts of the binders round it, the innermost first
pub data Part : Type 0 where
  OfTerm : List Sort → Term → Part
  OfFormula : List Sort → Formula → Part

-- a formula with its parts in preorder, for the binders round it
abbrev pub ListedFormula : Type 0
ListedFormula = Formula × (List Sort → List Part)

-- the parts of a term, as parts of a formula
abbrev pub parts_of_term : List Sort → Term → List Part
parts_of_term binders t = map (OfTerm binders) (preorder t)

-- the parts of a formula's own parts, one after another
abbrev pub formula_parts_below : Formula-F ListedFormula → List Sort → List Part
formula_parts_below Formula-F.True binders = []
formula_parts_below Formula-F.False binders = []
formula_parts_below (Formula-F.Eq t u) binders = parts_of_term binders t ++ parts_of_term binders u
formula_parts_below (Formula-F.Less t u) binders = parts_of_term binders t ++ parts_of_term binders u
formula_parts_below (Formula-F.AtMost t u) binders = parts_of_term binders t ++ parts_of_term binders u
formula_parts_below (Formula-F.Not f) binders = f.1 binders
formula_parts_below (Formula-F.And f g) binders = f.1 binders ++ g.1 binders
formula_parts_below (Formula-F.Or f g) binders = f.1 binders ++ g.1 binders
formula_parts_below (Formula-F.Imp f g) binders = f.1 binders ++ g.1 binders
formula_parts_below (Formula-F.All sort f) binders = f.1 (sort ∷ binders)
formula_parts_below (Formula-F.Any sort f) binders = f.1 (sort ∷ binders)
formula_parts_below (Formula-F.App p args) binders = flat_map (parts_of_term binders) args

abbrev pub listed_formula_step : Formula-F ListedFormula → ListedFormula
listed_formula_step x = let f = roll-Formula (map-Formula ListedFormula Formula (λ a. a.0) x) in (f, λ binders. OfFormula binders f ∷ formula_parts_below x binders)

-- the parts of a formula in preorder, the formula itself first
abbrev pub formula_preorder : Formula → List Sort → List Part
formula_preorder f = (fold-Formula ListedFormula listed_formula_step f).1

module _ (scope : List Entry) (heads : List Head) where
  abbrev pub application_fault : Option Head → List ℕ → List SortReport → ℕ → Option TermError
  application_fault None p args place = Some (UnknownName p)
  application_fault (Some head) p args place = unless (takes head.sorts args) place

  -- whether a formula breaks its own rule, as far as its terms give sorts
  abbrev pub formula_own_fault : List Sort → Formula-F Formula → ℕ → Option TermError
  formula_own_fault binders (Formula-F.Eq t u) = unless (may_equal (gives scope binders t) (gives scope binders u))
  formula_own_fault binders (Formula-F.Less t u) = unless (may_be_int (gives scope binders t) && may_be_int (gives scope binders u))
  formula_own_fault binders (Formula-F.AtMost t u) = unless (may_be_int (gives scope binders t) && may_be_int (gives scope binders u))
  formula_own_fault binders (Formula-F.All sort f) = unless (is_sort sort)
  formula_own_fault binders (Formula-F.Any sort f) = unless (is_sort sort)
  formula_own_fault binders (Formula-F.App p args) = application_fault (find (is_head p) heads) p (map (sort_report scope binders) args)
  formula_own_fault binders Formula-F.True = λ place. None
  formula_own_fault binders Formula-F.False = λ place. None
  formula_own_fault binders (Formula-F.Not _) = λ place. None
  formula_own_fault binders (Formula-F.And _ _) = λ place. None
  formula_own_fault binders (Formula-F.Or _ _) = λ place. None
  formula_own_fault binders (Formula-F.Imp _ _) = λ place. None

  abbrev pub part_fault : Part → ℕ → Option TermError
  part_fault (OfTerm binders t) = own_fault scope binders (out-Term t)
  part_fault (OfFormula binders f) = formula_own_fault binders (out-Formula f)

  -- the first of some parts that breaks its rule, where they are numbered from a place on
  abbrev pub first_broken_part : List Part → ℕ → Option TermError
  first_broken_part [] place = None
  first_broken_part (p ∷ ps) place = first_of (part_fault p place) (first_broken_part ps (place + 1))

-- what is told of a formula is the first of its parts in preorder that breaks its rule
abbrev pub FirstInFormula : Type 0
FirstInFormula =
    (scope : List Entry) (heads : List Head) (f : Formula) (binders : List Sort) (place : ℕ) →
    (formula_report scope heads f).fault binders place ≡ first_broken_part scope heads (formula_preorder f binders) place
