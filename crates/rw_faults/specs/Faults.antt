-- The two kinds of fault apart: names that are not known, and parts with a sort that their rule does not take.
use Rattle.std.specs.Prelude.{◌≡◌, ◌↔◌, ℕ, IsTrue, Bool, true, false, not, ◌&&◌, ◌||◌, nat_eq, length, List, [], ◌∷◌, map, find, Option, Some, None, slice_get}
use Rattle.rw_terms.specs.declared.term.Sort.{Sort}
use Rattle.rw_terms.specs.declared.term.Sort.TheVariants.{Int}
use Rattle.rw_terms.specs.declared.term.Term.{Term}
use Rattle.rw_terms.specs.declared.term.Term.TheOpen.{Term-F}
use Rattle.rw_terms.specs.declared.term.Term.TheFolds.{fold-Term}
use Rattle.rw_terms.specs.declared.term.Formula.{Formula}
use Rattle.rw_terms.specs.declared.term.Formula.TheOpen.{Formula-F}
use Rattle.rw_terms.specs.declared.term.Formula.TheFolds.{fold-Formula}
use Rattle.rw_terms.specs.declared.scope.Entry.{Entry}
use Rattle.rw_terms.specs.declared.scope.Head.{Head}
use Rattle.rw_faults.specs.declared.faults.Checked.{Checked}
use Rattle.rw_terms.specs.Sorts.{variable_sort, constant_sort, is_literal, may_be_int, may_be_array}
use Rattle.rw_terms.specs.Formed.{may_be, may_equal, is_sort, is_head}
use Rattle.rw_terms.specs.Rules.{keeps_rules}

-- a name, unless it has a sort
abbrev pub unless_known : List ℕ → Option Sort → Option (List ℕ)
unless_known x None = Some x
unless_known x (Some s) = None

-- the first of two names, if any
abbrev pub first_name : Option (List ℕ) → Option (List ℕ) → Option (List ℕ)
first_name None y = y
first_name (Some x) y = Some x

abbrev pub first_of_names : List (Option (List ℕ)) → Option (List ℕ)
first_of_names [] = None
first_of_names (x ∷ xs) = first_name x (first_of_names xs)

-- a predicate without a head, or else the first name among its arguments
abbrev pub unknown_predicate : Option Head → List ℕ → Option (List ℕ) → Option (List ℕ)
unknown_predicate None p args = Some p
unknown_predicate (Some head) p args = args

module _ (scope : List Entry) where
  abbrev pub unknown_step : Term-F (Option (List ℕ)) → Option (List ℕ)
  unknown_step (Term-F.Lit _) = None
  unknown_step (Term-F.Var x) = unless_known x (variable_sort scope x)
  unknown_step (Term-F.Init x) = unless_known x (variable_sort scope x)
  unknown_step (Term-F.Const x) = unless_known x (constant_sort scope x)
  unknown_step (Term-F.Bound _) = None
  unknown_step (Term-F.Neg a) = a
  unknown_step (Term-F.Add a b) = first_name a b
  unknown_step (Term-F.Sub a b) = first_name a b
  unknown_step (Term-F.Mul a b) = first_name a b
  unknown_step (Term-F.Div a b) = first_name a b
  unknown_step (Term-F.Mod a b) = first_name a b
  unknown_step (Term-F.Read a i) = first_name a i
  unknown_step (Term-F.Put a i e) = first_name a (first_name i e)
  unknown_step (Term-F.Fun f _) = Some f

  -- the first name in preorder that the scope does not have in its form
  abbrev pub unknown_in_term : Term → Option (List ℕ)
  unknown_in_term = fold-Term (Option (List ℕ)) unknown_step

  module _ (heads : List Head) where
    abbrev pub formula_unknown_step : Formula-F (Option (List ℕ)) → Option (List ℕ)
    formula_unknown_step Formula-F.True = None
    formula_unknown_step Formula-F.False = None
    formula_unknown_step (Formula-F.Eq t u) = first_name (unknown_in_term t) (unknown_in_term u)
    formula_unknown_step (Formula-F.Less t u) = first_name (unknown_in_term t) (unknown_in_term u)
    formula_unknown_step (Formula-F.AtMost t u) = first_name (unknown_in_term t) (unknown_in_term u)
    formula_unknown_step (Formula-F.Not f) = f
    formula_unknown_step (Formula-F.And f g) = first_name f g
    formula_unknown_step (Formula-F.Or f g) = first_name f g
    formula_unknown_step (Formula-F.Imp f g) = first_name f g
    formula_unknown_step (Formula-F.All _ f) = f
    formula_unknown_step (Formula-F.Any _ f) = f
    formula_unknown_step (Formula-F.App p args) = unknown_predicate (find (is_head p) heads) p (first_of_names (map unknown_in_term args))

    -- the first name in preorder that the scope does not have in its form, or predicate that has no head
    abbrev pub unknown_in : Formula → Option (List ℕ)
    unknown_in = fold-Formula (Option (List ℕ)) formula_unknown_step

module _ (heads : List Head) where
  abbrev pub predicate_step : Formula-F (Option (List ℕ)) → Option (List ℕ)
  predicate_step Formula-F.True = None
  predicate_step Formula-F.False = None
  predicate_step (Formula-F.Eq t u) = None
  predicate_step (Formula-F.Less t u) = None
  predicate_step (Formula-F.AtMost t u) = None
  predicate_step (Formula-F.Not f) = f
  predicate_step (Formula-F.And f g) = first_name f g
  predicate_step (Formula-F.Or f g) = first_name f g
  predicate_step (Formula-F.Imp f g) = first_name f g
  predicate_step (Formula-F.All _ f) = f
  predicate_step (Formula-F.Any _ f) = f
  predicate_step (Formula-F.App p args) = unknown_predicate (find (is_head p) heads) p None

  -- the first predicate in preorder that has no head
  abbrev pub predicate_unknown_in : Formula → Option (List ℕ)
  predicate_unknown_in = fold-Formula (Option (List ℕ)) predicate_step

abbrev pub leaf : Option Sort → Bool → Checked
leaf sort bad = record { sort = sort; bad = bad }

-- a bound variable is one of a binder that is there
abbrev pub of_binder : Option Sort → Checked
of_binder None = leaf None true
of_binder (Some s) = leaf (Some s) false

abbrev pub on_int : Checked → Checked
on_int a = leaf (Some Int) (not (may_be_int a.sort) || a.bad)

abbrev pub on_ints : Checked → Checked → Checked
on_ints a b = leaf (Some Int) (not (may_be_int a.sort && may_be_int b.sort) || (a.bad || b.bad))

abbrev pub on_read : Checked → Checked → Checked
on_read a i = leaf (Some Int) (not (may_be_array a.sort && may_be_int i.sort) || (a.bad || i.bad))

abbrev pub on_put : Checked → Checked → Checked → Checked
on_put a i e = leaf a.sort (not (may_be_array a.sort && may_be_int i.sort && may_be_int e.sort) || (a.bad || (i.bad || e.bad)))

abbrev pub any_bad : List Checked → Bool
any_bad [] = false
any_bad (a ∷ more) = a.bad || any_bad more

-- each term of the sort in its place, as far as both lists go and its sort is known
abbrev pub each_fits : List Sort → List Checked → Bool
each_fits [] more = true
each_fits (s ∷ ss) [] = true
each_fits (s ∷ ss) (a ∷ more) = may_be s a.sort && each_fits ss more

-- as many terms as sorts, of these sorts in order
abbrev pub fit_in : List Sort → List Checked → Bool
fit_in ss more = nat_eq (length ss) (length more) && each_fits ss more

-- a predicate takes the terms of its head
abbrev pub bad_application : Option Head → List Checked → Bool
bad_application None args = any_bad args
bad_application (Some head) args = not (fit_in head.sorts args) || any_bad args

module _ (scope : List Entry) where
  abbrev pub checked_step : List Sort → Term-F Checked → Checked
  checked_step binders (Term-F.Lit n) = leaf (Some Int) (not (is_literal n))
  checked_step binders (Term-F.Var x) = leaf (variable_sort scope x) false
  checked_step binders (Term-F.Init x) = leaf (variable_sort scope x) false
  checked_step binders (Term-F.Const x) = leaf (constant_sort scope x) false
  checked_step binders (Term-F.Bound k) = of_binder (slice_get binders k)
  checked_step binders (Term-F.Neg a) = on_int a
  checked_step binders (Term-F.Add a b) = on_ints a b
  checked_step binders (Term-F.Sub a b) = on_ints a b
  checked_step binders (Term-F.Mul a b) = on_ints a b
  checked_step binders (Term-F.Div a b) = on_ints a b
  checked_step binders (Term-F.Mod a b) = on_ints a b
  checked_step binders (Term-F.Read a i) = on_read a i
  checked_step binders (Term-F.Put a i e) = on_put a i e
  checked_step binders (Term-F.Fun _ args) = leaf None (any_bad args)

  -- the sort that a term gives, and whether some part has a sort that its rule does not take, where the sort of an unknown name is
  -- unknown
  abbrev pub checked : List Sort → Term → Checked
  checked binders = fold-Term Checked (checked_step binders)

  module _ (heads : List Head) where
    abbrev pub ill_step : Formula-F (List Sort → Bool) → List Sort → Bool
    ill_step Formula-F.True binders = false
    ill_step Formula-F.False binders = false
    ill_step (Formula-F.Eq t u) binders = not (may_equal (checked binders t).sort (checked binders u).sort) || ((checked binders t).bad || (checked binders u).bad)
    ill_step (Formula-F.Less t u) binders = (on_ints (checked binders t) (checked binders u)).bad
    ill_step (Formula-F.AtMost t u) binders = (on_ints (checked binders t) (checked binders u)).bad
    ill_step (Formula-F.Not f) binders = f binders
    ill_step (Formula-F.And f g) binders = f binders || g binders
    ill_step (Formula-F.Or f g) binders = f binders || g binders
    ill_step (Formula-F.Imp f g) binders = f binders || g binders
    ill_step (Formula-F.All sort f) binders = not (is_sort sort) || f (sort ∷ binders)
    ill_step (Formula-F.Any sort f) binders = not (is_sort sort) || f (sort ∷ binders)
    ill_step (Formula-F.App p args) binders = bad_application (find (is_head p) heads) (map (checked binders) args)

    -- whether some part has a sort that its rule does not take, where the sort of an unknown name is unknown
    abbrev pub is_ill_sorted : Formula → List Sort → Bool
    is_ill_sorted = fold-Formula (List Sort → Bool) ill_step

-- a formula keeps the rules exactly where it has no unknown name and is not ill-sorted
abbrev pub FaultsApart : Type 0
FaultsApart =
    (scope : List Entry) (heads : List Head) (f : Formula) (binders : List Sort) →
    IsTrue (keeps_rules scope heads f binders) ↔ ((unknown_in scope heads f ≡ None) × (is_ill_sorted scope heads f binders ≡ false))
