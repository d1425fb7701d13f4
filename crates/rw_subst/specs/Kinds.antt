-- Names in the forms that their kinds allow.
use Rattle.std.specs.Prelude.{◌≡◌, ℕ, Bool, true, ◌&&◌, is_some, List, [], ◌∷◌, Some, IsTrue}
use Rattle.rw_terms.specs.declared.term.Sort.{Sort}
use Rattle.rw_terms.specs.declared.term.Term.{Term}
use Rattle.rw_terms.specs.declared.term.Formula.{Formula}
use Rattle.rw_terms.specs.declared.scope.Entry.{Entry}
use Rattle.rw_terms.specs.declared.scope.Head.{Head}
use Rattle.rw_terms.specs.Sorts.{variable_sort, constant_sort}
use Rattle.rw_terms.specs.Rules.{sort_in, keeps_rules}
use Rattle.rw_subst.specs.declared.slot.Form.{Form}
use Rattle.rw_subst.specs.declared.slot.Form.TheVariants as form
use Rattle.rw_subst.specs.declared.slot.Slot.{Slot}
use Rattle.rw_subst.specs.declared.slot.Slot.TheVariants as slot
use Rattle.rw_subst.specs.Stands.{stands_in_term, stands_in, AreApart}

-- a constant of the scope stands as constant, and each other name of it as variable and as initial variable
abbrev pub is_allowed_as : List Entry → Form → List ℕ → Bool
is_allowed_as scope form.Variable x = is_some (variable_sort scope x)
is_allowed_as scope form.Initial x = is_some (variable_sort scope x)
is_allowed_as scope form.Constant x = is_some (constant_sort scope x)

abbrev pub is_allowed : List Entry → Slot → Bool
is_allowed scope (slot.Var x) = is_allowed_as scope form.Variable x
is_allowed scope (slot.Init x) = is_allowed_as scope form.Initial x
is_allowed scope (slot.Const x) = is_allowed_as scope form.Constant x

abbrev pub are_allowed : List Entry → List Slot → Bool
are_allowed scope [] = true
are_allowed scope (s ∷ ss) = is_allowed scope s && are_allowed scope ss

-- In a formula that keeps the rules of sorts, and slots that its scope allows, no name stands both as variable and as constant.
abbrev pub NamesHaveOneKind : Type 0
NamesHaveOneKind =
    (scope : List Entry) (heads : List Head) (f : Formula) (binders : List Sort) (slots : List Slot) →
    IsTrue (keeps_rules scope heads f binders) → IsTrue (are_allowed scope slots) → AreApart (λ form x. stands_in form x f) slots

-- The same of a term that has a sort.
abbrev pub NamesOfTermsHaveOneKind : Type 0
NamesOfTermsHaveOneKind =
    (scope : List Entry) (t : Term) (binders : List Sort) (sort : Sort) (slots : List Slot) →
    sort_in scope binders t ≡ Some sort → IsTrue (are_allowed scope slots) → AreApart (λ form x. stands_in_term form x t) slots
