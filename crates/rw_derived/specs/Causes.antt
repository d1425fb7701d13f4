-- The causes why a basic law does not fit, but for the limits and for names twice in a list, which come last. Each test is made only
-- where those before it do not hold.
use Rattle.std.specs.Prelude.{ℕ, Bool, true, false, not, ◌&&◌, ◌||◌, nat_eq, length, is_some, List, [], ◌∷◌, map, find, Option, Some, None}
use Rattle.std.specs.List.{list_any}
use Rattle.rw_terms.specs.declared.term.Term.{Term}
use Rattle.rw_terms.specs.declared.term.Formula.{Formula}
use Rattle.rw_terms.specs.declared.scope.Entry.{Entry}
use Rattle.rw_terms.specs.declared.scope.Head.{Head}
use Rattle.rw_terms.specs.declared.scope.Kind.{Kind}
use Rattle.rw_terms.specs.declared.scope.Kind.TheVariants as kind
use Rattle.rw_terms.specs.Scopes.{has_name, is_fresh}
use Rattle.rw_terms.specs.Mentions.{mentions}
use Rattle.rw_terms.specs.Sorts.{variable_sort}
use Rattle.rw_terms.specs.Formed.{may_equal}
use Rattle.rw_faults.specs.Faults.{checked, is_ill_sorted, unknown_in, unknown_in_term, first_of_names}
use Rattle.rw_faults.specs.Initial.{is_listed, is_twice, term_outside, terms_outside, initial_outside}
use Rattle.rw_programs.specs.declared.prog.Spec.{Spec}
use Rattle.rw_programs.specs.declared.applied.Misfit.{Misfit}
use Rattle.rw_programs.specs.declared.applied.Misfit.TheVariants as cause
use Rattle.rw_terms.specs.AllOf.{all_of}
use Rattle.rw_programs.specs.CodeTest.{is_plain}
use Rattle.rw_derived.specs.Derived.{with_constants}

-- the cause where its test holds, and else what comes behind it
abbrev pub cause_if : Bool → Misfit → Option Misfit → Option Misfit
cause_if true m behind = Some m
cause_if false m behind = behind

-- the test holds of each name
abbrev pub each_is : (List ℕ → Bool) → List (List ℕ) → Bool
each_is test names = all_of (map test names)

-- a formula that is ill-sorted, or has an unknown name
unfoldable pub formula_cause : List Entry → List Head → Formula → Option Misfit
formula_cause scope heads f = cause_if (is_ill_sorted scope heads f []) cause.Sort (cause_if (is_some (unknown_in scope heads f)) cause.Unknown None)

-- a new formula, in which no initial variables but those of these names may stand
unfoldable pub new_cause : List Entry → List Head → List (List ℕ) → Formula → Option Misfit
new_cause scope heads names f = cause_if (initial_outside names f) cause.InitialNotAllowed (formula_cause scope heads f)

-- `seq`: no initial variable may stand in the parent's postcondition either
unfoldable pub seq_cause : List Entry → List Head → Spec → Formula → Option Misfit
seq_cause scope heads w f = cause_if (initial_outside [] w.post) cause.InitialNotAllowed (new_cause scope heads [] f)

abbrev pub is_module_kind : Kind → Bool
is_module_kind kind.Global = false
is_module_kind kind.Local = false
is_module_kind kind.Constant = false
is_module_kind kind.Value = false
is_module_kind kind.Outcome = false
is_module_kind kind.Module = true

-- a name that keeps its value: one of kind value, or a constant
abbrev pub is_fixed_kind : Kind → Bool
is_fixed_kind kind.Global = false
is_fixed_kind kind.Local = false
is_fixed_kind kind.Constant = true
is_fixed_kind kind.Value = true
is_fixed_kind kind.Outcome = false
is_fixed_kind kind.Module = false

-- the name is in scope, of a kind that passes the test
abbrev pub is_entry_of : (Kind → Bool) → Option Entry → Bool
is_entry_of test None = false
is_entry_of test (Some e) = test e.kind

abbrev pub is_kind : (Kind → Bool) → List Entry → List ℕ → Bool
is_kind test scope x = is_entry_of test (find (has_name x) scope)

-- no initial variable, constant or variable of a module is in the term
abbrev pub speaks_of_module : List Entry → Term → Bool
speaks_of_module scope t = list_any (λ e. is_module_kind e.kind && mentions e.name t) scope

abbrev pub is_code_term : List Entry → Term → Bool
is_code_term scope t = is_plain t && not (speaks_of_module scope t)

abbrev pub are_code_terms : List Entry → List Term → Bool
are_code_terms scope terms = all_of (map (is_code_term scope) terms)

-- the name is in the frame, and is no variable of a module
abbrev pub is_assignable : List Entry → List (List ℕ) → List ℕ → Bool
is_assignable scope frame x = is_listed frame x && not (is_kind is_module_kind scope x)

-- the term is ill-sorted, or has another sort than the variable
abbrev pub is_ill_set : List Entry → List ℕ → Term → Bool
is_ill_set scope x t = not (may_equal (variable_sort scope x) (checked scope [] t).sort) || (checked scope [] t).bad

abbrev pub any_ill_set : List Entry → List (List ℕ) → List Term → Bool
any_ill_set scope [] terms = false
any_ill_set scope (x ∷ names) [] = false
any_ill_set scope (x ∷ names) (t ∷ terms) = is_ill_set scope x t || any_ill_set scope names terms

-- an assignment to names of the frame
unfoldable pub assign_cause : List Entry → Spec → List (List ℕ) → List Term → Option Misfit
assign_cause scope w names terms =
    cause_if (not (nat_eq (length names) (length terms))) cause.Shape
    (cause_if (terms_outside [] terms) cause.InitialNotAllowed
    (cause_if (not (are_code_terms scope terms)) cause.NotCode
    (cause_if (not (each_is (is_assignable scope w.frame) names)) cause.NotInFrame
    (cause_if (any_ill_set scope names terms) cause.Sort
    (cause_if (is_some (first_of_names (map (unknown_in_term scope) terms))) cause.Unknown None)))))

-- the names are new to the scope, and none stands twice
abbrev pub are_fresh : List Entry → List (List ℕ) → Bool
are_fresh scope names = each_is (λ x. is_fresh x scope) names && not (is_twice names)

-- `seqcon`: a constant for each name of the frame; the formula is read where the constants are in scope
unfoldable pub seqcon_cause : List Entry → List Head → Spec → List (List ℕ) → Formula → Option Misfit
seqcon_cause scope heads w names f =
    cause_if (not (nat_eq (length names) (length w.frame))) cause.Shape
    (cause_if (initial_outside w.frame f) cause.InitialNotAllowed
    (cause_if (not (are_fresh scope names)) cause.NotFresh
    (formula_cause (with_constants scope w.frame names) heads f)))

-- `con`: a new constant and its term
unfoldable pub con_cause : List Entry → List ℕ → Term → Option Misfit
con_cause scope x t =
    cause_if (term_outside [] t) cause.InitialNotAllowed
    (cause_if (not (is_fresh x scope)) cause.NotFresh
    (cause_if (checked scope [] t).bad cause.Sort
    (cause_if (is_some (unknown_in_term scope t)) cause.Unknown None)))

-- `contract`: the names are in the frame
unfoldable pub contract_cause : Spec → List (List ℕ) → Option Misfit
contract_cause w names = cause_if (not (each_is (is_listed w.frame) names)) cause.NotInFrame None

-- `expand`: the names are not in the frame, are no values and constants, and are in scope
unfoldable pub expand_cause : List Entry → Spec → List (List ℕ) → Option Misfit
expand_cause scope w names =
    cause_if (list_any (is_listed w.frame) names) cause.NotFresh
    (cause_if (list_any (is_kind is_fixed_kind scope) names) cause.NotInFrame
    (cause_if (list_any (λ x. is_fresh x scope) names) cause.Unknown None))
