-- The causes why a call does not fit.
use Rattle.std.specs.Option.{option_map}
use Rattle.std.specs.Prelude.{Bool, true, false, not, ◌||◌, is_some, is_none, List, [], ◌∷◌, map, Option, Some, None}
use Rattle.rw_terms.specs.declared.scope.Entry.{Entry}
use Rattle.rw_terms.specs.declared.scope.Head.{Head}
use Rattle.rw_terms.specs.declared.term.Term.{Term}
use Rattle.rw_terms.specs.Sorts.{variable_sort}
use Rattle.rw_terms.specs.Rules.{is_of}
use Rattle.rw_faults.specs.Faults.{bad_application, checked, unknown_in_term, first_of_names}
use Rattle.rw_faults.specs.Initial.{terms_outside}
use Rattle.rw_programs.specs.declared.prog.Param.{Param}
use Rattle.rw_programs.specs.declared.applied.Misfit.{Misfit}
use Rattle.rw_programs.specs.declared.applied.Misfit.TheVariants as cause
use Rattle.rw_programs.specs.State.{Name}
use Rattle.rw_derived.specs.Causes.{cause_if, each_is, is_assignable, are_code_terms}

-- what is called: its values and its results
pub record Callee : Type 0 where
  pub values : List Param
  pub results : List Param

-- the values as those of a predicate
abbrev pub head_of : List Param → Head
head_of ps = record { name = []; sorts = map (λ p. p.sort) ps }

-- some argument is ill-sorted; or, where what is called is there, there are more or fewer than it takes, or some has another sort
abbrev pub wrong_args : List Entry → Option Callee → List Term → Bool
wrong_args scope callee args = bad_application (option_map (λ c. head_of c.values) callee) (map (checked scope []) args)

-- there are more or fewer names than results, or some has another sort
abbrev pub wrong_names : List Entry → List Param → List Name → Bool
wrong_names scope [] [] = false
wrong_names scope [] (x ∷ names) = true
wrong_names scope (p ∷ ps) [] = true
wrong_names scope (p ∷ ps) (x ∷ names) = not (is_of p.sort (variable_sort scope x)) || wrong_names scope ps names

abbrev pub wrong_results : List Entry → Option Callee → List Name → Bool
wrong_results scope None names = false
wrong_results scope (Some c) names = wrong_names scope c.results names

-- A call: of what is handed in, if anything, with arguments that are code, and names of the frame for the results.
unfoldable pub call_cause : List Entry → List Name → Option Callee → List Term → List Name → Option Misfit
call_cause scope frame callee args names =
    cause_if (terms_outside [] args) cause.InitialNotAllowed
    (cause_if (not (are_code_terms scope args)) cause.NotCode
    (cause_if (not (each_is (is_assignable scope frame) names)) cause.NotInFrame
    (cause_if (wrong_args scope callee args || wrong_results scope callee names) cause.Sort
    (cause_if (is_none callee || is_some (first_of_names (map (unknown_in_term scope) args))) cause.Unknown None))))
