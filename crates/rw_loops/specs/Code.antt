-- What may stand in the code that a step makes, and the cause why something may not.
use Rattle.std.specs.Prelude.{Bool, true, false, not, ◌&&◌, if◌then◌else◌, is_some, List, [], Option, Some, None}
use Rattle.std.specs.List.{list_any}
use Rattle.rw_terms.specs.declared.term.Formula.{Formula}
use Rattle.rw_terms.specs.declared.scope.Entry.{Entry}
use Rattle.rw_terms.specs.declared.scope.Head.{Head}
use Rattle.rw_terms.specs.Mentions.{formula_mentions}
use Rattle.rw_faults.specs.Initial.{initial_outside}
use Rattle.rw_faults.specs.Faults.{is_ill_sorted, unknown_in}
use Rattle.rw_programs.specs.CodeTest.{is_guard}
use Rattle.rw_derived.specs.Causes.{is_module_kind}
use Rattle.rw_programs.specs.declared.applied.Misfit.{Misfit}
use Rattle.rw_programs.specs.declared.applied.Misfit.TheVariants as cause

-- a name of kind module stands in the formula
abbrev pub speaks_of_module : List Entry → Formula → Bool
speaks_of_module scope f = list_any (λ e. is_module_kind e.kind && formula_mentions e.name f) scope

-- No constant, module variable, predicate or quantifier stands in the formula, and no initial variable.
abbrev pub is_code_in : List Entry → Formula → Bool
is_code_in scope f = is_guard f && not (speaks_of_module scope f)

-- The first cause why a formula may not stand in code. An initial variable is the first of them.
unfoldable pub code_misfit : List Entry → List Head → Formula → Option Misfit
code_misfit scope heads f =
    if initial_outside [] f then Some cause.InitialNotAllowed
    else if not (is_code_in scope f) then Some cause.NotCode
    else if is_ill_sorted scope heads f [] then Some cause.Sort
    else if is_some (unknown_in scope heads f) then Some cause.Unknown
    else None
