-- The tests by which code and a start are found to fit.
use Rattle.std.specs.Prelude.{ℕ, ◌++◌, Bool, true, false, ◌&&◌, nat_eq, List, [], ◌∷◌, map, length}
use Rattle.rw_terms.specs.declared.scope.Entry.{Entry}
use Rattle.rw_terms.specs.declared.scope.Kind.TheVariants as kind
use Rattle.rw_terms.specs.declared.term.Sort.{Sort}
use Rattle.rw_terms.specs.declared.term.Sort.TheVariants.{Int, Array}
use Rattle.rw_programs.specs.declared.prog.Arm.{Arm}
use Rattle.rw_programs.specs.declared.prog.Param.{Param}
use Rattle.rw_programs.specs.declared.prog.ProcCode.{ProcCode}
use Rattle.rw_programs.specs.declared.prog.ModCode.{ModCode}
use Rattle.rw_programs.specs.declared.prog.Code.{Code}
use Rattle.rw_programs.specs.declared.prog.Prog.{Prog}
use Rattle.rw_programs.specs.CodeTest.{is_code}
use Rattle.rw_programs.specs.Scoped.{is_scoped}
use Rattle.rw_evaluation.specs.declared.value.Value.{Value as RunValue}
use Rattle.rw_evaluation.specs.declared.value.Value.TheVariants as run_value
use Rattle.rw_machine.specs.CodeFits.{differ, numbers_differ, calls_fit, entries_as, body_scope, main_place}

-- the same of a list of guards and programs
abbrev pub arms_calls_fit : Code → ℕ → List Entry → List Arm → Bool
arms_calls_fit code p scope [] = true
arms_calls_fit code p scope (a ∷ arms) = calls_fit code p scope a.body && arms_calls_fit code p scope arms

-- a body at the place p, over the names of the scope
abbrev pub body_fits : Code → ℕ → List Entry → Prog → Bool
body_fits code p scope c = differ (map (λ e. e.name) scope) && (is_code c && (is_scoped [] scope c && calls_fit code p scope c))

-- the bodies of procedures
abbrev pub procs_fit : Code → List ProcCode → Bool
procs_fit code [] = true
procs_fit code (e ∷ es) = body_fits code e.place (body_scope [] e) e.body && procs_fit code es

-- the bodies of operations, at the module's place and beside its state
abbrev pub operations_fit : Code → ModCode → List ProcCode → Bool
operations_fit code d [] = true
operations_fit code d (e ∷ es) = body_fits code d.place (body_scope d.state e) e.body && operations_fit code d es

abbrev pub module_fits : Code → ModCode → Bool
module_fits code d =
    differ (map (λ e. e.name) d.operations) && (body_fits code d.place (entries_as kind.Local d.state) d.start && operations_fit code d d.operations)

abbrev pub modules_fit : Code → List ModCode → Bool
modules_fit code [] = true
modules_fit code (d ∷ ds) = module_fits code d && modules_fit code ds

-- no name and no place stands twice
abbrev pub entries_differ : Code → Bool
entries_differ code =
    differ (map (λ e. e.name) code.procs ++ map (λ d. d.name) code.modules) && numbers_differ (map (λ e. e.place) code.procs ++ map (λ d. d.place) code.modules)

abbrev pub code_fits : Code → List Param → Bool
code_fits code globals =
    entries_differ code && (body_fits code main_place (entries_as kind.Global globals) code.main && (procs_fit code code.procs && modules_fit code code.modules))

-- the value is of the sort
abbrev pub value_fits : RunValue → Sort → Bool
value_fits (run_value.Int z) Int = true
value_fits (run_value.Int z) (Array n) = false
value_fits (run_value.List l) Int = false
value_fits (run_value.List l) (Array n) = nat_eq (length l) n

abbrev pub values_fit : List Param → List RunValue → Bool
values_fit [] [] = true
values_fit [] (v ∷ vs) = false
values_fit (p ∷ ps) [] = false
values_fit (p ∷ ps) (v ∷ vs) = value_fits v p.sort && values_fit ps vs
