-- What the block of a module and the call of an operation make of a specification; or the first cause why they do not fit.
use Rattle.std.specs.Option.{option_map}
use Rattle.std.specs.Prelude.{ℕ, Bool, true, false, not, ◌&&◌, ◌||◌, nat_lt, nat_le, length, is_some, is_none, List, [], ◌∷◌, ◌++◌, map, filter, Option, Some, None, unwrap_or}
use Rattle.rw_terms.specs.declared.scope.Entry.{Entry}
use Rattle.rw_terms.specs.declared.term.Term.{Term}
use Rattle.rw_terms.specs.declared.term.Term.TheVariants as term
use Rattle.rw_terms.specs.declared.term.Formula.{Formula}
use Rattle.rw_terms.specs.declared.term.Formula.TheVariants.{And}
use Rattle.rw_terms.specs.Scopes.{is_fresh}
use Rattle.rw_faults.specs.Faults.{unknown_in_term, first_of_names}
use Rattle.rw_faults.specs.Initial.{is_listed, is_twice, terms_outside}
use Rattle.rw_faults.specs.Limits.{is_small}
use Rattle.rw_subst.specs.Definedness.{definedness_of}
use Rattle.rw_subst.specs.Replaced.{replaced_formula, to_initial}
use Rattle.rw_programs.specs.declared.prog.Spec.{Spec}
use Rattle.rw_programs.specs.declared.prog.Prog.TheVariants as prog
use Rattle.rw_programs.specs.declared.prog.Prog.TheViews as made
use Rattle.rw_programs.specs.declared.applied.Context.{Context}
use Rattle.rw_programs.specs.declared.applied.Applied.{Applied}
use Rattle.rw_programs.specs.declared.applied.Misfit.{Misfit}
use Rattle.rw_programs.specs.declared.applied.Misfit.TheVariants as cause
use Rattle.rw_programs.specs.State.{Name, is_in, names_of}
use Rattle.rw_meaning.specs.Filling.{module_entries}
use Rattle.rw_derived.specs.Causes.{cause_if, each_is, is_assignable, are_code_terms}
use Rattle.rw_derived.specs.Derived.{set_to, without, initial_pre}
use Rattle.rw_laws.specs.Laws.{Law, misfit, sequent_over}
use Rattle.rw_procs.specs.Causes.{Callee, wrong_args, wrong_results}
use Rattle.rw_procs.specs.Derived.{called_pre, args_before}
use Rattle.rw_procs.specs.Laws.{law_with}
use Rattle.rw_heads.specs.declared.head.Module.{Module}
use Rattle.rw_heads.specs.declared.head.Oper.{Oper}
use Rattle.rw_heads.specs.declared.step.ModStep.{ModStep}
use Rattle.rw_heads.specs.declared.step.ModStep.TheVariants as step
use Rattle.rw_heads.specs.Heads.{find_oper}

-- the block of a module: its abstract names are new names of kind module, and the kid may change them too, where the start holds
abbrev pub open_context : Context → Module → Context
open_context context m = record { scope = context.scope ++ module_entries m.state; opened = m.name ∷ context.opened; order = context.order; inner = context.inner }

abbrev pub open_spec : Spec → Module → Spec
open_spec w m = record { frame = w.frame ++ names_of m.state; pre = And w.pre m.start; post = w.post }

abbrev pub open_made : Context → Spec → Name → Module → Applied
open_made context w name m = record {
  skeleton = made.ModBlock name (prog.Kid 1);
  children = record { context = open_context context m; spec = open_spec w m } ∷ [];
  obligations = [];
}

-- the abstract names are new
abbrev pub are_new : List Entry → Module → Bool
are_new scope m = each_is (λ x. is_fresh x scope) (names_of m.state)

-- the kid's precondition and its frame are within the limits
abbrev pub open_small : Spec → Module → Bool
open_small w m = is_small (And w.pre m.start) && nat_le (length (w.frame ++ names_of m.state)) 64

-- a module's place is before the tree's own, which is not a module's
abbrev pub is_earlier : Context → ℕ → Bool
is_earlier context place = nat_lt place context.order && not context.inner

unfoldable pub open_law : Context → Spec → Name → Option (Module × ℕ) → Law
open_law context w name None = misfit cause.Unknown
open_law context w name (Some m) =
    law_with (cause_if (not (are_new context.scope m.0)) cause.NotFresh None) (open_small w m.0) (is_earlier context m.1) false
    (open_made context w name m.0)

-- the abstract names in the frame of an operation
abbrev pub abstract_frame : Module → Oper → List Name
abstract_frame m o = filter (λ x. is_listed (names_of m.state) x) o.spec.frame

-- the names of the frame that a call of the operation leaves
abbrev pub left_by : Spec → Module → Oper → List Name → List Name
left_by w m o names = without (names ++ abstract_frame m o) w.frame

-- The postcondition of an operation: with the arguments before for its values, the names of the results for its results, and the
-- abstract names that it leaves as they were.
abbrev pub operated_post : Spec → Module → Oper → List Term → List Name → Formula
operated_post w m o args names =
    replaced_formula ((set_to (names_of o.values) (args_before w.frame args) ++ set_to (names_of o.results) (map (λ x. term.Var x) names))
    ++ map to_initial (filter (λ x. is_listed (names_of m.state) x) (left_by w m o names))) o.spec.post

abbrev pub left_post : Spec → Module → Oper → List Name → Formula
left_post w m o names = replaced_formula (map to_initial (left_by w m o names)) w.post

abbrev pub op_made : Context → Spec → Name → Name → Module → Oper → List Term → List Name → Applied
op_made context w x y m o args names = record {
  skeleton = prog.OpCall x y args names;
  children = [];
  obligations =
      sequent_over context.scope (w.pre ∷ []) (definedness_of context.scope args ∷ [])
      ∷ sequent_over context.scope (w.pre ∷ []) (called_pre o.values args o.spec.pre ∷ [])
      ∷ sequent_over context.scope (initial_pre w ∷ operated_post w m o args names ∷ []) (left_post w m o names ∷ []) ∷ [];
}

abbrev pub op_small : Context → Spec → Module → Oper → List Term → List Name → Bool
op_small context w m o args names =
    is_small (definedness_of context.scope args)
    && (is_small (called_pre o.values args o.spec.pre)
    && (is_small (initial_pre w) && (is_small (operated_post w m o args names) && is_small (left_post w m o names))))

-- what is called, where the operation is there
abbrev pub callee_of : Option (Module × Oper) → Option Callee
callee_of called = option_map (λ c. record { values = c.1.values; results = c.1.results }) called

-- an abstract name that the operation may change is not in the frame
abbrev pub misses : List Name → Option (Module × Oper) → Bool
misses frame None = false
misses frame (Some c) = not (each_is (is_listed frame) (abstract_frame c.0 c.1))

-- A call of an operation: of what is there, if anything, in a module that is opened here.
unfoldable pub op_cause : Context → List Name → Name → Option (Module × Oper) → List Term → List Name → Option Misfit
op_cause context frame m called args names =
    cause_if (terms_outside [] args) cause.InitialNotAllowed
    (cause_if (not (are_code_terms context.scope args)) cause.NotCode
    (cause_if (not (each_is (is_assignable context.scope frame) names) || misses frame called) cause.NotInFrame
    (cause_if (wrong_args context.scope (callee_of called) args || wrong_results context.scope (callee_of called) names) cause.Sort
    (cause_if ((not (is_in m context.opened) || is_none called) || is_some (first_of_names (map (unknown_in_term context.scope) args))) cause.Unknown None))))

-- the operation of the name, with its module
abbrev pub called_in : Module → Name → Option (Module × Oper)
called_in m o = option_map (λ e. (m, e)) (find_oper o m.operations)

-- the law, where the operation is looked for
abbrev pub op_law_of : Context → Spec → Name → Name → List Term → List Name → (earlier : Bool) → Option (Module × Oper) → Law
op_law_of context w m o args names earlier None = misfit (unwrap_or (op_cause context w.frame m None args names) cause.Unknown)
op_law_of context w m o args names earlier (Some c) =
    law_with (op_cause context w.frame m (Some c) args names) (op_small context w c.0 c.1 args names) earlier (is_twice names)
    (op_made context w m o c.0 c.1 args names)

unfoldable pub op_law : Context → Spec → Name → Name → List Term → List Name → Option (Module × ℕ) → Law
op_law context w m o args names None = misfit (unwrap_or (op_cause context w.frame m None args names) cause.Unknown)
op_law context w m o args names (Some given) = op_law_of context w m o args names (is_earlier context given.1) (called_in given.0 o)

-- what the law of a step says of a specification in its context, where the module that is handed in, if any, has a table place
unfoldable pub law_of : Context → Spec → ModStep → Option (Module × ℕ) → Law
law_of context w (step.Open m) given = open_law context w m given
law_of context w (step.Op m o args names) given = op_law context w m o args names given
