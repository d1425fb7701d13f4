-- What a call makes of a specification; or the first cause why it does not fit.
use Rattle.std.specs.Prelude.{◌≡◌, ℕ, Bool, true, false, ◌&&◌, ◌⊎◌, nat_lt, List, [], ◌∷◌, ◌++◌, Option, Some, None, unwrap_or}
use Rattle.rw_terms.specs.declared.scope.Entry.{Entry}
use Rattle.rw_terms.specs.declared.sequent.Sequent.{Sequent}
use Rattle.rw_terms.specs.declared.term.Formula.{Formula}
use Rattle.rw_faults.specs.Limits.{is_small}
use Rattle.rw_faults.specs.Initial.{is_twice}
use Rattle.rw_subst.specs.Definedness.{definedness_of}
use Rattle.rw_programs.specs.declared.prog.Spec.{Spec}
use Rattle.rw_programs.specs.declared.prog.Prog.TheVariants as prog
use Rattle.rw_programs.specs.declared.applied.Context.{Context}
use Rattle.rw_programs.specs.declared.applied.Applied.{Applied}
use Rattle.rw_programs.specs.declared.applied.Misfit.{Misfit}
use Rattle.rw_programs.specs.declared.applied.Misfit.TheVariants as cause
use Rattle.rw_programs.specs.declared.applied.ApplyError.{ApplyError}
use Rattle.rw_programs.specs.declared.applied.ApplyError.TheVariants as apply_error
use Rattle.rw_programs.specs.State.{Name}
use Rattle.rw_derived.specs.Derived.{initial_pre}
use Rattle.rw_laws.specs.Laws.{Law, fits, misfit, sequent_over}
use Rattle.rw_heads.specs.declared.head.ProcHead.{ProcHead}
use Rattle.rw_heads.specs.declared.step.CallStep.{CallStep}
use Rattle.rw_procs.specs.Derived.{called_pre, called_post, changed_post}
use Rattle.rw_procs.specs.Causes.{Callee, call_cause}

-- The first cause goes first; then a derived formula that passes a limit; then what is called at no earlier place, and last a name
-- twice in a list.
abbrev pub law_with : Option Misfit → (small earlier twice : Bool) → Applied → Law
law_with (Some m) small earlier twice made = misfit m
law_with None false earlier twice made = misfit cause.TooLarge
law_with None true false twice made = misfit cause.Order
law_with None true true true made = misfit cause.Alias
law_with None true true false made = fits made

-- the precondition of the procedure, for the arguments of a step
unfoldable pub asked : CallStep → ProcHead → Formula
asked step h = called_pre h.values step.args h.pre

-- where the precondition holds, the arguments are defined, and meet the precondition of the procedure
abbrev pub before_call : List Entry → Spec → CallStep → ProcHead → List Sequent
before_call scope w step h =
    sequent_over scope (w.pre ∷ []) (definedness_of scope step.args ∷ [])
    ∷ sequent_over scope (w.pre ∷ []) (asked step h ∷ []) ∷ []

-- the postcondition of the procedure, for the arguments and the names of a step
unfoldable pub promised : Spec → CallStep → ProcHead → Formula
promised w step h = called_post w.frame h.values h.results step.args step.results h.post

-- the own postcondition after the step
unfoldable pub wanted : Spec → CallStep → Formula
wanted w step = changed_post w step.results

-- where the precondition held before, the postcondition of the procedure gives the own one
abbrev pub after_call : List Entry → Spec → CallStep → ProcHead → Sequent
after_call scope w step h = sequent_over scope (initial_pre w ∷ promised w step h ∷ []) (wanted w step ∷ [])

abbrev pub call_obligations : Context → Spec → CallStep → ProcHead → List Sequent
call_obligations context w step h = before_call context.scope w step h ++ after_call context.scope w step h ∷ []

-- the formulas that a call derives are within the limits: those before it, and those after it
abbrev pub before_small : List Entry → CallStep → ProcHead → Bool
before_small scope step h = is_small (definedness_of scope step.args) && is_small (asked step h)

abbrev pub after_small : Spec → CallStep → ProcHead → Bool
after_small w step h = is_small (initial_pre w) && (is_small (promised w step h) && is_small (wanted w step))

abbrev pub call_small : Context → Spec → CallStep → ProcHead → Bool
call_small context w step h = before_small context.scope step h && after_small w step h

-- want of memory, or a limit is passed
abbrev pub IsLimitRefusal : Bool → ApplyError → Type 0
IsLimitRefusal small e = (e ≡ apply_error.Memory) ⊎ ((small ≡ false) × (e ≡ apply_error.Misfit cause.TooLarge))

-- a head as what is called
abbrev pub callee_of : ProcHead → Callee
callee_of h = record { values = h.values; results = h.results }

-- the call, which has no kids, with its obligations
abbrev pub called : CallStep → List Sequent → Applied
called step obligations = record { skeleton = prog.Call step.name step.args step.results; children = []; obligations = obligations }

abbrev pub call_made : Context → Spec → CallStep → ProcHead → Applied
call_made context w step h = called step (call_obligations context w step h)

-- where no head is handed in, an earlier cause or else the name is unknown
abbrev pub cause_without_head : List Entry → List Name → CallStep → Misfit
cause_without_head scope frame step = unwrap_or (call_cause scope frame None step.args step.results) cause.Unknown

-- what a call says of a specification in its context, where the head that is handed in, if any, has a table place
unfoldable pub call_law : Context → Spec → CallStep → Option (ProcHead × ℕ) → Law
call_law context w step None = misfit (cause_without_head context.scope w.frame step)
call_law context w step (Some h) =
    law_with (call_cause context.scope w.frame (Some (callee_of h.0)) step.args step.results) (call_small context w step h.0) (nat_lt h.1 context.order) (is_twice step.results)
    (call_made context w step h.0)
