-- What alternation, iteration and local blocks make of a specification; or the first cause why the law does not fit.
use Rattle.std.specs.Prelude.{ℕ, suc, pos, not, if◌then◌else◌, List, [], ◌∷◌, ◌++◌, map, Option, Some, None}
use Rattle.rw_terms.specs.declared.term.Formula.{Formula}
use Rattle.rw_terms.specs.declared.term.Formula.TheVariants.{And, Not, Less, AtMost}
use Rattle.rw_terms.specs.declared.term.Term.{Term}
use Rattle.rw_terms.specs.declared.term.Term.TheVariants.{Lit}
use Rattle.rw_terms.specs.declared.term.Sort.{Sort}
use Rattle.rw_terms.specs.declared.scope.Entry.{Entry}
use Rattle.rw_terms.specs.declared.scope.Head.{Head}
use Rattle.rw_terms.specs.declared.scope.Kind.TheVariants as kind
use Rattle.rw_terms.specs.Scopes.{is_fresh}
use Rattle.rw_terms.specs.Formed.{is_sort}
use Rattle.rw_subst.specs.Replaced.{replaced_term, to_initial}
use Rattle.rw_terms.specs.Same.{same_formula}
use Rattle.rw_programs.specs.State.{Name}
use Rattle.rw_programs.specs.declared.prog.Arm.{Arm}
use Rattle.rw_programs.specs.declared.prog.Spec.{Spec}
use Rattle.rw_programs.specs.declared.prog.Prog.TheVariants as prog
use Rattle.rw_programs.specs.declared.applied.Context.{Context}
use Rattle.rw_programs.specs.declared.applied.Child.{Child}
use Rattle.rw_programs.specs.declared.applied.Applied.{Applied}
use Rattle.rw_programs.specs.declared.applied.Misfit.{Misfit}
use Rattle.rw_programs.specs.declared.applied.Misfit.TheVariants as cause
use Rattle.rw_laws.specs.declared.premises.Premises.{Premises}
use Rattle.rw_laws.specs.Laws.{Law, fits, misfit, applied, sequent_over}
use Rattle.rw_loops.specs.declared.step.LoopStep.{LoopStep}
use Rattle.rw_loops.specs.declared.step.LoopStep.TheVariants as step
use Rattle.rw_subst.specs.Conj.{disj}
use Rattle.rw_loops.specs.Guards.{guards_definedness}
use Rattle.rw_loops.specs.Code.{code_misfit}
use Rattle.rw_loops.specs.Limits.{is_within}

-- A law does not fit by a cause that is tested before, and else where what it makes passes a limit.
abbrev pub law_with : Option Misfit → Applied → Law
law_with (Some m) a = misfit m
law_with None a = if is_within a then fits a else misfit cause.TooLarge

-- the guards with the kids behind them, which are numbered from n on
abbrev pub arms_from : ℕ → List Formula → List Arm
arms_from n [] = []
arms_from n (g ∷ gs) = record { guard = g; body = prog.Kid n } ∷ arms_from (suc n) gs

-- behind a guard of an alternation the guard holds, and the rest is as before
abbrev pub if_kid : Context → Spec → Formula → Child
if_kid context w g = record { context = context; spec = record { frame = w.frame; pre = And g w.pre; post = w.post } }

-- `if`: where the precondition holds, all guards are defined, and one of them holds
abbrev pub if_premises : Context → Spec → List Formula → Premises
if_premises context w guards = record {
  children = map (if_kid context w) guards;
  obligations =
      sequent_over context.scope (w.pre ∷ []) (guards_definedness context.scope guards ∷ [])
      ∷ sequent_over context.scope (w.pre ∷ []) (disj guards ∷ []) ∷ [];
}

abbrev pub if_made : Context → Spec → List Formula → Applied
if_made context w guards = applied (prog.If (arms_from 1 guards)) (if_premises context w guards)

unfoldable pub if_law : Context → List Head → Spec → List Formula → Law
if_law context heads w guards = law_with (code_misfit context.scope heads (disj guards)) (if_made context w guards)

-- the variant is not below 0
abbrev pub not_below_0 : Term → Formula
not_below_0 v = AtMost (Lit (pos 0)) v

-- the variant is less than it was
abbrev pub is_less : List Name → Term → Formula
is_less frame v = Less v (replaced_term (map to_initial frame) v)

-- what each turn of a loop keeps and makes: the precondition, which is the invariant, and a variant that is less and not below 0
abbrev pub turn : Spec → Term → Formula
turn w v = And (And w.pre (not_below_0 v)) (is_less w.frame v)

-- after a loop the invariant holds, and no guard does
abbrev pub loop_post : Spec → List Formula → Formula
loop_post w guards = And w.pre (Not (disj guards))

-- the variant and the guards of a loop as one formula, for the tests of code; a variant is an integer
abbrev pub loop_code : Term → List Formula → Formula
loop_code v guards = And (not_below_0 v) (disj guards)

-- behind a guard of a loop the invariant and the guard hold
abbrev pub do_kid : Context → Spec → Term → Formula → Child
do_kid context w v g = record { context = context; spec = record { frame = w.frame; pre = And w.pre g; post = turn w v } }

-- `do`: where the invariant holds, all guards are defined
abbrev pub do_premises : Context → Spec → Term → List Formula → Premises
do_premises context w v guards = record {
  children = map (do_kid context w v) guards;
  obligations = sequent_over context.scope (w.pre ∷ []) (guards_definedness context.scope guards ∷ []) ∷ [];
}

abbrev pub do_made : Context → Spec → Term → List Formula → Applied
do_made context w v guards = applied (prog.Do v (arms_from 1 guards)) (do_premises context w v guards)

-- the postcondition is that of a loop, and then the tests of code
abbrev pub do_misfit : List Entry → List Head → Spec → Term → List Formula → Option Misfit
do_misfit scope heads w v guards = if not (same_formula w.post (loop_post w guards)) then Some cause.Shape else code_misfit scope heads (loop_code v guards)

unfoldable pub do_law : Context → List Head → Spec → Term → List Formula → Law
do_law context heads w v guards = law_with (do_misfit context.scope heads w v guards) (do_made context w v guards)

-- the context with a local variable, last in its scope
abbrev pub with_local : Context → Name → Sort → Context
with_local context x sort = record {
  scope = context.scope ++ record { name = x; sort = sort; kind = kind.Local } ∷ [];
  opened = context.opened;
  order = context.order;
  inner = context.inner;
}

-- `block`: the kid may change the local too
abbrev pub block_premises : Context → Spec → Name → Sort → Premises
block_premises context w x sort = record {
  children = record { context = with_local context x sort; spec = record { frame = w.frame ++ x ∷ []; pre = w.pre; post = w.post } } ∷ [];
  obligations = [];
}

abbrev pub block_made : Context → Spec → Name → Sort → Applied
block_made context w x sort = applied (prog.Block x sort (prog.Kid 1)) (block_premises context w x sort)

-- the local is new, and has a sort
abbrev pub block_misfit : List Entry → Name → Sort → Option Misfit
block_misfit scope x sort =
    if not (is_fresh x scope) then Some cause.NotFresh
    else if not (is_sort sort) then Some cause.Sort
    else None

unfoldable pub block_law : Context → Spec → Name → Sort → Law
block_law context w x sort = law_with (block_misfit context.scope x sort) (block_made context w x sort)

-- what the law of a step says of a specification in its context
unfoldable pub law_of : Context → List Head → Spec → LoopStep → Law
law_of context heads w (step.If guards) = if_law context heads w guards
law_of context heads w (step.Do v guards) = do_law context heads w v guards
law_of context heads w (step.Block x sort) = block_law context w x sort
