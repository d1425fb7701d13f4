-- Why a program has no conditions for a specification: the tests, each of the whole program, of which the first that holds decides.
use Rattle.std.specs.Prelude.{◌≡◌, ◌⊎◌, Result, Ok, Err, ℕ, suc, ◌+◌, Bool, true, false, not, ◌||◌, nat_eq, length, is_some, List, [], Option, Some, None}
use Rattle.std.specs.List.{list_any}
use Rattle.rw_terms.specs.declared.term.Formula.{Formula}
use Rattle.rw_terms.specs.declared.term.Term.{Term}
use Rattle.rw_terms.specs.declared.term.Sort.{Sort}
use Rattle.rw_terms.specs.declared.term.Sort.TheVariants.{Int}
use Rattle.rw_terms.specs.declared.scope.Entry.{Entry}
use Rattle.rw_terms.specs.declared.scope.Head.{Head}
use Rattle.rw_terms.specs.declared.scope.Kind.{Kind}
use Rattle.rw_terms.specs.declared.scope.Kind.TheVariants as kind
use Rattle.rw_terms.specs.Scopes.{is_fresh}
use Rattle.rw_terms.specs.Formed.{is_sort}
use Rattle.rw_terms.specs.Rules.{sort_in, is_of}
use Rattle.rw_faults.specs.Faults.{is_ill_sorted, unknown_in}
use Rattle.rw_faults.specs.Initial.{is_listed, is_twice, term_outside, terms_outside, initial_outside}
use Rattle.rw_programs.specs.declared.prog.Spec.{Spec}
use Rattle.rw_programs.specs.declared.applied.Misfit.{Misfit}
use Rattle.rw_programs.specs.declared.applied.Misfit.TheVariants as cause
use Rattle.rw_programs.specs.declared.applied.ApplyError.{ApplyError}
use Rattle.rw_programs.specs.declared.applied.ApplyError.TheVariants as apply_error
use Rattle.rw_terms.specs.declared.sequent.Sequent.{Sequent}
use Rattle.rw_programs.specs.CodeTest.{is_plain, are_plain, is_guard}
use Rattle.rw_programs.specs.Scoped.{are_set}
use Rattle.rw_derived.specs.Causes.{cause_if, is_kind}
use Rattle.rw_noted.specs.declared.noted.Noted.{Noted, Skip, Assign, If', Do', Row_of-NotedArm, end_of-NotedArm, more_of-NotedArm}
use Rattle.rw_noted.specs.Made.{Seq, Block}
use Rattle.rw_wpview.specs.declared.test.Test.{Test}
use Rattle.rw_wpview.specs.declared.test.Test.TheVariants as test
use Rattle.rw_wpview.specs.Loops.{loops, with_turn, with_local}
use Rattle.rw_wpview.specs.Conditions.{conditions}
use Rattle.rw_wpview.specs.Kept.{are_within}

-- a part of a program
pub data Part : Type 0 where
  Set : List (List ℕ) → List Term → Part
  Guard : Formula → Part
  Variant : Term → Part
  Invariant : Formula → Part
  Local : List ℕ → Sort → Part

abbrev pub is_local_kind : Kind → Bool
is_local_kind kind.Global = false
is_local_kind kind.Local = true
is_local_kind kind.Constant = false
is_local_kind kind.Value = false
is_local_kind kind.Outcome = false
is_local_kind kind.Module = false

-- the name is neither in the frame nor a local in scope
abbrev pub is_outside : List Entry → List (List ℕ) → List ℕ → Bool
is_outside scope frame x = not (is_listed frame x || is_kind is_local_kind scope x)

-- a formula with a part that is ill-sorted, or with an unknown name
abbrev pub is_ill : List Entry → List Head → Formula → Bool
is_ill scope heads f = is_ill_sorted scope heads f [] || is_some (unknown_in scope heads f)

module _ (heads : List Head) (frame : List (List ℕ)) where
  -- whether a test holds of a part that stands in a scope
  abbrev pub holds_of : Test → List Entry → Part → Bool
  -- two lists of unequal length
  holds_of test.Uneven scope (Set names terms) = not (nat_eq (length names) (length terms))
  -- an initial variable in code, or in an invariant one of a name outside the frame
  holds_of test.Initial scope (Set names terms) = terms_outside [] terms
  holds_of test.Initial scope (Guard g) = initial_outside [] g
  holds_of test.Initial scope (Variant v) = term_outside [] v
  holds_of test.Initial scope (Invariant i) = initial_outside frame i
  -- a local that is in scope
  holds_of test.Known scope (Local x sort) = not (is_fresh x scope)
  -- not code in an assigned term, a guard or a variant
  holds_of test.NotCode scope (Set names terms) = not (are_plain terms)
  holds_of test.NotCode scope (Guard g) = not (is_guard g)
  holds_of test.NotCode scope (Variant v) = not (is_plain v)
  -- an assigned name that is neither in the frame nor a local in scope
  holds_of test.Outside scope (Set names terms) = list_any (is_outside scope frame) names
  -- an ill-sorted part or an unknown name
  holds_of test.Ill scope (Set names terms) = not (are_set scope names terms)
  holds_of test.Ill scope (Guard g) = is_ill scope heads g
  holds_of test.Ill scope (Variant v) = not (is_of Int (sort_in scope [] v))
  holds_of test.Ill scope (Invariant i) = is_ill scope heads i
  holds_of test.Ill scope (Local x sort) = not (is_sort sort)
  -- a name that is assigned twice in one list
  holds_of test.Twice scope (Set names terms) = is_twice names
  holds_of _ scope part = false

-- `is` says whether the test holds of a part.
module _ (is : List Entry → Part → Bool) where
  abbrev mutual
    -- whether it holds of some part; the loops are numbered from n on
    pub of_some : List Entry → ℕ → Noted → Bool
    of_some scope n Skip = false
    of_some scope n (Assign names terms) = is scope (Set names terms)
    of_some scope n (Seq c d) = of_some scope n c || of_some scope (n + loops c) d
    of_some scope n (If' shape arms) = of_arm scope n arms
    of_some scope n (Do' v i shape arms) = is scope (Variant v) || (is scope (Invariant i) || of_arm (with_turn scope n) (suc n) arms)
    of_some scope n (Block x sort c) = is scope (Local x sort) || of_some (with_local scope x sort) n c

    pub of_arm : {m : _} → List Entry → ℕ → Row_of-NotedArm m → Bool
    of_arm scope n end_of-NotedArm = false
    of_arm scope n (more_of-NotedArm g c rest) = is scope (Guard g) || (of_some scope n c || of_arm scope (n + loops c) rest)

-- whether a test holds of a program for a specification
abbrev pub fails : List Head → Spec → List Entry → Noted → Test → Bool
fails heads w scope c t = of_some (holds_of heads w.frame t) scope 1 c

-- the first cause of the parts
unfoldable pub part_misfit : List Entry → List Head → Spec → Noted → Option Misfit
part_misfit scope heads w c =
    cause_if (fails heads w scope c test.Uneven) cause.Shape
    (cause_if (fails heads w scope c test.Initial) cause.InitialNotAllowed
    (cause_if (fails heads w scope c test.Known) cause.NotFresh
    (cause_if (fails heads w scope c test.NotCode) cause.NotCode
    (cause_if (fails heads w scope c test.Outside) cause.NotInFrame
    (cause_if (fails heads w scope c test.Ill) cause.Sort None)))))

-- a cause, or else what comes behind it
abbrev pub or_behind : Option Misfit → Option Misfit → Option Misfit
or_behind None behind = behind
or_behind (Some m) behind = Some m

-- conditions past the limits, and then a name that is assigned twice
abbrev pub last_misfit : (within twice : Bool) → Option Misfit
last_misfit within twice = cause_if (not within) cause.TooLarge (cause_if twice cause.Alias None)

-- the first cause of all
abbrev pub first_misfit : List Entry → List Head → Spec → Noted → Option Misfit
first_misfit scope heads w c = or_behind (part_misfit scope heads w c) (last_misfit (are_within (conditions scope w c)) (fails heads w scope c test.Twice))

-- the conditions where there is no cause, and else the cause or want of memory
abbrev pub Views : Option Misfit → List Sequent → Result (List Sequent) ApplyError → Type 0
Views first wanted (Ok qs) = (first ≡ None) × (qs ≡ wanted)
Views first wanted (Err e) = (e ≡ apply_error.Memory) ⊎ ((m : Misfit) × (first ≡ Some m) × (e ≡ apply_error.Misfit m))
