-- The tests of modules and of their operations.
use Rattle.std.specs.Prelude.{ℕ, Bool, not, ◌&&◌, ◌||◌, ◌+◌, if◌then◌else◌, nat_le, length, List, [], ◌∷◌, ◌++◌, Option, Some, None, is_some, filter}
use Rattle.std.specs.List.{list_all}
use Rattle.rw_terms.specs.declared.scope.Entry.{Entry}
use Rattle.rw_terms.specs.declared.scope.Head.{Head}
use Rattle.rw_terms.specs.declared.scope.Kind.TheVariants as kind
use Rattle.rw_faults.specs.Faults.{first_name, unless_known}
use Rattle.rw_faults.specs.Initial.{is_twice, is_listed}
use Rattle.rw_faults.specs.Limits.{is_light, is_shallow}
use Rattle.rw_terms.specs.Sorts.{variable_sort}
use Rattle.rw_goals.specs.declared.library.Item.{Item}
use Rattle.rw_library.specs.Entries.{has_entry, heads_of}
use Rattle.rw_heads.specs.declared.head.Module.{Module}
use Rattle.rw_heads.specs.declared.head.Oper.{Oper}
use Rattle.rw_heads.specs.declared.head.ProcHead.{ProcHead}
use Rattle.rw_heads.specs.Heads.{has_proc, has_oper, find_module, operations_of}
use Rattle.rw_edits.specs.declared.edit.Spot.TheVariants as spot
use Rattle.rw_edits.specs.declared.edit.TreeName.TheVariants as tree
use Rattle.rw_edits.specs.Names.{place_in}
use Rattle.rw_trees.specs.Edits.{is_param}
use Rattle.rw_edit_tests.specs.declared.refusal.EditRefusal.{EditRefusal}
use Rattle.rw_edit_tests.specs.declared.refusal.EditRefusal.TheVariants as refusal
use Rattle.rw_edit_tests.specs.declared.refusal.Which.TheVariants as which
use Rattle.rw_edit_tests.specs.Refusals.{is_ill_formed}
use Rattle.rw_edit_tests.specs.Entering.{duplicate, repeated, entry_limit, entry_refusal, are_few}
use Rattle.rw_head_tests.specs.Procs.{entries_as, head_scope, first_again, unknown_in_both, is_misplaced, part_of_two}

-- the names of a module: its abstract state and its concrete state
abbrev pub module_scope : Module → List Entry
module_scope m = entries_as kind.Module m.state ++ entries_as kind.Local m.concrete

-- The start is part 1, and speaks of the abstract state alone; the coupling is part 2, and speaks of both. Neither has an initial
-- variable.
abbrev pub module_part : List Head → Module → Option ℕ
module_part heads m = part_of_two (is_misplaced (entries_as kind.Module m.state) heads [] m.start) (is_ill_formed (module_scope m) heads [] m.coupling)

-- the first name of the formulas that is no variable of the module, or predicate that is not defined
abbrev pub module_unknown : List Head → Module → Option (List ℕ)
module_unknown heads m = unknown_in_both (module_scope m) heads m.start m.coupling

-- the first limit that the module passes; each of its states has at most 16 variables
abbrev pub module_limit : List (List ℕ) → Module → Option EditRefusal
module_limit order m =
    entry_limit (is_light m.start && is_light m.coupling) (is_shallow m.start && is_shallow m.coupling) (are_few (length m.state) && are_few (length m.concrete)) m.name order

-- its name is that of another kind, or a variable stands twice
abbrev pub module_duplicate : List Item → List ProcHead → Module → Option EditRefusal
module_duplicate entries procs m = duplicate (has_entry m.name entries || has_proc m.name procs) m.name (first_again [] (module_scope m))

-- the tests of a module, but for those of the weight and of the operations that it has
unfoldable pub module_refusal : List Item → List ProcHead → List (List ℕ) → Module → Option EditRefusal
module_refusal entries procs order m =
    entry_refusal (module_unknown (heads_of entries) m) (module_duplicate entries procs m) (module_part (heads_of entries) m) (module_limit order m)

-- the names that an operation may speak of, and those of the concrete state, of which it may not
abbrev pub oper_scope : Module → Oper → List Entry
oper_scope m o = module_scope m ++ head_scope o.values o.results

-- the names before it: the abstract state and the values; and those after it, the results too
abbrev pub before_scope : Module → Oper → List Entry
before_scope m o = entries_as kind.Module m.state ++ entries_as kind.Value o.values

abbrev pub after_scope : Module → Oper → List Entry
after_scope m o = entries_as kind.Module m.state ++ head_scope o.values o.results

-- the first name of a frame that the scope does not have
abbrev pub frame_unknown_in : List Entry → List (List ℕ) → Option (List ℕ)
frame_unknown_in scope [] = None
frame_unknown_in scope (x ∷ frame) = first_name (unless_known x (variable_sort scope x)) (frame_unknown_in scope frame)

-- the first name of an operation that is neither its own nor the module's, or predicate that is not defined
abbrev pub oper_unknown : List Head → Module → Oper → Option (List ℕ)
oper_unknown heads m o = first_name (frame_unknown_in (oper_scope m o) o.spec.frame) (unknown_in_both (oper_scope m o) heads o.spec.pre o.spec.post)

-- a frame is all results and some abstract names, each once
abbrev pub is_own : Module → Oper → List ℕ → Bool
is_own m o x = is_param o.results x || is_param m.state x

abbrev pub is_frame : Module → Oper → Bool
is_frame m o = not (is_twice o.spec.frame) && (list_all (λ p. is_listed o.spec.frame p.name) o.results && list_all (is_own m o) o.spec.frame)

-- the abstract names of a frame
abbrev pub abstract_in : Module → List (List ℕ) → List (List ℕ)
abstract_in m frame = filter (is_param m.state) frame

-- The frame is part 0. The precondition is part 1, and speaks of values and abstract state. The postcondition is part 2; it speaks of
-- results too, and has initial variables of the abstract names of the frame alone.
abbrev pub oper_part : List Head → Module → Oper → Option ℕ
oper_part heads m o =
    if is_frame m o
    then part_of_two (is_misplaced (before_scope m o) heads [] o.spec.pre) (is_misplaced (after_scope m o) heads (abstract_in m o.spec.frame) o.spec.post)
    else Some 0

-- the first of these limits that the operation passes: 64 names of its frame, 16 parameters, 32 operations
abbrev pub counts_limit : Module → Oper → Option EditRefusal
counts_limit m o =
    if not (nat_le (length o.spec.frame) 64) then Some (refusal.Limit which.Globals 64)
    else if not (are_few (length o.values + length o.results)) then Some (refusal.Limit which.Params 16)
    else if not (has_oper o.name m.operations) && nat_le 32 (length m.operations) then Some (refusal.Limit which.Operations 32)
    else None

-- the first limit that it passes: the weight and the depth of its formulas, and then those
abbrev pub oper_limit : Module → Oper → Option EditRefusal
oper_limit m o =
    if not (is_light o.spec.pre && is_light o.spec.post) then Some (refusal.Limit which.Weight 1024)
    else if not (is_shallow o.spec.pre && is_shallow o.spec.post) then Some (refusal.Limit which.Depth 64)
    else counts_limit m o

-- the first value or result that stands twice or has the name of a variable of the module, whose own names differ
abbrev pub oper_again : Module → Oper → Option (List ℕ)
oper_again m o = first_again [] (oper_scope m o)

-- the tests of an operation of the module, but for that of the weight
unfoldable pub own_refusal : List Item → Module → Oper → Option EditRefusal
own_refusal entries m o =
    entry_refusal (oper_unknown (heads_of entries) m o) (repeated (oper_again m o)) (oper_part (heads_of entries) m o) (oper_limit m o)

abbrev pub in_module : List Item → Option Module → List ℕ → Oper → Option EditRefusal
in_module entries None x o = Some (refusal.Unknown x)
in_module entries (Some m) x o = own_refusal entries m o

-- the tests of an operation of the module of a name, but for that of the weight: there is such a module, and those
abbrev pub oper_refusal : List Item → List Module → List ℕ → Oper → Option EditRefusal
oper_refusal entries modules x o = in_module entries (find_module x modules) x o

-- the operation would be ill-formed in the module, or has a value or a result with the name of a variable of it
unfoldable pub is_lost : List Head → Module → Oper → Bool
is_lost heads m o = is_some (oper_unknown heads m o) || (is_some (oper_again m o) || is_some (oper_part heads m o))

-- the module is in use by the operation, which is named by the root of its tree
abbrev pub in_use : Module → Oper → EditRefusal
in_use m o = refusal.InUse m.name (spot.At (place_in (tree.Oper m.name o.name) []))

-- the first operation that would be lost to a module that is set again
abbrev pub lost_refusal : List Head → Module → List Oper → Option EditRefusal
lost_refusal heads m [] = None
lost_refusal heads m (o ∷ operations) =
    if is_lost heads m o then Some (in_use m o) else lost_refusal heads m operations

-- the test of a module that is set again, by its operations
abbrev pub operations_refusal : List Item → List Module → Module → Option EditRefusal
operations_refusal entries modules m = lost_refusal (heads_of entries) m (operations_of m.name modules)
