-- The tests of the head of a procedure.
use Rattle.std.specs.Prelude.{ℕ, Bool, ◌&&◌, ◌||◌, ◌+◌, if◌then◌else◌, length, List, [], ◌∷◌, ◌++◌, map, Option, Some, None, is_some}
use Rattle.std.specs.List.{list_any}
use Rattle.rw_terms.specs.declared.term.Formula.{Formula}
use Rattle.rw_terms.specs.declared.scope.Entry.{Entry}
use Rattle.rw_terms.specs.declared.scope.Head.{Head}
use Rattle.rw_terms.specs.declared.scope.Kind.{Kind}
use Rattle.rw_terms.specs.declared.scope.Kind.TheVariants as kind
use Rattle.rw_terms.specs.Scopes.{has_name}
use Rattle.rw_faults.specs.Faults.{first_name, unknown_in}
use Rattle.rw_faults.specs.Limits.{is_light, is_shallow, is_small}
use Rattle.rw_programs.specs.declared.prog.Param.{Param}
use Rattle.rw_goals.specs.declared.library.Item.{Item}
use Rattle.rw_library.specs.Entries.{has_entry, heads_of}
use Rattle.rw_heads.specs.declared.head.Module.{Module}
use Rattle.rw_heads.specs.declared.head.ProcHead.{ProcHead}
use Rattle.rw_heads.specs.Heads.{has_module}
use Rattle.rw_edit_tests.specs.declared.refusal.EditRefusal.{EditRefusal}
use Rattle.rw_edit_tests.specs.Refusals.{is_ill_formed}
use Rattle.rw_edit_tests.specs.Entering.{duplicate, entry_limit, entry_refusal, are_few}

-- parameters in a scope
abbrev pub entry_as : Kind → Param → Entry
entry_as k p = record { name = p.name; sort = p.sort; kind = k }

abbrev pub entries_as : Kind → List Param → List Entry
entries_as k params = map (entry_as k) params

-- the scope of a head: its values and its results
abbrev pub head_scope : (values results : List Param) → List Entry
head_scope values results = entries_as kind.Value values ++ entries_as kind.Outcome results

-- the first name of a scope that one before it has, behind those that are seen
abbrev pub first_again : List Entry → List Entry → Option (List ℕ)
first_again seen [] = None
first_again seen (e ∷ entries) = if list_any (has_name e.name) seen then Some e.name else first_again (seen ++ e ∷ []) entries

-- the first name of two formulas that the scope does not have, or predicate that is not defined
abbrev pub unknown_in_both : List Entry → List Head → Formula → Formula → Option (List ℕ)
unknown_in_both scope heads f g = first_name (unknown_in scope heads f) (unknown_in scope heads g)

-- within the limits, but it speaks of another name than those of the scope, or is ill-formed in it
abbrev pub is_misplaced : List Entry → List Head → List (List ℕ) → Formula → Bool
is_misplaced scope heads initials f = is_small f && is_some (unknown_in scope heads f) || is_ill_formed scope heads initials f

-- the first of two parts that is ill-formed
abbrev pub part_of_two : Bool → Bool → Option ℕ
part_of_two first second = if first then Some 1 else if second then Some 2 else None

-- The precondition is part 1, and speaks of the values alone; the postcondition is part 2, and speaks of the results too. Neither has
-- an initial variable.
abbrev pub proc_part : List Head → ProcHead → Option ℕ
proc_part heads h = part_of_two (is_misplaced (entries_as kind.Value h.values) heads [] h.pre) (is_ill_formed (head_scope h.values h.results) heads [] h.post)

-- the first name of the formulas that is no parameter, or predicate that is not defined
abbrev pub proc_unknown : List Head → ProcHead → Option (List ℕ)
proc_unknown heads h = unknown_in_both (head_scope h.values h.results) heads h.pre h.post

-- the first limit that the head passes
abbrev pub proc_limit : List (List ℕ) → ProcHead → Option EditRefusal
proc_limit order h = entry_limit (is_light h.pre && is_light h.post) (is_shallow h.pre && is_shallow h.post) (are_few (length h.values + length h.results)) h.name order

-- its name is that of another kind, or a parameter stands twice
abbrev pub proc_duplicate : List Item → List Module → ProcHead → Option EditRefusal
proc_duplicate entries modules h = duplicate (has_entry h.name entries || has_module h.name modules) h.name (first_again [] (head_scope h.values h.results))

-- the tests of a procedure's head, but for that of the weight: its names are parameters and its predicates known, its name is that of no
-- other kind and no parameter stands twice, it is well-formed, and the limits
unfoldable pub proc_refusal : List Item → List Module → List (List ℕ) → ProcHead → Option EditRefusal
proc_refusal entries modules order h =
    entry_refusal (proc_unknown (heads_of entries) h) (proc_duplicate entries modules h) (proc_part (heads_of entries) h) (proc_limit order h)
