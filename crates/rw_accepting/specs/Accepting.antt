-- Which test refuses an edit after a list of edits.
use Rattle.std.specs.Prelude.{◌≡◌, ℕ, ◌&&◌, min, nat_lt, if◌then◌else◌, List, [], ◌∷◌, Option, Some, None}
use Rattle.std.specs.Option.{option_or}
use Rattle.rw_library.specs.Entries.{heads_of}
use Rattle.rw_edits.specs.declared.edit.Edit.{Edit}
use Rattle.rw_edits.specs.declared.edit.Edit.TheVariants as edit
use Rattle.rw_edits.specs.declared.edit.Place.{Place}
use Rattle.rw_edits.specs.Names.{has_tree}
use Rattle.rw_trees.specs.declared.parts.Parts.{Parts}
use Rattle.rw_trees.specs.Table.{entries_of, procs_of, modules_of, order_of, trees_of}
use Rattle.rw_trees.specs.Trees.{of_tree}
use Rattle.rw_trees.specs.Edits.{globals_of, is_node, has_obligation_of}
use Rattle.rw_trees.specs.Parts.{Makes, tree_of, set_step, parts_of, applied_to}
use Rattle.rw_derivation.specs.Weight.{parts_weight}
use Rattle.rw_edit_tests.specs.declared.refusal.EditRefusal.{EditRefusal}
use Rattle.rw_edit_tests.specs.declared.refusal.EditRefusal.TheVariants as refusal
use Rattle.rw_edit_tests.specs.Refusals.{unknown, root_refusal, var_refusal, unknown_in_place, unknown_in_step, unknown_in_cert, at_place, at_obligation, step_limit, cert_limit}
use Rattle.rw_edit_tests.specs.Entering.{define_refusal, order_refusal, lemma_refusal, prove_refusal}
use Rattle.rw_head_tests.specs.Procs.{proc_refusal}
use Rattle.rw_head_tests.specs.Modules.{module_refusal, oper_refusal, operations_refusal}
use Rattle.rw_accepting.specs.Used.{sorts_refusal, drop_refusal}

-- the weight of a project that is past what it may have; a weight above 2^64 - 1 is told as that
abbrev pub full_by : ℕ → ℕ → Option EditRefusal
full_by most weight = if nat_lt most weight then Some (refusal.Full (min weight 18446744073709551615)) else None

unfoldable pub full : Parts → Option EditRefusal
full parts = full_by parts.most (parts_weight parts)

-- the weight of the project with an edit after the list
abbrev pub full_with : ℕ → List Edit → Edit → Option EditRefusal
full_with most l e = full (applied_to (parts_of most l) e)

-- the procedure or the module of a place is there
abbrev pub tree_unknown : List Edit → Place → Option EditRefusal
tree_unknown l q = unknown (unknown_in_place (procs_of l) (modules_of l) q.tree)

-- the place is a node of a tree that is there, and then what is asked there
abbrev pub at_node : List Edit → Place → Option EditRefusal → Option EditRefusal
at_node l q ask = at_place (has_tree q.tree (trees_of l) && is_node (of_tree q.tree l) q.path.kids) q ask

-- the first test that refuses the edit after the list, if one does; that of the weight is told of the project with the edit
abbrev pub refusal_of : ℕ → List Edit → Edit → Option EditRefusal
refusal_of most l (edit.Var p) = option_or (var_refusal (globals_of l) (order_of l) p) (full_with most l (edit.Var p))
refusal_of most l (edit.Root w) = option_or (root_refusal (globals_of l) (heads_of (entries_of l)) w) (full_with most l (edit.Root w))
refusal_of most l (edit.Step q s) =
    option_or (tree_unknown l q)
    (option_or (unknown (unknown_in_step (heads_of (entries_of l)) (procs_of l) (modules_of l) s))
    (at_node l q (option_or (step_limit q.path.kids s (set_step q.path.kids (Some s) (tree_of (of_tree q.tree l)))) (full_with most l (edit.Step q s)))))
refusal_of most l (edit.Clear q) = option_or (tree_unknown l q) (at_node l q (full_with most l (edit.Clear q)))
refusal_of most l (edit.Prove q k c) =
    option_or (tree_unknown l q)
    (option_or (unknown (unknown_in_cert (entries_of l) c)) (at_node l q (at_obligation (has_obligation_of (of_tree q.tree l) q.path.kids k) k (cert_limit c))))
refusal_of most l (edit.ProveLemma n c) = prove_refusal (entries_of l) n c
refusal_of most l (edit.Define d) =
    option_or (define_refusal (entries_of l) (procs_of l) (modules_of l) (order_of l) d)
    (option_or (full_with most l (edit.Define d)) (option_or (order_refusal (entries_of l) d) (sorts_refusal (parts_of most l) d)))
refusal_of most l (edit.Lemma m) = lemma_refusal (entries_of l) (procs_of l) (modules_of l) (order_of l) m
refusal_of most l (edit.Proc h) = option_or (proc_refusal (entries_of l) (modules_of l) (order_of l) h) (full_with most l (edit.Proc h))
refusal_of most l (edit.Module m) =
    option_or (module_refusal (entries_of l) (procs_of l) (order_of l) m) (option_or (full_with most l (edit.Module m)) (operations_refusal (entries_of l) (modules_of l) m))
refusal_of most l (edit.Oper x o) = option_or (oper_refusal (entries_of l) (modules_of l) x o) (full_with most l (edit.Oper x o))
refusal_of most l (edit.Drop x) = drop_refusal (parts_of most l) x

-- no test refuses the edit after the list
abbrev pub Accepts : ℕ → List Edit → Edit → Type 0
Accepts most l e = refusal_of most l e ≡ None

-- each edit of the list is accepted after those before it
abbrev pub IsGood : ℕ → List Edit → Type 0
IsGood most [] = Unit {0}
IsGood most (e ∷ l) = IsGood most l × Accepts most l e

-- some list of good edits makes the project
abbrev pub IsProject : Parts → Type 0
IsProject parts = (most : ℕ) × (l : List Edit) × IsGood most l × Makes most l parts

-- the project that a list makes edit by edit
abbrev pub edited : ℕ → List Edit → Parts
edited most [] = parts_of most []
edited most (e ∷ l) = applied_to (edited most l) e
