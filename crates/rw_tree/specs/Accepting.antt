-- Which test refuses an edit after a list of edits.
use Rattle.std.specs.Prelude.{◌≡◌, ℕ, min, nat_lt, if◌then◌else◌, List, [], ◌∷◌, Option, Some, None}
use Rattle.std.specs.Option.{option_or}
use Rattle.rw_library.specs.Entries.{heads_of}
use Rattle.rw_nodes.specs.declared.edit.Edit.{Edit}
use Rattle.rw_nodes.specs.declared.edit.Edit.TheVariants as edit
use Rattle.rw_nodes.specs.declared.parts.Parts.{Parts}
use Rattle.rw_nodes.specs.Table.{entries_of}
use Rattle.rw_nodes.specs.Edits.{globals_of, has_obligation_of}
use Rattle.rw_nodes.specs.Parts.{Makes, tree_of, parts_of}
use Rattle.rw_sites.specs.Weight.{parts_weight}
use Rattle.rw_refusals.specs.declared.refusal.EditRefusal.{EditRefusal}
use Rattle.rw_refusals.specs.declared.refusal.EditRefusal.TheVariants as refusal
use Rattle.rw_refusals.specs.Refusals.{unknown, root_refusal, var_refusal, predicate_in_step, unknown_in_cert, at_node, at_obligation, step_limit, cert_limit}
use Rattle.rw_refusals.specs.Entering.{define_refusal, order_refusal, lemma_refusal, prove_refusal}
use Rattle.rw_tree.specs.Used.{sorts_refusal, drop_refusal}

-- the weight of a project that is past what it may have; a weight above 2^64 - 1 is told as that
abbrev pub full_by : ℕ → ℕ → Option EditRefusal
full_by most weight = if nat_lt most weight then Some (refusal.Full (min weight 18446744073709551615)) else None

unfoldable pub full : Parts → Option EditRefusal
full parts = full_by parts.most (parts_weight parts)

-- the first test that refuses the edit after the list, if one does; that of the weight is told of the project with the edit
abbrev pub refusal_of : ℕ → List Edit → Edit → Option EditRefusal
refusal_of most l (edit.Var p) = option_or (var_refusal (globals_of l) (entries_of l) p) (full (parts_of most (edit.Var p ∷ l)))
refusal_of most l (edit.Root w) = option_or (root_refusal (globals_of l) (heads_of (entries_of l)) w) (full (parts_of most (edit.Root w ∷ l)))
refusal_of most l (edit.Step q s) =
    option_or (unknown (predicate_in_step (heads_of (entries_of l)) s))
    (at_node l q (option_or (step_limit q.path.kids s (tree_of (edit.Step q s ∷ l))) (full (parts_of most (edit.Step q s ∷ l)))))
refusal_of most l (edit.Clear q) = at_node l q (full (parts_of most (edit.Clear q ∷ l)))
refusal_of most l (edit.Prove q k c) =
    option_or (unknown (unknown_in_cert (entries_of l) c)) (at_node l q (at_obligation (has_obligation_of l q.path.kids k) k (cert_limit c)))
refusal_of most l (edit.ProveLemma n c) = prove_refusal (entries_of l) n c
refusal_of most l (edit.Define d) =
    option_or (define_refusal (entries_of l) d)
    (option_or (full (parts_of most (edit.Define d ∷ l))) (option_or (order_refusal (entries_of l) d) (sorts_refusal (parts_of most l) d)))
refusal_of most l (edit.Lemma m) = lemma_refusal (entries_of l) m
refusal_of most l (edit.Drop x) = drop_refusal (parts_of most l) x

-- no test refuses the edit after the list
abbrev pub Accepts : ℕ → List Edit → Edit → Type 0
Accepts most l e = refusal_of most l e ≡ None

-- each edit of the list is accepted after those before it
abbrev pub IsGood : ℕ → List Edit → Type 0
IsGood most [] = Unit {0}
IsGood most (e ∷ l) = IsGood most l × Accepts most l e

-- some list of good edits makes the project
abbrev pub IsProject : Parts → Type 0
IsProject parts = (most : ℕ) × (l : List Edit) × IsGood most l × Makes most l parts
