-- The tests of an edit as the code makes them, told from the parts.
use Rattle.std.specs.Prelude.{◌≡◌, ℕ, ◌≤◌, length, List, is_some, Option, Some, None}
use Rattle.std.specs.Option.{option_or}
use Rattle.rw_terms.specs.Validity.{Each}
use Rattle.rw_sequents.specs.declared.line.Cert.{Cert}
use Rattle.rw_sequents.specs.Counting.{line_count}
use Rattle.rw_library.specs.Entries.{heads_of}
use Rattle.rw_edits.specs.declared.edit.Edit.{Edit}
use Rattle.rw_edits.specs.declared.edit.Edit.TheVariants as edit
use Rattle.rw_edits.specs.declared.edit.Step.{Step}
use Rattle.rw_edits.specs.declared.edit.Place.{Place}
use Rattle.rw_trees.specs.declared.node.Node.{Node}
use Rattle.rw_trees.specs.declared.node.Tree.{Tree}
use Rattle.rw_trees.specs.declared.parts.Parts.{Parts}
use Rattle.rw_trees.specs.Nodes.{Layer, seen, size, certified}
use Rattle.rw_trees.specs.Table.{proof_at}
use Rattle.rw_trees.specs.Parts.{applied_to, set_step, top_of, node_of, has_obligation_at}
use Rattle.rw_edit_tests.specs.declared.refusal.EditRefusal.{EditRefusal}
use Rattle.rw_edit_tests.specs.Refusals.{unknown, root_refusal, var_refusal, unknown_in_place, unknown_in_step, unknown_in_cert, at_place, at_obligation, step_limit, cert_limit}
use Rattle.rw_edit_tests.specs.Entering.{define_refusal, order_refusal, lemma_refusal, prove_refusal}
use Rattle.rw_head_tests.specs.Procs.{proc_refusal}
use Rattle.rw_head_tests.specs.Modules.{module_refusal, oper_refusal, operations_refusal}
use Rattle.rw_accepting.specs.Used.{sorts_refusal, drop_refusal}
use Rattle.rw_accepting.specs.Accepting.{full}

-- the procedure or the module of a place is there
abbrev pub tree_unknown_in : Parts → Place → Option EditRefusal
tree_unknown_in parts q = unknown (unknown_in_place parts.procs parts.modules q.tree)

abbrev pub at_node_in : Parts → Place → Option EditRefusal → Option EditRefusal
at_node_in parts q ask = at_place (is_some (node_of parts.trees q)) q ask

-- the first limit that a step passes, by the tree with it
abbrev pub limit_in : Option Node → List ℕ → Step → Option EditRefusal
limit_in None path s = None
limit_in (Some n) path s = step_limit path s (set_step path (Some s) n)

-- the first test that refuses an edit, but for those from that of the weight on
abbrev pub early_refusal : Parts → Edit → Option EditRefusal
early_refusal parts (edit.Var p) = var_refusal parts.globals parts.order p
early_refusal parts (edit.Root w) = root_refusal parts.globals (heads_of parts.library.entries) w
early_refusal parts (edit.Step q s) =
    option_or (tree_unknown_in parts q)
    (option_or (unknown (unknown_in_step (heads_of parts.library.entries) parts.procs parts.modules s))
    (at_node_in parts q (limit_in (top_of parts.trees q.tree) q.path.kids s)))
early_refusal parts (edit.Clear q) = option_or (tree_unknown_in parts q) (at_node_in parts q None)
early_refusal parts (edit.Prove q k c) =
    option_or (tree_unknown_in parts q)
    (option_or (unknown (unknown_in_cert parts.library.entries c)) (at_node_in parts q (at_obligation (has_obligation_at parts.trees q k) k (cert_limit c))))
early_refusal parts (edit.ProveLemma n c) = prove_refusal parts.library.entries n c
early_refusal parts (edit.Define d) = define_refusal parts.library.entries parts.procs parts.modules parts.order d
early_refusal parts (edit.Lemma m) = lemma_refusal parts.library.entries parts.procs parts.modules parts.order m
early_refusal parts (edit.Proc h) = proc_refusal parts.library.entries parts.modules parts.order h
early_refusal parts (edit.Module m) = module_refusal parts.library.entries parts.procs parts.order m
early_refusal parts (edit.Oper x o) = oper_refusal parts.library.entries parts.modules x o
early_refusal parts (edit.Drop x) = drop_refusal parts x

-- the test of the weight with the edit, and those behind it; a certificate, a lemma and a drop have none
abbrev pub late_refusal : Parts → Edit → Option EditRefusal
late_refusal parts (edit.Var p) = full (applied_to parts (edit.Var p))
late_refusal parts (edit.Root w) = full (applied_to parts (edit.Root w))
late_refusal parts (edit.Step q s) = full (applied_to parts (edit.Step q s))
late_refusal parts (edit.Clear q) = full (applied_to parts (edit.Clear q))
late_refusal parts (edit.Prove q k c) = None
late_refusal parts (edit.ProveLemma n c) = None
late_refusal parts (edit.Define d) =
    option_or (full (applied_to parts (edit.Define d))) (option_or (order_refusal parts.library.entries d) (sorts_refusal parts d))
late_refusal parts (edit.Lemma m) = None
late_refusal parts (edit.Proc h) = full (applied_to parts (edit.Proc h))
late_refusal parts (edit.Module m) = option_or (full (applied_to parts (edit.Module m))) (operations_refusal parts.library.entries parts.modules m)
late_refusal parts (edit.Oper x o) = full (applied_to parts (edit.Oper x o))
late_refusal parts (edit.Drop x) = None

abbrev pub refusal_in : Parts → Edit → Option EditRefusal
refusal_in parts e = option_or (early_refusal parts e) (late_refusal parts e)

-- no certificate has more than 4096 lines
abbrev pub HasFewLines : List (Option Cert) → Type 0
HasFewLines certs = (k : ℕ) (c : Cert) → certified certs k ≡ Some c → line_count c.lines ≤ 4096

-- the nodes of a tree that good edits make, of which there are at most 2048
pub record AreSound (n : Node) : Type 0 where
  pub each : (p : List ℕ) (y : Layer) → seen n p ≡ Some y → HasFewLines y.certs
  pub few : size n ≤ 2048

-- what a project that good edits make has: few entries, each of the library with a certificate or none beside it, none of which has more
-- than 4096 lines, and sound trees
pub record IsBounded (parts : Parts) : Type 0 where
  pub entries : length parts.order ≤ 1024
  pub proofs : length parts.proofs ≡ length parts.library.entries
  pub short : (k : ℕ) (c : Cert) → proof_at parts.proofs k ≡ Some c → line_count c.lines ≤ 4096
  pub trees : Each (λ (t : Tree). AreSound t.top) parts.trees
