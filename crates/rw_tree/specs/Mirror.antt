-- The tests of an edit as the code makes them, told from the parts.
use Rattle.std.specs.Prelude.{◌≡◌, ℕ, ◌≤◌, length, List, is_some, Option, Some, None}
use Rattle.std.specs.Option.{option_or}
use Rattle.rw_sequents.specs.declared.line.Cert.{Cert}
use Rattle.rw_sequents.specs.Counting.{line_count}
use Rattle.rw_nodes.specs.declared.edit.Edit.{Edit}
use Rattle.rw_nodes.specs.declared.edit.Edit.TheVariants as edit
use Rattle.rw_nodes.specs.declared.node.Node.{Node}
use Rattle.rw_nodes.specs.declared.parts.Parts.{Parts}
use Rattle.rw_nodes.specs.Nodes.{look, has_obligation, Layer, seen, size, certified}
use Rattle.rw_nodes.specs.Parts.{applied_to, set_step}
use Rattle.rw_nodes.specs.Table.{proof_at}
use Rattle.rw_refusals.specs.declared.refusal.EditRefusal.{EditRefusal}
use Rattle.rw_library.specs.Entries.{heads_of}
use Rattle.rw_refusals.specs.Refusals.{unknown, predicate_in_step, unknown_in_cert, var_refusal, root_refusal, at_place, at_obligation, step_limit, cert_limit}
use Rattle.rw_tree.specs.Accepting.{full}
use Rattle.rw_refusals.specs.Entering.{define_refusal, order_refusal, lemma_refusal, prove_refusal}
use Rattle.rw_tree.specs.Used.{sorts_refusal, drop_refusal}

-- the first test that refuses an edit, but for those from that of the weight on
abbrev pub early_refusal : Parts → Edit → Option EditRefusal
early_refusal parts (edit.Var p) = var_refusal parts.globals parts.library.entries p
early_refusal parts (edit.Root w) = root_refusal parts.globals (heads_of parts.library.entries) w
early_refusal parts (edit.Step q s) =
    option_or (unknown (predicate_in_step (heads_of parts.library.entries) s))
    (at_place (is_some (look parts.main q.path.kids)) q (step_limit q.path.kids s (set_step q.path.kids (Some s) parts.main)))
early_refusal parts (edit.Clear q) = at_place (is_some (look parts.main q.path.kids)) q None
early_refusal parts (edit.Prove q k c) =
    option_or (unknown (unknown_in_cert parts.library.entries c))
    (at_place (is_some (look parts.main q.path.kids)) q (at_obligation (has_obligation parts.main q.path.kids k) k (cert_limit c)))
early_refusal parts (edit.ProveLemma n c) = prove_refusal parts.library.entries n c
early_refusal parts (edit.Define d) = define_refusal parts.library.entries d
early_refusal parts (edit.Lemma m) = lemma_refusal parts.library.entries m
early_refusal parts (edit.Drop x) = drop_refusal parts x

-- the test of the weight with the edit, and those behind it; a certificate, a lemma and a drop have none
abbrev pub late_refusal : Parts → Edit → Option EditRefusal
late_refusal parts (edit.Var p) = full (applied_to parts (edit.Var p))
late_refusal parts (edit.Root w) = full (applied_to parts (edit.Root w))
late_refusal parts (edit.Step q s) = full (applied_to parts (edit.Step q s))
late_refusal parts (edit.Clear q) = full (applied_to parts (edit.Clear q))
late_refusal parts (edit.Prove q k c) = None
late_refusal parts (edit.ProveLemma n c) = None
late_refusal parts (edit.Define d) =
    option_or (full (applied_to parts (edit.Define d))) (option_or (order_refusal parts.library.entries d) (sorts_refusal parts d))
late_refusal parts (edit.Lemma m) = None
late_refusal parts (edit.Drop x) = None

abbrev pub refusal_in : Parts → Edit → Option EditRefusal
refusal_in parts e = option_or (early_refusal parts e) (late_refusal parts e)

-- no certificate has more than 4096 lines
abbrev pub HasFewLines : List (Option Cert) → Type 0
HasFewLines certs = (k : ℕ) (c : Cert) → certified certs k ≡ Some c → line_count c.lines ≤ 4096

-- the nodes of a tree that good edits make, of which there are at most 2048
pub record AreSound (n : Node) : Type 0 where
  pub each : (p : List ℕ) (y : Layer) → seen n p ≡ Some y → HasFewLines y.certs
  pub few : size n ≤ 2048

-- what a project that good edits make has: few entries, each with a certificate or none beside it, none of which has more than 4096 lines
pub record IsBounded (parts : Parts) : Type 0 where
  pub entries : length parts.library.entries ≤ 1024
  pub proofs : length parts.proofs ≡ length parts.library.entries
  pub short : (k : ℕ) (c : Cert) → proof_at parts.proofs k ≡ Some c → line_count c.lines ≤ 4096
