-- When a project is the one that a list of edits makes, and what an edit does to it.
use Rattle.std.specs.Prelude.{◌≡◌, ℕ, if◌then◌else◌, List, [], ◌∷◌, ◌++◌, remove, slice_set, Option, Some, None, IsSome, IsTrue}
use Rattle.rw_sequents.specs.declared.line.Cert.{Cert}
use Rattle.rw_nodes.specs.declared.edit.Step.{Step}
use Rattle.rw_nodes.specs.declared.edit.Edit.{Edit}
use Rattle.rw_nodes.specs.declared.edit.Edit.TheVariants as edit
use Rattle.rw_nodes.specs.declared.node.Node.{Node}
use Rattle.rw_nodes.specs.declared.parts.Parts.{Parts}
use Rattle.rw_goals.specs.declared.library.Item.{Item}
use Rattle.rw_goals.specs.declared.library.Item.TheVariants as item
use Rattle.rw_library.specs.Entries.{entry_name, has_entry, place_of, put_entry, without_entry}
use Rattle.rw_nodes.specs.Table.{entries_of, proofs_of}
use Rattle.rw_nodes.specs.Edits.{without_param, globals_of, root_of, step_at, cert_at}
use Rattle.rw_nodes.specs.Nodes.{blank, look, has_obligation, step_in, cert_in, AreShaped, changed, renewed, fresh_node, with_cert}

-- the tree is the one that the list of edits makes: at every path its step and its certificates are there, and no others
pub record MakesTree (l : List Edit) (n : Node) : Type 0 where
  pub steps : (p : List ℕ) → step_in n p ≡ step_at l p
  pub certs : (p : List ℕ) (k : ℕ) → cert_in n p k ≡ cert_at l p k
  pub shaped : AreShaped n

-- the project is the one that the list of edits makes
pub record Makes (limit : ℕ) (l : List Edit) (parts : Parts) : Type 0 where
  pub globals : parts.globals ≡ globals_of l
  pub root : parts.root ≡ root_of l
  pub entries : parts.library.entries ≡ entries_of l
  pub proofs : parts.proofs ≡ proofs_of l
  pub main : MakesTree l parts.main
  pub most : parts.most ≡ limit

-- the tree with a step set at a path, or none
abbrev pub set_step : List ℕ → Option Step → Node → Node
set_step q s n = changed (renewed (fresh_node s)) n q

-- the tree with a certificate set
abbrev pub set_cert : List ℕ → ℕ → Cert → Node → Node
set_cert q k c n = changed (with_cert k c) n q

-- the tree after an edit of a node or an obligation that is there
abbrev pub tree_after : Edit → Node → Node
tree_after (edit.Var p) n = n
tree_after (edit.Root w) n = n
tree_after (edit.Step q s) n = set_step q.path.kids (Some s) n
tree_after (edit.Clear q) n = set_step q.path.kids None n
tree_after (edit.Prove q k c) n = set_cert q.path.kids k c n
tree_after (edit.ProveLemma x c) n = n
tree_after (edit.Define d) n = n
tree_after (edit.Lemma m) n = n
tree_after (edit.Drop x) n = n

-- the certificates beside entries of which one is set: a new entry has none
abbrev pub proofs_with : List Item → List (Option Cert) → List ℕ → List (Option Cert)
proofs_with entries proofs x = if has_entry x entries then proofs else proofs ++ None ∷ []

-- the parts with an entry set
abbrev pub with_entry : Parts → Item → Parts
with_entry parts e = record parts { library = record { entries = put_entry parts.library.entries e }; proofs = proofs_with parts.library.entries parts.proofs (entry_name e) }

-- the parts with a certificate for an entry
abbrev pub with_proof : Parts → List ℕ → Cert → Parts
with_proof parts x c = record parts { proofs = slice_set parts.proofs (place_of parts.library.entries x) (Some c) }

-- the parts without an entry
abbrev pub less_entry : Parts → List ℕ → Parts
less_entry parts x = record parts { library = record { entries = without_entry parts.library.entries x }; proofs = remove parts.proofs (place_of parts.library.entries x) }

-- the parts after such an edit
abbrev pub applied_to : Parts → Edit → Parts
applied_to parts (edit.Var p) = record parts { globals = parts.globals ++ p ∷ [] }
applied_to parts (edit.Root w) = record parts { root = Some w }
applied_to parts (edit.Step q s) = record parts { main = set_step q.path.kids (Some s) parts.main }
applied_to parts (edit.Clear q) = record parts { main = set_step q.path.kids None parts.main }
applied_to parts (edit.Prove q k c) = record parts { main = set_cert q.path.kids k c parts.main }
applied_to parts (edit.ProveLemma x c) = with_proof parts x c
applied_to parts (edit.Define d) = with_entry parts (item.Definition d)
applied_to parts (edit.Lemma m) = with_entry parts (item.Lemma m)
applied_to parts (edit.Drop x) = if has_entry x parts.library.entries then less_entry parts x else record parts { globals = without_param parts.globals x }

-- the node or the obligation of an edit is there
abbrev pub IsPlaced : Node → Edit → Type 0
IsPlaced n (edit.Var p) = Unit {0}
IsPlaced n (edit.Root w) = Unit {0}
IsPlaced n (edit.Step q s) = IsSome (look n q.path.kids)
IsPlaced n (edit.Clear q) = IsSome (look n q.path.kids)
IsPlaced n (edit.Prove q k c) = IsTrue (has_obligation n q.path.kids k)
IsPlaced n (edit.ProveLemma x c) = Unit {0}
IsPlaced n (edit.Define d) = Unit {0}
IsPlaced n (edit.Lemma m) = Unit {0}
IsPlaced n (edit.Drop x) = Unit {0}

-- the tree that a list makes, edit by edit from the first
abbrev pub tree_of : List Edit → Node
tree_of [] = blank
tree_of (e ∷ l) = tree_after e (tree_of l)

-- the project of a list: that tree, and all else read backwards
abbrev pub parts_of : ℕ → List Edit → Parts
parts_of limit l = record { globals = globals_of l; root = root_of l; library = record { entries = entries_of l }; proofs = proofs_of l; main = tree_of l; most = limit }

-- the project that a list makes edit by edit from the first, whatever the edits are
abbrev pub edited : ℕ → List Edit → Parts
edited limit [] = record { globals = []; root = None; library = record { entries = [] }; proofs = []; main = blank; most = limit }
edited limit (e ∷ l) = applied_to (edited limit l) e
