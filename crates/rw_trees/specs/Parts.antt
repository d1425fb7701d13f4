-- When a project is the one that a list of edits makes, and what an edit does to it.
use Rattle.std.specs.Prelude.{◌≡◌, ℕ, suc, Bool, true, false, not, if◌then◌else◌, List, [], ◌∷◌, ◌++◌, map, remove, slice_set, Option, Some, None, IsSome, IsTrue, bytes_eq}
use Rattle.std.specs.List.{filter, list_any}
use Rattle.std.specs.Option.{option_and_then}
use Rattle.rw_sequents.specs.declared.line.Cert.{Cert}
use Rattle.rw_edits.specs.declared.edit.Step.{Step}
use Rattle.rw_edits.specs.declared.edit.Edit.{Edit}
use Rattle.rw_edits.specs.declared.edit.Edit.TheVariants as edit
use Rattle.rw_edits.specs.declared.edit.Place.{Place}
use Rattle.rw_edits.specs.declared.edit.TreeName.{TreeName}
use Rattle.rw_heads.specs.declared.head.ProcHead.{ProcHead}
use Rattle.rw_heads.specs.declared.head.Module.{Module}
use Rattle.rw_heads.specs.declared.head.Oper.{Oper}
use Rattle.rw_trees.specs.declared.node.Node.{Node}
use Rattle.rw_trees.specs.declared.node.Tree.{Tree}
use Rattle.rw_trees.specs.declared.parts.Parts.{Parts}
use Rattle.rw_goals.specs.declared.library.Item.{Item}
use Rattle.rw_goals.specs.declared.library.Item.TheVariants as item
use Rattle.rw_library.specs.Entries.{entry_name, has_entry, place_of, put_entry, without_entry}
use Rattle.rw_edits.specs.Names.{is_tree, has_tree, goes_with}
use Rattle.rw_heads.specs.Listed.{has_name, put_name, without_name}
use Rattle.rw_heads.specs.Heads.{put_proc, has_proc, without_proc, put_module, has_module, without_module, modules_with}
use Rattle.rw_trees.specs.Table.{Row, Stated, Headed, Held, row_name, bare, oper_tree, trees_in, entries_of, proofs_of, procs_of, modules_of, order_of, trees_of}
use Rattle.rw_trees.specs.Trees.{of_tree}
use Rattle.rw_trees.specs.Edits.{without_param, globals_of, root_of, step_at, cert_at}
use Rattle.rw_trees.specs.Nodes.{blank, look, has_obligation, step_in, cert_in, AreShaped, changed, renewed, fresh_node, with_cert}

-- the tree is the one that the list of edits makes: at every path its step and its certificates are there, and no others
pub record MakesTree (l : List Edit) (n : Node) : Type 0 where
  pub steps : (p : List ℕ) → step_in n p ≡ step_at l p
  pub certs : (p : List ℕ) (k : ℕ) → cert_in n p k ≡ cert_at l p k
  pub shaped : AreShaped n

-- each of the trees is the one that the edits which speak of it make
abbrev pub MakesTrees : List Edit → List Tree → Type 0
MakesTrees l [] = Unit {0}
MakesTrees l (t ∷ ts) = MakesTree (of_tree t.name l) t.top × MakesTrees l ts

abbrev pub tree_name : Tree → TreeName
tree_name t = t.name

-- the project is the one that the list of edits makes
pub record Makes (limit : ℕ) (l : List Edit) (parts : Parts) : Type 0 where
  pub globals : parts.globals ≡ globals_of l
  pub root : parts.root ≡ root_of l
  pub entries : parts.library.entries ≡ entries_of l
  pub proofs : parts.proofs ≡ proofs_of l
  pub procs : parts.procs ≡ procs_of l
  pub modules : parts.modules ≡ modules_of l
  pub order : parts.order ≡ order_of l
  pub names : map tree_name parts.trees ≡ trees_of l
  pub tops : MakesTrees l parts.trees
  pub most : parts.most ≡ limit

-- the derivation of a tree
abbrev pub top_of : List Tree → TreeName → Option Node
top_of [] t = None
top_of (u ∷ us) t = if is_tree t u.name then Some u.top else top_of us t

-- where the tree of a name stands, counted from 0, or how many there are
abbrev pub tree_place : List Tree → TreeName → ℕ
tree_place [] t = 0
tree_place (u ∷ us) t = if is_tree t u.name then 0 else suc (tree_place us t)

-- the node of a place
abbrev pub node_of : List Tree → Place → Option Node
node_of trees q = option_and_then (λ n. look n q.path.kids) (top_of trees q.tree)

-- whether the tree is there, and the node at its path has the obligation
abbrev pub obligation_in : Option Node → List ℕ → ℕ → Bool
obligation_in None p k = false
obligation_in (Some n) p k = has_obligation n p k

abbrev pub has_obligation_at : List Tree → Place → ℕ → Bool
has_obligation_at trees q k = obligation_in (top_of trees q.tree) q.path.kids k

-- the trees with a change made to that of a name
abbrev pub changed_if : Bool → (Node → Node) → Tree → Tree
changed_if true f t = record { name = t.name; top = f t.top }
changed_if false f t = t

abbrev pub in_tree : TreeName → (Node → Node) → List Tree → List Tree
in_tree x f ts = map (λ t. changed_if (is_tree x t.name) f t) ts

-- a node with a step set at a path, or none
abbrev pub set_step : List ℕ → Option Step → Node → Node
set_step q s n = changed (renewed (fresh_node s)) n q

-- a node with a certificate set
abbrev pub set_cert : List ℕ → ℕ → Cert → Node → Node
set_cert q k c n = changed (with_cert k c) n q

-- the certificates beside entries of which one is set: a new entry has none
abbrev pub proofs_with : List Item → List (Option Cert) → List ℕ → List (Option Cert)
proofs_with entries proofs x = if has_entry x entries then proofs else proofs ++ None ∷ []

abbrev pub blank_tree : TreeName → Tree
blank_tree t = record { name = t; top = blank }

-- the trees with those of an entry that is set: a new one has blank trees, behind all others
abbrev pub trees_with : List (List ℕ) → List Tree → Row → List Tree
trees_with order trees r = if has_name (row_name r) order then trees else trees ++ map blank_tree (trees_in r)

-- the parts with an entry set
abbrev pub with_row : Parts → Row → Parts
with_row parts (Stated e p) = record parts { library = record { entries = put_entry parts.library.entries e }; proofs = proofs_with parts.library.entries parts.proofs (entry_name e); order = put_name parts.order (entry_name e) }
with_row parts (Headed h) = record parts { procs = put_proc parts.procs h; order = put_name parts.order h.name; trees = trees_with parts.order parts.trees (Headed h) }
with_row parts (Held m) = record parts { modules = put_module parts.modules m; order = put_name parts.order m.name; trees = trees_with parts.order parts.trees (Held m) }

-- an item behind the first ones that pass a test
abbrev pub behind_run : {A : Type 0} → (A → Bool) → A → List A → List A
behind_run p n [] = n ∷ []
behind_run p n (x ∷ xs) = if p x then x ∷ behind_run p n xs else n ∷ x ∷ xs

-- an item behind the first run of those that pass a test, where there is one
abbrev pub inserted : {A : Type 0} → (A → Bool) → A → List A → List A
inserted p n [] = []
inserted p n (x ∷ xs) = if p x then x ∷ behind_run p n xs else x ∷ inserted p n xs

-- the trees with that of an operation that is set: a new one has a blank tree, behind those of its module
abbrev pub trees_with_oper : List Tree → List ℕ → Oper → List Tree
trees_with_oper trees x o = if has_tree (oper_tree x o) (map tree_name trees) then trees else inserted (λ t. goes_with x t.name) (blank_tree (oper_tree x o)) trees

-- the parts with an operation set
abbrev pub with_operation : Parts → List ℕ → Oper → Parts
with_operation parts x o = record parts { modules = modules_with parts.modules x o; trees = trees_with_oper parts.trees x o }

-- the parts with a certificate for an entry
abbrev pub with_proof : Parts → List ℕ → Cert → Parts
with_proof parts x c = record parts { proofs = slice_set parts.proofs (place_of parts.library.entries x) (Some c) }

-- the trees but those of the entry of the name
abbrev pub without_trees : List ℕ → List Tree → List Tree
without_trees x ts = filter (λ t. not (goes_with x t.name)) ts

-- the parts without an entry
abbrev pub less_row : Parts → List ℕ → Parts
less_row parts x = record parts {
  library = record { entries = without_entry parts.library.entries x };
  proofs = remove parts.proofs (place_of parts.library.entries x);
  procs = without_proc x parts.procs;
  modules = without_module x parts.modules;
  order = without_name x parts.order;
  trees = without_trees x parts.trees;
}

-- the parts after an edit that is placed
abbrev pub applied_to : Parts → Edit → Parts
applied_to parts (edit.Var p) = record parts { globals = parts.globals ++ p ∷ [] }
applied_to parts (edit.Root w) = record parts { root = Some w }
applied_to parts (edit.Step q s) = record parts { trees = in_tree q.tree (set_step q.path.kids (Some s)) parts.trees }
applied_to parts (edit.Clear q) = record parts { trees = in_tree q.tree (set_step q.path.kids None) parts.trees }
applied_to parts (edit.Prove q k c) = record parts { trees = in_tree q.tree (set_cert q.path.kids k c) parts.trees }
applied_to parts (edit.ProveLemma x c) = with_proof parts x c
applied_to parts (edit.Define d) = with_row parts (Stated (item.Definition d) None)
applied_to parts (edit.Lemma m) = with_row parts (Stated (item.Lemma m) None)
applied_to parts (edit.Proc h) = with_row parts (Headed h)
applied_to parts (edit.Module m) = with_row parts (Held (bare m))
applied_to parts (edit.Oper x o) = with_operation parts x o
applied_to parts (edit.Drop x) = if has_name x parts.order then less_row parts x else record parts { globals = without_param parts.globals x }

-- no entry of another kind has the name of this one
abbrev pub IsFree : Parts → Row → Type 0
IsFree parts (Stated e p) = (has_proc (entry_name e) parts.procs ≡ false) × (has_module (entry_name e) parts.modules ≡ false)
IsFree parts (Headed h) = (has_entry h.name parts.library.entries ≡ false) × (has_module h.name parts.modules ≡ false)
IsFree parts (Held m) = (has_entry m.name parts.library.entries ≡ false) × (has_proc m.name parts.procs ≡ false)

-- the node, the obligation or the module of an edit is there, and what it sets is of the kind that its name has
abbrev pub IsPlaced : Parts → Edit → Type 0
IsPlaced parts (edit.Var p) = Unit {0}
IsPlaced parts (edit.Root w) = Unit {0}
IsPlaced parts (edit.Step q s) = IsSome (node_of parts.trees q)
IsPlaced parts (edit.Clear q) = IsSome (node_of parts.trees q)
IsPlaced parts (edit.Prove q k c) = IsTrue (has_obligation_at parts.trees q k)
IsPlaced parts (edit.ProveLemma x c) = Unit {0}
IsPlaced parts (edit.Define d) = IsFree parts (Stated (item.Definition d) None)
IsPlaced parts (edit.Lemma m) = IsFree parts (Stated (item.Lemma m) None)
IsPlaced parts (edit.Proc h) = IsFree parts (Headed h)
IsPlaced parts (edit.Module m) = IsFree parts (Held (bare m))
IsPlaced parts (edit.Oper x o) = IsTrue (has_module x parts.modules)
IsPlaced parts (edit.Drop x) = Unit {0}

-- a tree after an edit of one of its nodes or obligations
abbrev pub tree_after : Edit → Node → Node
tree_after (edit.Var p) n = n
tree_after (edit.Root w) n = n
tree_after (edit.Step q s) n = set_step q.path.kids (Some s) n
tree_after (edit.Clear q) n = set_step q.path.kids None n
tree_after (edit.Prove q k c) n = set_cert q.path.kids k c n
tree_after (edit.ProveLemma x c) n = n
tree_after (edit.Define d) n = n
tree_after (edit.Lemma m) n = n
tree_after (edit.Proc h) n = n
tree_after (edit.Module m) n = n
tree_after (edit.Oper x o) n = n
tree_after (edit.Drop x) n = n

-- the tree that the edits of it make, edit by edit from the first
abbrev pub tree_of : List Edit → Node
tree_of [] = blank
tree_of (e ∷ l) = tree_after e (tree_of l)

-- the trees that a list makes so
abbrev pub made_tree : List Edit → TreeName → Tree
made_tree l t = record { name = t; top = tree_of (of_tree t l) }

abbrev pub made_trees : List Edit → List Tree
made_trees l = map (made_tree l) (trees_of l)

-- the project that a list makes
abbrev pub parts_of : ℕ → List Edit → Parts
parts_of limit l = record {
  globals = globals_of l;
  root = root_of l;
  library = record { entries = entries_of l };
  proofs = proofs_of l;
  procs = procs_of l;
  modules = modules_of l;
  order = order_of l;
  trees = made_trees l;
  most = limit;
}
