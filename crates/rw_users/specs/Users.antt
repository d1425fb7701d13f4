-- What uses an entry of the table, or a global: the entries of the library in table order, and then the places in the order of the trees.
use Rattle.std.specs.Prelude.{ℕ, ◌+◌, Bool, false, ◌||◌, if◌then◌else◌, List, [], ◌∷◌, ◌++◌, slice_get, Option, Some, None, bytes_eq}
use Rattle.std.specs.Option.{option_or}
use Rattle.std.specs.List.{list_any}
use Rattle.rw_terms.specs.declared.term.Formula.{Formula}
use Rattle.rw_terms.specs.Mentions.{formula_mentions}
use Rattle.rw_faults.specs.Initial.{is_listed}
use Rattle.rw_programs.specs.declared.prog.Spec.{Spec}
use Rattle.rw_sequents.specs.declared.line.Cert.{Cert}
use Rattle.rw_goals.specs.declared.library.Item.{Item}
use Rattle.rw_goals.specs.declared.library.Item.TheVariants.{Definition, Lemma}
use Rattle.rw_heads.specs.declared.head.ProcHead.{ProcHead}
use Rattle.rw_heads.specs.declared.head.Module.{Module}
use Rattle.rw_heads.specs.declared.head.Oper.{Oper}
use Rattle.rw_heads.specs.declared.step.ModStep.TheVariants as module_step
use Rattle.rw_heads.specs.Heads.{find_proc, find_module, find_oper, operations_of}
use Rattle.rw_laws.specs.declared.step.BasicStep.TheVariants as basic
use Rattle.rw_loops.specs.Counts.{guards_of}
use Rattle.rw_library.specs.Naming.{applies, item_names, cert_names}
use Rattle.rw_edits.specs.declared.edit.Step.{Step}
use Rattle.rw_edits.specs.declared.edit.Step.TheVariants as step
use Rattle.rw_edits.specs.declared.edit.Spot.{Spot}
use Rattle.rw_edits.specs.declared.edit.Spot.TheVariants as spot
use Rattle.rw_edits.specs.declared.edit.TreeName.{TreeName}
use Rattle.rw_edits.specs.declared.edit.TreeName.TheVariants as tree
use Rattle.rw_edits.specs.Names.{place_in}
use Rattle.rw_trees.specs.declared.node.Node.{Node, Node-F, fold-Node}
use Rattle.rw_trees.specs.declared.node.Tree.{Tree}
use Rattle.rw_trees.specs.declared.parts.Parts.{Parts}

-- an entry of the library, as what uses another
abbrev pub spot_of : Item → Spot
spot_of (Definition d) = spot.Define d.name
spot_of (Lemma l) = spot.Lemma l.name

module _ (x : List ℕ) where
  -- whether a certificate, if there is one, has the name
  abbrev pub proof_names : Option Cert → Bool
  proof_names None = false
  proof_names (Some c) = cert_names x c

  -- whether the certificate in a place beside the entries has the name
  abbrev pub beside_names : Option (Option Cert) → Bool
  beside_names None = false
  beside_names (Some p) = proof_names p

  -- the first entry from a place on that has the name, or whose certificate has it
  abbrev pub entry_user : List (Option Cert) → ℕ → List Item → Option Spot
  entry_user proofs k [] = None
  entry_user proofs k (e ∷ es) = if item_names x e || beside_names (slice_get proofs k) then Some (spot_of e) else entry_user proofs (k + 1) es

  -- whether the step has the name as that of a predicate, of the procedure that it calls, or of its module
  abbrev pub step_names : Step → Bool
  step_names (step.Basic (basic.Weaken f)) = applies x f
  step_names (step.Basic (basic.Strengthen f)) = applies x f
  step_names (step.Basic (basic.Seq f)) = applies x f
  step_names (step.Basic (basic.SeqCon names f)) = applies x f
  step_names (step.Basic _) = false
  step_names (step.Loop s) = list_any (applies x) (guards_of s)
  step_names (step.Call s) = bytes_eq s.name x
  step_names (step.Module (module_step.Open m)) = bytes_eq m x
  step_names (step.Module (module_step.Op m o args results)) = bytes_eq m x

  abbrev pub set_names : Option Step → Bool
  set_names None = false
  set_names (Some s) = step_names s

  -- a node's user, by its path
  abbrev pub Users : Type 0
  Users = List ℕ → Option (List ℕ)

  abbrev pub kids_user : List Users → ℕ → List ℕ → Option (List ℕ)
  kids_user [] i path = None
  kids_user (f ∷ fs) i path = option_or (f (path ++ (i + 1) ∷ [])) (kids_user fs (i + 1) path)

  abbrev pub user_step : Node-F Users → Users
  user_step y path = if set_names y.step || list_any proof_names y.certs then Some path else kids_user y.kids 0 path

  -- the path of the first node, from this one down, whose step or a certificate of which has the name
  abbrev pub node_user : Node → Users
  node_user = fold-Node Users user_step

  -- whether one of two formulas has the name
  abbrev pub both_name : Formula → Formula → Bool
  both_name f g = applies x f || applies x g

  abbrev pub spec_names : Option Spec → Bool
  spec_names None = false
  spec_names (Some w) = both_name w.pre w.post

  abbrev pub head_names : Option ProcHead → Bool
  head_names None = false
  head_names (Some h) = both_name h.pre h.post

  abbrev pub module_names : Option Module → Bool
  module_names None = false
  module_names (Some m) = both_name m.start m.coupling

  abbrev pub oper_names : Option Oper → Bool
  oper_names None = false
  oper_names (Some o) = both_name o.spec.pre o.spec.post

  module _ (parts : Parts) where
    -- whether what a tree derives has the name: the root, a head, a module for its start, or an operation
    abbrev pub root_names : TreeName → Bool
    root_names tree.Main = spec_names parts.root
    root_names (tree.Proc y) = head_names (find_proc y parts.procs)
    root_names (tree.Start m) = module_names (find_module m parts.modules)
    root_names (tree.Oper m y) = oper_names (find_oper y (operations_of m parts.modules))

    abbrev pub spot_at : TreeName → Option (List ℕ) → Option Spot
    spot_at t None = None
    spot_at t (Some path) = Some (spot.At (place_in t path))

    -- the first node of the tree that has the name; what the tree derives is one with its root
    abbrev pub tree_user : Tree → Option Spot
    tree_user t = if root_names t.name then Some (spot.At (place_in t.name [])) else spot_at t.name (node_user t.top [])

    abbrev pub trees_user : List Tree → Option Spot
    trees_user [] = None
    trees_user (t ∷ ts) = option_or (tree_user t) (trees_user ts)

    -- the first user of the entry of this name
    unfoldable pub user_in : Option Spot
    user_in = option_or (entry_user parts.proofs 0 parts.library.entries) (trees_user parts.trees)

  -- whether the root speaks of the global of this name
  abbrev pub root_speaks : Option Spec → Bool
  root_speaks None = false
  root_speaks (Some w) = is_listed w.frame x || (formula_mentions x w.pre || formula_mentions x w.post)
