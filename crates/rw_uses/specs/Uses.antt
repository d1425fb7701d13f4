-- Which entries of the table the project's own tree uses.
use Rattle.std.specs.Prelude.{ℕ, Bool, false, ◌&&◌, ◌||◌, length, List, Option, Some, None, bytes_eq}
use Rattle.std.specs.List.{list_any}
use Rattle.rw_terms.specs.Mentions.{any_of}
use Rattle.rw_sequents.specs.declared.line.Cert.{Cert}
use Rattle.rw_library.specs.Entries.{place_of}
use Rattle.rw_library.specs.Naming.{cites}
use Rattle.rw_heads.specs.declared.step.ModStep.TheVariants as module_step
use Rattle.rw_edits.specs.declared.edit.Step.{Step}
use Rattle.rw_edits.specs.declared.edit.Step.TheVariants as step
use Rattle.rw_edits.specs.declared.edit.TreeName.TheVariants as tree
use Rattle.rw_edits.specs.Names.{goes_with}
use Rattle.rw_trees.specs.Table.{proof_at}
use Rattle.rw_trees.specs.declared.node.Node.{Node, Node-F, fold-Node}
use Rattle.rw_trees.specs.declared.node.Tree.{Tree}
use Rattle.rw_trees.specs.declared.parts.Parts.{Parts}
use Rattle.rw_trees.specs.Parts.{top_of}
use Rattle.rw_uses.specs.Rounds.{taken_after}

module _ (x : List ℕ) where
  -- whether a certificate, if there is one, cites the lemma of this name
  abbrev pub proof_cites : Option Cert → Bool
  proof_cites None = false
  proof_cites (Some c) = cites x c

  -- whether a step calls the procedure of this name, or opens the module
  abbrev pub step_uses : Step → Bool
  step_uses (step.Basic s) = false
  step_uses (step.Loop s) = false
  step_uses (step.Call s) = bytes_eq s.name x
  step_uses (step.Module (module_step.Open m)) = bytes_eq m x
  step_uses (step.Module (module_step.Op m o args results)) = false

  abbrev pub set_uses : Option Step → Bool
  set_uses None = false
  set_uses (Some s) = step_uses s

  abbrev pub node_uses_step : Node-F Bool → Bool
  node_uses_step y = set_uses y.step || (list_any proof_cites y.certs || any_of y.kids)

  -- whether the step or a certificate of the node, or of one below, uses the entry of this name
  abbrev pub node_uses : Node → Bool
  node_uses = fold-Node Bool node_uses_step

  abbrev pub top_uses : Option Node → Bool
  top_uses None = false
  top_uses (Some n) = node_uses n

module _ (parts : Parts) where
  -- whether the project's own tree uses the entry of this name
  abbrev pub main_uses : List ℕ → Bool
  main_uses x = top_uses x (top_of parts.trees tree.Main)

  -- whether the certificate of the entry of one name, or a tree of it, uses that of the other
  abbrev pub entry_uses : List ℕ → List ℕ → Bool
  entry_uses x y =
      proof_cites x (proof_at parts.proofs (place_of parts.library.entries y))
      || list_any (λ (t : Tree). goes_with y t.name && node_uses x t.top) parts.trees

-- the entries that the project's own tree uses, and what these use in turn, in table order
unfoldable pub used : Parts → List (List ℕ)
used parts = taken_after (main_uses parts) (entry_uses parts) parts.order (length parts.order)
