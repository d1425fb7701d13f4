-- What uses an entry of the table, or a global: the first user in table order and then in tree order.
use Rattle.std.specs.Prelude.{ℕ, ◌+◌, Bool, false, ◌||◌, if◌then◌else◌, List, [], ◌∷◌, ◌++◌, slice_get, Option, Some, None}
use Rattle.std.specs.Option.{option_or}
use Rattle.std.specs.List.{list_any}
use Rattle.rw_terms.specs.Mentions.{formula_mentions}
use Rattle.rw_faults.specs.Initial.{is_listed}
use Rattle.rw_programs.specs.declared.prog.Spec.{Spec}
use Rattle.rw_sequents.specs.declared.line.Cert.{Cert}
use Rattle.rw_goals.specs.declared.library.Item.{Item}
use Rattle.rw_goals.specs.declared.library.Item.TheVariants.{Definition, Lemma}
use Rattle.rw_laws.specs.declared.step.BasicStep.TheVariants as basic
use Rattle.rw_loops.specs.Counts.{guards_of}
use Rattle.rw_library.specs.Naming.{applies, item_names, cert_names}
use Rattle.rw_nodes.specs.declared.edit.Step.{Step}
use Rattle.rw_nodes.specs.declared.edit.Step.TheVariants as step
use Rattle.rw_nodes.specs.declared.node.Node.{Node, Node-F, fold-Node}
use Rattle.rw_nodes.specs.declared.parts.Parts.{Parts}
use Rattle.rw_nodes.specs.Edits.{place_at}
use Rattle.rw_refusals.specs.declared.refusal.Spot.{Spot}
use Rattle.rw_refusals.specs.declared.refusal.Spot.TheVariants as spot

-- an entry, as what uses another
abbrev pub spot_of : Item → Spot
spot_of (Definition d) = spot.Define d.name
spot_of (Lemma l) = spot.Lemma l.name

module _ (x : List ℕ) where
  -- whether a certificate, if there is one, has the name
  abbrev pub proof_names : Option Cert → Bool
  proof_names None = false
  proof_names (Some c) = cert_names x c

  -- whether the certificate in a place beside the entries has the name
  abbrev pub beside_names : Option (Option Cert) → Bool
  beside_names None = false
  beside_names (Some p) = proof_names p

  -- the first entry from a place on that has the name, or whose certificate has it
  abbrev pub entry_user : List (Option Cert) → ℕ → List Item → Option Spot
  entry_user proofs k [] = None
  entry_user proofs k (e ∷ es) = if item_names x e || beside_names (slice_get proofs k) then Some (spot_of e) else entry_user proofs (k + 1) es

  -- whether a formula of the root has the predicate
  abbrev pub root_names : Option Spec → Bool
  root_names None = false
  root_names (Some w) = applies x w.pre || applies x w.post

  -- whether a formula of the step has the predicate
  abbrev pub step_names : Step → Bool
  step_names (step.Basic (basic.Weaken f)) = applies x f
  step_names (step.Basic (basic.Strengthen f)) = applies x f
  step_names (step.Basic (basic.Seq f)) = applies x f
  step_names (step.Basic (basic.SeqCon names f)) = applies x f
  step_names (step.Basic _) = false
  step_names (step.Loop s) = list_any (applies x) (guards_of s)

  abbrev pub set_names : Option Step → Bool
  set_names None = false
  set_names (Some s) = step_names s

  -- a node's user, by its path
  abbrev pub Users : Type 0
  Users = List ℕ → Option (List ℕ)

  abbrev pub kids_user : List Users → ℕ → List ℕ → Option (List ℕ)
  kids_user [] i path = None
  kids_user (f ∷ fs) i path = option_or (f (path ++ (i + 1) ∷ [])) (kids_user fs (i + 1) path)

  abbrev pub user_step : Node-F Users → Users
  user_step y path = if set_names y.step || list_any proof_names y.certs then Some path else kids_user y.kids 0 path

  -- the path of the first node, from this one down, whose step or a certificate of which has the name
  abbrev pub node_user : Node → Users
  node_user = fold-Node Users user_step

  -- the path of the first node of the tree that has the name, the root specification being one with its node
  abbrev pub tree_user : Option Spec → Node → Option (List ℕ)
  tree_user root main = if root_names root then Some [] else node_user main []

  abbrev pub spot_at : Option (List ℕ) → Option Spot
  spot_at None = None
  spot_at (Some path) = Some (spot.At (place_at path))

  -- the first user of the entry of this name
  unfoldable pub user_in : Parts → Option Spot
  user_in parts = option_or (entry_user parts.proofs 0 parts.library.entries) (spot_at (tree_user parts.root parts.main))

  -- whether the root speaks of the global of this name
  abbrev pub root_speaks : Option Spec → Bool
  root_speaks None = false
  root_speaks (Some w) = is_listed w.frame x || (formula_mentions x w.pre || formula_mentions x w.post)
