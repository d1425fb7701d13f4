-- What checking anew costs: the lines of certificates that are checked.
use Rattle.std.specs.Prelude.{ℕ, ◌+◌, List, [], ◌∷◌, map, length, Option, Some, None}
use Rattle.rw_terms.specs.declared.sequent.Sequent.{Sequent}
use Rattle.rw_programs.specs.declared.applied.Child.{Child}
use Rattle.rw_sequents.specs.declared.line.Cert.{Cert}
use Rattle.rw_goals.specs.declared.library.Item.{Item}
use Rattle.rw_goals.specs.declared.library.Item.TheVariants as item
use Rattle.rw_goals.specs.declared.library.Library.{Library}
use Rattle.rw_citations.specs.Goal.{goal_of}
use Rattle.rw_sequents.specs.After.{checked}
use Rattle.rw_nodes.specs.declared.edit.Edit.{Edit}
use Rattle.rw_nodes.specs.declared.node.Node.{Node}
use Rattle.rw_nodes.specs.Nodes.{certified, total}
use Rattle.rw_nodes.specs.Table.{proofs_of, proof_at}
use Rattle.rw_nodes.specs.Edits.{globals_of, root_of}
use Rattle.rw_nodes.specs.Parts.{tree_of}
use Rattle.rw_sites.specs.Derived.{Site, derived, sites, root_given}
use Rattle.rw_anew.specs.Anew.{heads_in, library_of}

-- how many lines of a certificate, if there is one, are checked for what is to be shown
abbrev pub cert_cost : Library → ℕ → Sequent → Option Cert → ℕ
cert_cost library before q None = 0
cert_cost library before q (Some cert) = checked library before q cert

module _ (library : Library) where
  -- the same of the obligations from number k on
  abbrev pub needs_cost : ℕ → List Sequent → (ℕ → Option Cert) → ℕ
  needs_cost k [] certs = 0
  needs_cost k (q ∷ qs) certs = cert_cost library (length library.entries) q (certs k) + needs_cost (k + 1) qs certs

  abbrev pub site_cost : Site → ℕ
  site_cost x = needs_cost 1 (derived (heads_in library) x.given x.step).obligations (certified x.certs)

  -- of a node and all below
  abbrev pub sites_cost : List Site → ℕ
  sites_cost xs = total (map site_cost xs)

  -- of a tree whose root is given this
  abbrev pub tree_cost : Node → Option Child → ℕ
  tree_cost n given = sites_cost (sites (heads_in library) n given [])

  -- of the lemmas among the entries from a place on
  abbrev pub lemma_cost : List (Option Cert) → ℕ → Item → ℕ
  lemma_cost proofs k (item.Definition d) = 0
  lemma_cost proofs k (item.Lemma l) = cert_cost library k (goal_of l) (proof_at proofs k)

  abbrev pub lemmas_cost : List (Option Cert) → ℕ → List Item → ℕ
  lemmas_cost proofs k [] = 0
  lemmas_cost proofs k (e ∷ es) = lemma_cost proofs k e + lemmas_cost proofs (k + 1) es

-- of a project, by its parts
abbrev pub cost_by : Library → List (Option Cert) → Node → Option Child → ℕ
cost_by library proofs main given = tree_cost library main given + lemmas_cost library proofs 0 library.entries

-- how many lines are checked where the project of a list of edits is checked anew
unfoldable pub lines_checked : List Edit → ℕ
lines_checked l = cost_by (library_of l) (proofs_of l) (tree_of l) (root_given (globals_of l) (root_of l))
