-- What a derivation uses, and when it is closed.
use Rattle.std.specs.Prelude.{◌≡◌, ℕ, zero, suc, Bool, false, ◌&&◌, ◌||◌, length, List, [], ◌∷◌, map, filter, Option, Some, None}
use Rattle.std.specs.List.{list_any}
use Rattle.rw_terms.specs.Mentions.{any_of}
use Rattle.rw_terms.specs.Validity.{Each}
use Rattle.rw_sequents.specs.declared.line.Cert.{Cert}
use Rattle.rw_goals.specs.declared.library.Item.{Item}
use Rattle.rw_library.specs.Entries.{entry_name}
use Rattle.rw_library.specs.Naming.{cites}
use Rattle.rw_nodes.specs.declared.edit.Edit.{Edit}
use Rattle.rw_nodes.specs.declared.node.Node.{Node, Node-F, fold-Node}
use Rattle.rw_nodes.specs.Table.{entries_of, proofs_of}
use Rattle.rw_nodes.specs.Parts.{tree_of}
use Rattle.rw_anew.specs.declared.status.NeedState.TheVariants as need
use Rattle.rw_anew.specs.declared.status.Status.TheVariants as status
use Rattle.rw_anew.specs.declared.status.LemmaMark.{LemmaMark}
use Rattle.rw_anew.specs.Anew.{anew}

module _ (x : List ℕ) where
  -- whether a certificate, if there is one, cites the lemma of this name
  abbrev pub proof_cites : Option Cert → Bool
  proof_cites None = false
  proof_cites (Some c) = cites x c

  abbrev pub node_cites_step : Node-F Bool → Bool
  node_cites_step y = list_any proof_cites y.certs || any_of y.kids

  -- whether a certificate of the node, or of one below, cites it
  abbrev pub node_cites : Node → Bool
  node_cites = fold-Node Bool node_cites_step

  -- whether the certificate of a marked entry cites it
  abbrev pub marked_cites : List Bool → List (Option Cert) → Bool
  marked_cites [] proofs = false
  marked_cites (b ∷ marks) [] = false
  marked_cites (b ∷ marks) (p ∷ proofs) = (b && proof_cites p) || marked_cites marks proofs

-- whether the main tree or a marked entry cites the lemma of this name
abbrev pub is_cited : Node → List (Option Cert) → List Bool → List ℕ → Bool
is_cited main proofs marks x = node_cites x main || marked_cites x marks proofs

module _ (main : Node) (entries : List Item) (proofs : List (Option Cert)) where
  -- No entry is marked first. So many times, each is marked that is cited so far.
  abbrev pub marks_after : ℕ → List Bool
  marks_after zero = map (λ e. false) entries
  marks_after (suc k) = map (λ e. is_cited main proofs (marks_after k) (entry_name e)) entries

  -- the main tree uses the lemma of this name: it is cited through at most as many lemmas as the table has entries
  unfoldable pub is_used : List ℕ → Bool
  is_used x = is_cited main proofs (marks_after (length entries)) x

-- the lemmas that the main tree uses, with their states
abbrev pub used_lemmas : List Edit → List LemmaMark
used_lemmas l = filter (λ m. is_used (tree_of l) (entries_of l) (proofs_of l) m.name) (anew l).lemmas

-- the derivation is closed: each node is good, and so is each lemma that it uses
pub record IsClosed (l : List Edit) : Type 0 where
  pub nodes : Each (λ mark. mark.status ≡ status.Good) (anew l).nodes
  pub lemmas : Each (λ mark. mark.state ≡ need.Good) (used_lemmas l)
