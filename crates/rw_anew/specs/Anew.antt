-- Checking anew: the status of each node, from the live edits alone.
use Rattle.std.specs.Prelude.{ℕ, ◌+◌, List, [], ◌∷◌, ◌++◌, length, map, option_map, Option, Some, None}
use Rattle.rw_terms.specs.declared.sequent.Sequent.{Sequent}
use Rattle.rw_terms.specs.declared.scope.Head.{Head}
use Rattle.rw_programs.specs.declared.prog.Spec.{Spec}
use Rattle.rw_programs.specs.declared.applied.Child.{Child}
use Rattle.rw_sequents.specs.declared.line.Cert.{Cert}
use Rattle.rw_sequents.specs.declared.line.Verdict.{Verdict}
use Rattle.rw_sequents.specs.declared.line.Verdict.TheVariants as verdicts
use Rattle.rw_goals.specs.declared.library.Item.{Item}
use Rattle.rw_goals.specs.declared.library.Item.TheVariants as item
use Rattle.rw_goals.specs.declared.library.Library.{Library}
use Rattle.rw_citations.specs.Goal.{goal_of}
use Rattle.rw_library.specs.Entries.{heads_of}
use Rattle.rw_sequents.specs.After.{verdict}
use Rattle.rw_nodes.specs.declared.edit.Edit.{Edit}
use Rattle.rw_nodes.specs.declared.edit.TreeName.TheVariants as tree
use Rattle.rw_nodes.specs.declared.node.Node.{Node}
use Rattle.rw_nodes.specs.Nodes.{certified}
use Rattle.rw_nodes.specs.Table.{entries_of, proofs_of, proof_at}
use Rattle.rw_nodes.specs.Edits.{globals_of, root_of, place_at}
use Rattle.rw_nodes.specs.Parts.{tree_of}
use Rattle.rw_sites.specs.declared.derived.Outcome.{Outcome}
use Rattle.rw_sites.specs.declared.derived.Outcome.TheVariants as outcome
use Rattle.rw_anew.specs.declared.status.NeedState.{NeedState}
use Rattle.rw_anew.specs.declared.status.NeedState.TheVariants as need
use Rattle.rw_anew.specs.declared.status.Need.{Need}
use Rattle.rw_anew.specs.declared.status.Status.{Status}
use Rattle.rw_anew.specs.declared.status.Status.TheVariants as status
use Rattle.rw_anew.specs.declared.status.NodeMark.{NodeMark}
use Rattle.rw_anew.specs.declared.status.LemmaMark.{LemmaMark}
use Rattle.rw_anew.specs.declared.status.Statuses.{Statuses}
use Rattle.rw_sites.specs.Derived.{Site, derived, sites, root_given}

-- what a verdict says of an obligation
abbrev pub state_by : Verdict → NeedState
state_by verdicts.Good = need.Good
state_by (verdicts.Bad line sub cause) = need.Bad line sub cause

-- the state of what is to be shown by a library, of which the lemmas below a table place may be cited: good by its certificate, bad by it,
-- or without one
abbrev pub state_of : Library → ℕ → Sequent → Option Cert → NeedState
state_of library before q None = need.Missing
state_of library before q (Some cert) = state_by (verdict library before q cert)

-- the obligations from number k on with their states, by the certificate of each number; each lemma may be cited
abbrev pub needs_from : Library → ℕ → List Sequent → (ℕ → Option Cert) → List Need
needs_from library k [] certs = []
needs_from library k (q ∷ qs) certs =
    record { sequent = q; state = state_of library (length library.entries) q (certs k) } ∷ needs_from library (k + 1) qs certs

-- the first obligation that is not good, or what comes behind it
abbrev pub held_up : ℕ → NeedState → Status → Status
held_up k need.Good later = later
held_up k need.Missing later = status.Pending k need.Missing
held_up k (need.Bad line sub cause) later = status.Pending k (need.Bad line sub cause)

-- the status that the obligations from number k on give
abbrev pub pending_from : ℕ → List Need → Status
pending_from k [] = status.Good
pending_from k (n ∷ needs) = held_up k n.state (pending_from (k + 1) needs)

-- the status of a node, by what was derived for it and by its obligations
abbrev pub status_of : Outcome → List Need → Status
status_of outcome.NoSpec needs = status.NoSpec
status_of outcome.Open needs = status.Open
status_of (outcome.Misfit m) needs = status.Misfit m
status_of outcome.Fits needs = pending_from 1 needs

abbrev pub child_spec : Child → Spec
child_spec c = c.spec

-- what the laws read of a library: the heads of its predicates
abbrev pub heads_in : Library → List Head
heads_in library = heads_of library.entries

module _ (library : Library) where
  abbrev pub site_needs : Site → List Need
  site_needs x = needs_from library 1 (derived (heads_in library) x.given x.step).obligations (certified x.certs)

  -- a node's place, its specification, its obligations with their states, and its status
  abbrev pub mark_of : Site → NodeMark
  mark_of x = record {
    place = place_at x.path;
    status = status_of (derived (heads_in library) x.given x.step).outcome (site_needs x);
    spec = option_map child_spec x.given;
    needs = site_needs x;
  }

  -- what checking tells of a tree whose root is given this
  abbrev pub tree_marks : Node → Option Child → List NodeMark
  tree_marks n given = map mark_of (sites (heads_in library) n given [])

  module _ (proofs : List (Option Cert)) where
    -- a lemma at a place with its state: only the lemmas before it may be cited
    abbrev pub lemma_mark : ℕ → Item → List LemmaMark
    lemma_mark k (item.Definition d) = []
    lemma_mark k (item.Lemma l) = record { name = l.name; state = state_of library k (goal_of l) (proof_at proofs k) } ∷ []

    -- the lemmas among the entries from a place on, with their states
    abbrev pub lemma_marks : ℕ → List Item → List LemmaMark
    lemma_marks k [] = []
    lemma_marks k (e ∷ es) = lemma_mark k e ++ lemma_marks (k + 1) es

-- what checking tells of a project: by its library and certificates, its tree, and what the root is given
abbrev pub marks_by : Library → List (Option Cert) → Node → Option Child → Statuses
marks_by library proofs main given = record { nodes = tree_marks library main given; lemmas = lemma_marks library proofs 0 library.entries }

-- the library that a list of edits makes
abbrev pub library_of : List Edit → Library
library_of l = record { entries = entries_of l }

-- what checking anew tells: each node of the tree that the live edits make, by the laws from the root downwards, and each lemma
unfoldable pub anew : List Edit → Statuses
anew l = marks_by (library_of l) (proofs_of l) (tree_of l) (root_given (globals_of l) (root_of l))
