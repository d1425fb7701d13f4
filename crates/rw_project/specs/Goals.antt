-- What is told of one node, and of all.
use Rattle.std.specs.Prelude.{ℕ, zero, suc, ◌+◌, Bool, if◌then◌else◌, List, [], ◌∷◌, ◌++◌, Option, Some, None, codes, decimal, bytes_eq, slice_get}
use Rattle.rw_programs.specs.declared.prog.Spec.{Spec}
use Rattle.rw_nodes.specs.declared.edit.Place.{Place}
use Rattle.rw_anew.specs.declared.status.Need.{Need}
use Rattle.rw_anew.specs.declared.status.NodeMark.{NodeMark}
use Rattle.rw_printer.specs.Layout.{spec_text, sequent_text}
use Rattle.rw_anew.specs.declared.status.LemmaMark.{LemmaMark}
use Rattle.rw_project.specs.Texts.{place_text, state_text, status_text, lemma_text}

-- a node's place and status
abbrev pub mark_text : NodeMark → List ℕ
mark_text m = place_text m.place ++ codes " " ++ status_text m.status

abbrev pub node_text : NodeMark → List ℕ
node_text m = codes "ok " ++ mark_text m

-- an obligation with its number and its state
abbrev pub need_text : ℕ → Need → List ℕ
need_text k n = codes "need " ++ decimal k ++ codes " " ++ state_text n.state ++ codes " : " ++ sequent_text n.sequent

-- the obligations from number k on
abbrev pub needs_texts : ℕ → List Need → List (List ℕ)
needs_texts k [] = []
needs_texts k (n ∷ needs) = need_text k n ∷ needs_texts (k + 1) needs

abbrev pub spec_texts : Option Spec → List (List ℕ)
spec_texts None = []
spec_texts (Some w) = (codes "spec " ++ spec_text w) ∷ []

-- what is told of a lemma that is asked for
abbrev pub lemma_told_text : LemmaMark → List ℕ
lemma_told_text m = codes "ok " ++ lemma_text m

-- what checking tells of the lemma of a name, if there is one
abbrev pub lemma_of : List ℕ → List LemmaMark → Option LemmaMark
lemma_of x [] = None
lemma_of x (m ∷ marks) = if bytes_eq m.name x then Some m else lemma_of x marks

-- a node's specification, where it has one, and its obligations
abbrev pub goal_texts : NodeMark → List (List ℕ)
goal_texts m = spec_texts m.spec ++ needs_texts 1 m.needs

-- the obligation of a number, if there is one
abbrev pub need_of : ℕ → List Need → Option Need
need_of zero needs = None
need_of (suc n) needs = slice_get needs n

-- whether a node is at a place; each place is one of the main tree, so its kid numbers tell
abbrev pub is_at : Place → NodeMark → Bool
is_at p m = bytes_eq m.place.path.kids p.path.kids

-- what checking tells of the node at a place, if one is there
abbrev pub mark_of : Place → List NodeMark → Option NodeMark
mark_of p [] = None
mark_of p (m ∷ marks) = if is_at p m then Some m else mark_of p marks
