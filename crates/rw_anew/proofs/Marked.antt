-- Checking the parts tells what checking the list of edits anew tells.
use Rattle.std.proofs.Common.{◌≡◌, ◌∙◌, ℕ, List, ap, Option}
use Rattle.std.specs.Option.{option_map}
use Rattle.rw_programs.specs.declared.prog.Spec.{Spec}
use Rattle.rw_programs.specs.declared.applied.Child.{Child}
use Rattle.rw_sequents.specs.declared.line.Cert.{Cert}
use Rattle.rw_nodes.specs.declared.edit.Place.{Place}
use Rattle.rw_nodes.specs.declared.edit.Step.{Step}
use Rattle.rw_nodes.specs.declared.edit.Edit.{Edit}
use Rattle.rw_nodes.specs.declared.parts.Parts.{Parts}
use Rattle.rw_nodes.specs.Parts.{Makes}
use Rattle.rw_tree.specs.Accepting.{IsGood}
use Rattle.rw_sites.specs.declared.derived.Derived.{Derived}
use Rattle.rw_anew.specs.declared.status.Need.{Need}
use Rattle.rw_anew.specs.declared.status.Status.{Status}
use Rattle.rw_anew.specs.declared.status.NodeMark.{NodeMark}
use Rattle.rw_sites.specs.Derived.{derived, root_given}
use Rattle.rw_goals.specs.declared.library.Library.{Library}
use Rattle.rw_nodes.specs.Edits.{place_at}
use Rattle.rw_anew.specs.Anew.{child_spec, needs_from, status_of, heads_in, mark_of, marks_by, anew}
use Rattle.rw_anew.specs.Cost.{cost_by, lines_checked}
use Rattle.rw_nodes.specs.Nodes.{certified}
use Rattle.rw_tree.proofs.Same.{parts_same}

pub anew_same : (most : ℕ) (l : List Edit) (parts : Parts) → IsGood most l → Makes most l parts → marks_by parts.library parts.proofs parts.main (root_given parts.globals parts.root) ≡ anew l
unfolding anew
anew_same most l parts good m = ap (λ (ps : Parts). marks_by ps.library ps.proofs ps.main (root_given ps.globals ps.root)) (parts_same most l parts good m)

-- and checking them costs as much
pub cost_same : (most : ℕ) (l : List Edit) (parts : Parts) → IsGood most l → Makes most l parts → cost_by parts.library parts.proofs parts.main (root_given parts.globals parts.root) ≡ lines_checked l
unfolding lines_checked
cost_same most l parts good m = ap (λ (ps : Parts). cost_by ps.library ps.proofs ps.main (root_given ps.globals ps.root)) (parts_same most l parts good m)

abbrev mark_with : Place → Status → Option Spec → List Need → NodeMark
mark_with place status spec needs = record { place = place; status = status; spec = spec; needs = needs }

-- the mark of a node, from its parts
pub mark_told : (library : Library) (path : List ℕ) (given : Option Child) (step : Option Step) (certs : List (Option Cert)) (d : Derived) (place : Place) (status : Status) (spec : Option Spec) (needs : List Need) →
    d ≡ derived (heads_in library) given step → place ≡ place_at path → needs ≡ needs_from library 1 d.obligations (certified certs) → status ≡ status_of d.outcome needs → spec ≡ option_map child_spec given →
    mark_with place status spec needs ≡ mark_of library (record { path = path; given = given; step = step; certs = certs })
mark_told library path given step certs d place status spec needs ed ep en es ew =
    let needs_are : needs ≡ needs_from library 1 (derived (heads_in library) given step).obligations (certified certs) = en ∙ ap (λ (x : Derived). needs_from library 1 x.obligations (certified certs)) ed in
    let status_is : status ≡ status_of (derived (heads_in library) given step).outcome (needs_from library 1 (derived (heads_in library) given step).obligations (certified certs)) =
    es ∙ ap (λ (x : Derived). status_of x.outcome needs) ed ∙ ap (status_of (derived (heads_in library) given step).outcome) needs_are in
    λ i. record { place = ep i; status = status_is i; spec = ew i; needs = needs_are i }
