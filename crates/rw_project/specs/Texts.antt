-- The texts of replies.
use Rattle.std.specs.Prelude.{ℕ, Bool, true, false, if◌then◌else◌, nat_eq, List, [], ◌∷◌, ◌++◌, codes, decimal}
use Rattle.rw_programs.specs.declared.applied.Misfit.{Misfit}
use Rattle.rw_programs.specs.declared.applied.Misfit.TheVariants as misfit
use Rattle.rw_nodes.specs.declared.edit.TreeName.{TreeName}
use Rattle.rw_nodes.specs.declared.edit.TreeName.TheVariants as tree
use Rattle.rw_nodes.specs.declared.edit.Place.{Place}
use Rattle.rw_refusals.specs.declared.refusal.Which.{Which}
use Rattle.rw_refusals.specs.declared.refusal.Which.TheVariants as which
use Rattle.rw_refusals.specs.declared.refusal.Spot.{Spot}
use Rattle.rw_refusals.specs.declared.refusal.Spot.TheVariants as spot
use Rattle.rw_refusals.specs.declared.refusal.EditRefusal.{EditRefusal}
use Rattle.rw_refusals.specs.declared.refusal.EditRefusal.TheVariants as refusal
use Rattle.rw_anew.specs.declared.status.NeedState.{NeedState}
use Rattle.rw_anew.specs.declared.status.NeedState.TheVariants as need
use Rattle.rw_anew.specs.declared.status.Status.{Status}
use Rattle.rw_anew.specs.declared.status.Status.TheVariants as status
use Rattle.rw_anew.specs.declared.status.NodeMark.{NodeMark}
use Rattle.rw_anew.specs.declared.status.LemmaMark.{LemmaMark}

-- kid numbers, each behind `/`
abbrev pub kids_text : List ℕ → List ℕ
kids_text [] = []
kids_text (k ∷ ks) = codes "/" ++ decimal k ++ kids_text ks

abbrev pub tree_text : TreeName → List ℕ
tree_text tree.Main = codes "main"

abbrev pub place_text : Place → List ℕ
place_text place = tree_text place.tree ++ kids_text place.path.kids

-- a line of a certificate, and an arithmetic line in it behind `.`, if there is one
abbrev pub point_text : ℕ → ℕ → List ℕ
point_text line sub = decimal line ++ (if nat_eq sub 0 then [] else codes "." ++ decimal sub)

abbrev pub state_text : NeedState → List ℕ
state_text need.Good = codes "good"
state_text need.Missing = codes "none"
state_text (need.Bad line sub cause) = codes "bad " ++ point_text line sub ++ codes " " ++ decimal cause

-- the misfits are numbered from 1
abbrev pub misfit_number : Misfit → ℕ
misfit_number misfit.Shape = 1
misfit_number misfit.InitialNotAllowed = 2
misfit_number misfit.NotFresh = 3
misfit_number misfit.NotCode = 4
misfit_number misfit.NotInFrame = 5
misfit_number misfit.Sort = 6
misfit_number misfit.Unknown = 7
misfit_number misfit.TooLarge = 8
misfit_number misfit.Order = 9
misfit_number misfit.Alias = 10

abbrev pub status_text : Status → List ℕ
status_text status.NoSpec = codes "nospec"
status_text status.Open = codes "open"
status_text (status.Misfit m) = codes "misfit " ++ decimal (misfit_number m)
status_text (status.Pending k state) = codes "pending " ++ decimal k ++ codes " " ++ state_text state
status_text status.Good = codes "good"

abbrev pub which_text : Which → List ℕ
which_text which.Weight = codes "weight"
which_text which.Depth = codes "depth"
which_text which.Globals = codes "globals"
which_text which.Params = codes "params"
which_text which.Table = codes "table"
which_text which.Operations = codes "operations"
which_text which.Guards = codes "guards"
which_text which.Nodes = codes "nodes"
which_text which.Path = codes "path"
which_text which.Lines = codes "lines"
which_text which.Edits = codes "edits"
which_text which.Bytes = codes "bytes"
which_text which.Authors = codes "authors"
which_text which.Steps = codes "steps"

-- what uses a name: an entry is told as its name, and else the place
abbrev pub spot_text : Spot → List ℕ
spot_text (spot.Define x) = x
spot_text (spot.Lemma x) = x
spot_text (spot.At place) = place_text place

-- Want of memory is no refusal, and has no text.
abbrev pub refusal_text : EditRefusal → List ℕ
refusal_text (refusal.Unknown x) = codes "E2 unknown " ++ x
refusal_text (refusal.Duplicate x) = codes "E3 duplicate " ++ x
refusal_text (refusal.Sort part) = codes "E4 sort " ++ decimal part
refusal_text (refusal.NoNode place) = codes "E5 no node " ++ place_text place
refusal_text (refusal.NoObligation k) = codes "E6 no obligation " ++ decimal k
refusal_text (refusal.Limit w n) = codes "E7 limit " ++ which_text w ++ codes " " ++ decimal n
refusal_text (refusal.Full w) = codes "E8 full weight " ++ decimal w
refusal_text (refusal.Order x) = codes "E9 order " ++ x
refusal_text (refusal.InUse x s) = codes "E10 in use " ++ x ++ codes " " ++ spot_text s
refusal_text refusal.Memory = []

abbrev pub accepted_text : ℕ → List ℕ
accepted_text k = codes "ok " ++ decimal k

abbrev pub syntax_text : ℕ → List ℕ
syntax_text offset = codes "E1 syntax " ++ decimal offset

abbrev pub is_good : Status → Bool
is_good status.NoSpec = false
is_good status.Open = false
is_good (status.Misfit m) = false
is_good (status.Pending k state) = false
is_good status.Good = true

abbrev pub is_good_state : NeedState → Bool
is_good_state need.Good = true
is_good_state need.Missing = false
is_good_state (need.Bad line sub cause) = false

-- the status of a lemma
abbrev pub lemma_state_text : NeedState → List ℕ
lemma_state_text need.Good = codes "good"
lemma_state_text need.Missing = codes "pending " ++ state_text need.Missing
lemma_state_text (need.Bad line sub cause) = codes "pending " ++ state_text (need.Bad line sub cause)

-- a lemma's name and status
abbrev pub lemma_text : LemmaMark → List ℕ
lemma_text m = codes "lemma " ++ m.name ++ codes " " ++ lemma_state_text m.state

abbrev pub closed_text : List ℕ
closed_text = codes "ok closed"

abbrev pub not_closed_text : NodeMark → List ℕ
not_closed_text mark = codes "ok not closed " ++ place_text mark.place ++ codes " " ++ status_text mark.status

abbrev pub lemma_open_text : LemmaMark → List ℕ
lemma_open_text mark = codes "ok not closed " ++ lemma_text mark

-- closed where each lemma that is used is good, and else the first that is not
abbrev pub lemmas_text : List LemmaMark → List ℕ
lemmas_text [] = closed_text
lemmas_text (mark ∷ marks) = if is_good_state mark.state then lemmas_text marks else lemma_open_text mark

-- closed where each node is good and each lemma that is used, and else the first that is not
abbrev pub closing_text : List NodeMark → List LemmaMark → List ℕ
closing_text [] used = lemmas_text used
closing_text (mark ∷ marks) used = if is_good mark.status then closing_text marks used else not_closed_text mark
