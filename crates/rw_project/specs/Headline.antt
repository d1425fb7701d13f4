-- What it means that a project is shown closed.
use Rattle.std.specs.Prelude.{◌≡◌, ◌⊎◌, ℕ, List, ◌∷◌, ◌++◌, ◌↔◌}
use Rattle.rw_nodes.specs.declared.edit.Place.{Place}
use Rattle.rw_anew.specs.Anew.{anew}
use Rattle.rw_anew.specs.Uses.{IsClosed}
use Rattle.rw_collect.specs.Closed.{CodeRefinesRoot}
use Rattle.rw_forms.specs.declared.request.Request.TheVariants as request
use Rattle.rw_reader.specs.Reading.{reads, reading}
use Rattle.rw_project.specs.Texts.{closed_text}
use Rattle.rw_project.specs.Goals.{goal_texts, mark_of, lemma_of}
use Rattle.rw_project.specs.Session.{History, history_of, reply, told, told_of, told_lemma, told_found, closing_of, all_texts, no_lines}

-- a line asks for the status of the project: alone, or behind that of each node and each lemma
abbrev pub AsksStatus : List ℕ → Type 0
AsksStatus line = (reading line ≡ reads request.Status) ⊎ (reading line ≡ reads request.StatusAll)

-- the last line of the reply shows the project closed
abbrev pub ShowsClosed : History → List ℕ → Type 0
ShowsClosed history line = (reply history line).end ≡ closed_text

-- What is shown for a line after a history: each status, specification and obligation is that of checking the live edits anew, and what is found is found for such an obligation. The
-- project is shown closed to lines alone that ask for its status, and to these exactly where it is; then the collected program refines the root.
pub record StatusIsAnew (history : History) (line : List ℕ) : Type 0 where
  pub status : AsksStatus line → (reply history line).end ≡ closing_of history.0
  pub alone : ShowsClosed history line → AsksStatus line
  pub exactly : AsksStatus line → ShowsClosed history line ↔ IsClosed history.0
  pub at_place : (place : Place) → reading line ≡ reads (request.StatusAt place) → reply history line ≡ told_of history place no_lines (mark_of place (anew history.0).nodes)
  pub lemma : (x : List ℕ) → reading line ≡ reads (request.StatusLemma x) → reply history line ≡ told_lemma history x (lemma_of x (anew history.0).lemmas)
  pub each : reading line ≡ reads request.StatusAll → reply history line ≡ told history (all_texts history.0) (closing_of history.0)
  pub goal : (place : Place) → reading line ≡ reads (request.Goal place) → reply history line ≡ told_of history place goal_texts (mark_of place (anew history.0).nodes)
  pub found : (place : Place) (k : ℕ) → reading line ≡ reads (request.Find place k) → reply history line ≡ told_found history place k (mark_of place (anew history.0).nodes)
  pub refined : ShowsClosed history line → CodeRefinesRoot history.0

-- the headline of a session: of each of its lines
abbrev pub Headline : List (List ℕ) → Type 0
Headline lines =
    (before : List (List ℕ)) (line : List ℕ) (behind : List (List ℕ)) → lines ≡ before ++ line ∷ behind → StatusIsAnew (history_of before) line
