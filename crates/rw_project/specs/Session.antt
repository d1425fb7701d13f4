-- What the project answers to lines.
use Rattle.std.specs.Prelude.{ℕ, ◌==◌, ◌||◌, ◌+◌, Bool, true, false, if◌then◌else◌, nat_le, nat_lt, List, [], ◌∷◌, ◌++◌, length, map, Option, Some, None}
use Rattle.std.specs.List.{list_all}
use Rattle.rw_nodes.specs.declared.edit.Edit.{Edit}
use Rattle.rw_nodes.specs.declared.edit.Place.{Place}
use Rattle.rw_anew.specs.declared.status.Need.{Need}
use Rattle.rw_anew.specs.declared.status.NodeMark.{NodeMark}
use Rattle.rw_refusals.specs.declared.refusal.EditRefusal.{EditRefusal}
use Rattle.rw_refusals.specs.declared.refusal.EditRefusal.TheVariants as refusal
use Rattle.rw_refusals.specs.declared.refusal.Which.TheVariants as which
use Rattle.std.specs.Option.{option_or}
use Rattle.rw_tree.specs.Accepting.{refusal_of}
use Rattle.rw_anew.specs.declared.status.LemmaMark.{LemmaMark}
use Rattle.rw_anew.specs.Anew.{anew}
use Rattle.rw_anew.specs.Uses.{used_lemmas}
use Rattle.rw_forms.specs.declared.request.Request.{Request}
use Rattle.rw_forms.specs.declared.request.Request.TheVariants as request
use Rattle.rw_reader.specs.Reading.{Reading, reads, fault, reading}
use Rattle.rw_finder.specs.Finding.{found_of}
use Rattle.rw_found_texts.specs.Texts.{found_lines, found_text}
use Rattle.rw_project.specs.Texts.{accepted_text, refusal_text, syntax_text, lemma_text, closing_text}
use Rattle.rw_project.specs.Goals.{mark_text, node_text, goal_texts, mark_of, need_of, lemma_told_text, lemma_of}

-- the live edits, the newest first, and how many bytes the lines of all accepted edits had
abbrev pub History : Type 0
History = List Edit × ℕ

-- before any request
abbrev pub no_history : History
no_history = ([], 0)

-- a project takes one edit more where it has fewer than 65,536, and their lines have at most 16,777,216 bytes with it
unfoldable pub past_limits : ℕ → ℕ → Option EditRefusal
past_limits edits bytes =
    if nat_le 65536 edits then Some (refusal.Limit which.Edits 65536)
    else if nat_lt 16777216 bytes then Some (refusal.Limit which.Bytes 16777216)
    else None

-- what a project may weigh
abbrev pub most_weight : ℕ
most_weight = 2000000

-- the first test that refuses an edit whose line has so many bytes
abbrev pub refusal_after : History → ℕ → Edit → Option EditRefusal
refusal_after history bytes edit = option_or (past_limits (length history.0) (history.1 + bytes)) (refusal_of most_weight history.0 edit)

-- space, tab and CR
abbrev pub is_space : ℕ → Bool
is_space c = (c == 32) || ((c == 9) || (c == 13))

-- only spaces
abbrev pub is_blank : List ℕ → Bool
is_blank line = list_all is_space line

abbrev pub is_comment : List ℕ → Bool
is_comment [] = false
is_comment (c ∷ cs) = c == 35

-- a line that gets no reply
abbrev pub is_silent : List ℕ → Bool
is_silent line = is_blank line || is_comment line

-- a reply: the history after it, its body lines, its last line, and whether it is a refusal
pub record Reply : Type 0 where
  pub after : History
  pub lines : List (List ℕ)
  pub end : List ℕ
  pub refused : Bool

-- an edit is accepted and gets the next number, or it is refused and changes nothing
abbrev pub edited : History → ℕ → Edit → Option EditRefusal → Reply
edited history bytes edit None = record {
  after = (edit ∷ history.0, history.1 + bytes);
  lines = [];
  end = accepted_text (length history.0 + 1);
  refused = false;
}
edited history bytes edit (Some refusal) = record { after = history; lines = []; end = refusal_text refusal; refused = true }

-- what is told, where nothing is changed
abbrev pub told : History → List (List ℕ) → List ℕ → Reply
told history lines end = record { after = history; lines = lines; end = end; refused = false }

-- what is told of the node at a place, if one is there
abbrev pub told_of : History → Place → (NodeMark → List (List ℕ)) → Option NodeMark → Reply
told_of history place lines None = record { after = history; lines = []; end = refusal_text (refusal.NoNode place); refused = true }
told_of history place lines (Some mark) = told history (lines mark) (node_text mark)

-- what is told of the lemma of a name, if there is one
abbrev pub told_lemma : History → List ℕ → Option LemmaMark → Reply
told_lemma history x None = record { after = history; lines = []; end = refusal_text (refusal.Unknown x); refused = true }
told_lemma history x (Some mark) = told history [] (lemma_told_text mark)

-- what is found for an obligation of this number, if there is one
abbrev pub told_need : History → ℕ → Option Need → Reply
told_need history k None = record { after = history; lines = []; end = refusal_text (refusal.NoObligation k); refused = true }
told_need history k (Some need) = told history (found_lines (found_of need.sequent)) (found_text (found_of need.sequent))

-- what is found for an obligation of the node at a place, if one is there
abbrev pub told_found : History → Place → ℕ → Option NodeMark → Reply
told_found history place k None = record { after = history; lines = []; end = refusal_text (refusal.NoNode place); refused = true }
told_found history place k (Some mark) = told_need history k (need_of k mark.needs)

-- closed, or the first that is not good, as checking the live edits anew tells
abbrev pub closing_of : List Edit → List ℕ
closing_of l = closing_text (anew l).nodes (used_lemmas l)

-- each node and each lemma with its status
abbrev pub all_texts : List Edit → List (List ℕ)
all_texts l = map mark_text (anew l).nodes ++ map lemma_text (anew l).lemmas

abbrev pub no_lines : NodeMark → List (List ℕ)
no_lines mark = []

-- the statuses are those of checking the live edits anew
abbrev pub reply_to : History → ℕ → Request → Reply
reply_to history bytes (request.Edit edit) = edited history bytes edit (refusal_after history bytes edit)
reply_to history bytes request.Status = told history [] (closing_of history.0)
reply_to history bytes (request.StatusAt place) = told_of history place no_lines (mark_of place (anew history.0).nodes)
reply_to history bytes (request.StatusLemma x) = told_lemma history x (lemma_of x (anew history.0).lemmas)
reply_to history bytes request.StatusAll = told history (all_texts history.0) (closing_of history.0)
reply_to history bytes (request.Goal place) = told_of history place goal_texts (mark_of place (anew history.0).nodes)
reply_to history bytes (request.Find place k) = told_found history place k (mark_of place (anew history.0).nodes)

abbrev pub reply_by : History → ℕ → Reading → Reply
reply_by history bytes (reads r) = reply_to history bytes r
reply_by history bytes (fault offset) = record { after = history; lines = []; end = syntax_text offset; refused = true }

-- the reply to a line that is no comment and not blank
unfoldable pub reply : History → List ℕ → Reply
reply history line = reply_by history (length line) (reading line)

-- body lines, each behind `| ` and ended by LF
abbrev pub bodies : List (List ℕ) → List ℕ
bodies [] = []
bodies (line ∷ lines) = (124 ∷ 32 ∷ line ++ 10 ∷ []) ++ bodies lines

-- what is written for a reply: its body lines, and its last line ended by LF
abbrev pub text_of : List (List ℕ) → List ℕ → List ℕ
text_of lines end = bodies lines ++ end ++ 10 ∷ []

-- the history after a line
abbrev pub after : History → List ℕ → History
after history line = if is_silent line then history else (reply history line).after

-- what is written for a line
abbrev pub written : History → List ℕ → List ℕ
written history line = if is_silent line then [] else text_of (reply history line).lines (reply history line).end

-- whether a line is refused
abbrev pub refuses : History → List ℕ → Bool
refuses history line = if is_silent line then false else (reply history line).refused

-- what is written for lines, after a history
unfoldable pub session_from : History → List (List ℕ) → List ℕ
session_from history [] = []
session_from history (line ∷ lines) = written history line ++ session_from (after history line) lines

-- whether one of them is refused
unfoldable pub refuses_from : History → List (List ℕ) → Bool
refuses_from history [] = false
refuses_from history (line ∷ lines) = refuses history line || refuses_from (after history line) lines

-- the history after lines
unfoldable pub history_from : History → List (List ℕ) → History
history_from history [] = history
history_from history (line ∷ lines) = history_from (after history line) lines

abbrev pub session : List (List ℕ) → List ℕ
session lines = session_from no_history lines

abbrev pub has_refusal : List (List ℕ) → Bool
has_refusal lines = refuses_from no_history lines

abbrev pub history_of : List (List ℕ) → History
history_of lines = history_from no_history lines
