-- Each status that is shown is that of checking anew, and a derivation is shown closed exactly where it is.
use Rattle.std.proofs.Common.{◌≡◌, ◌↔◌, inl, inr, ℕ, ◌+◌, Bool, true, false, if◌then◌else◌, length, List, [], ◌∷◌, ◌++◌, Option, Some, None, refl, sym, ap, ◌∙◌, get_or, arith}
use Rattle.std.specs.Prelude.{codes, decimal, nat_le, nat_lt, ◌<◌, ◌^◌, ◌%◌}
use Rattle.std.proofs.lemmas.Bool.{leb-false}
use Rattle.std.proofs.lemmas.Fmt.{decimal_by_steps}
use Rattle.rw_terms.specs.Validity.{Each}
use Rattle.rw_nodes.specs.declared.edit.Edit.{Edit}
use Rattle.rw_nodes.specs.declared.edit.TreeName.{TreeName}
use Rattle.rw_nodes.specs.declared.edit.TreeName.TheVariants as tree
use Rattle.rw_refusals.specs.declared.refusal.EditRefusal.{EditRefusal}
use Rattle.rw_refusals.specs.declared.refusal.EditRefusal.TheVariants as refusal
use Rattle.rw_refusals.specs.declared.refusal.Which.TheVariants as which
use Rattle.rw_anew.specs.declared.status.NodeMark.{NodeMark}
use Rattle.rw_anew.specs.declared.status.Status.{Status}
use Rattle.rw_anew.specs.declared.status.Status.TheVariants as status
use Rattle.rw_tree.specs.Accepting.{refusal_of, IsGood}
use Rattle.rw_anew.specs.Anew.{anew}
use Rattle.rw_anew.specs.declared.status.LemmaMark.{LemmaMark}
use Rattle.rw_anew.specs.declared.status.Need.{Need}
use Rattle.rw_anew.specs.declared.status.NeedState.{NeedState}
use Rattle.rw_anew.specs.declared.status.NeedState.TheVariants as need
use Rattle.rw_anew.specs.Uses.{used_lemmas, IsClosed}
use Rattle.rw_tree.proofs.Same.{first_told}
use Rattle.rw_collect.proofs.Closed.{closed_refined}
use Rattle.rw_nodes.specs.declared.edit.Place.{Place}
use Rattle.rw_forms.specs.declared.request.Request.{Request}
use Rattle.rw_forms.specs.declared.request.Request.TheVariants as request
use Rattle.rw_reader.specs.Reading.{Reading, reads, fault, reading}
use Rattle.rw_finder.specs.declared.find.Found.{Found}
use Rattle.rw_finder.specs.declared.find.Found.TheVariants as found
use Rattle.rw_finder.specs.Finding.{found_of}
use Rattle.rw_found_texts.specs.Texts.{found_text}
use Rattle.rw_project.specs.Texts.{tree_text, kids_text, status_text, refusal_text, is_good, is_good_state, closed_text, not_closed_text, lemma_open_text, lemmas_text, closing_text}
use Rattle.rw_project.specs.Goals.{goal_texts, mark_of, need_of, lemma_of}
use Rattle.rw_project.specs.Session.{History, most_weight, no_history, past_limits, refusal_after, edited, told_of, told_lemma, told_need, told_found, closing_of, no_lines, reply, reply_by, reply_to, is_silent, after, history_from, history_of}
use Rattle.rw_project.specs.Headline.{AsksStatus, StatusIsAnew, Headline}

-- what is told of the first node that is not good is no text of a closed derivation
fourth_differs : (rest : List ℕ) → (codes "ok not closed " ++ rest) ≡ codes "ok closed" → ⊥
fourth_differs rest e = let at : get_or (codes "ok not closed " ++ rest) 3 0 ≡ get_or (codes "ok closed") 3 0 = ap (λ l. get_or l 3 0) e in absurd (omega (arith, at))

not_closed_differs : (mark : NodeMark) → not_closed_text mark ≡ closed_text → ⊥
not_closed_differs mark e = fourth_differs _ e

good_told : (s : Status) → is_good s ≡ true → s ≡ status.Good
good_told status.NoSpec e = absurd (cc)
good_told status.Open e = absurd (cc)
good_told (status.Misfit m) e = absurd (cc)
good_told (status.Pending k state) e = absurd (cc)
good_told status.Good e = refl

first_good : (b : Bool) (mark : NodeMark) (later : List ℕ) → (if b then later else not_closed_text mark) ≡ closed_text → (b ≡ true) × (later ≡ closed_text)
first_good true mark later e = (refl, e)
first_good false mark later e = absurd (not_closed_differs mark e)

abbrev IsGoodMark : NodeMark → Type 0
IsGoodMark mark = mark.status ≡ status.Good

good_state_told : (s : NeedState) → is_good_state s ≡ true → s ≡ need.Good
good_state_told need.Good e = refl
good_state_told need.Missing e = absurd (cc)
good_state_told (need.Bad line sub cause) e = absurd (cc)

first_good_lemma : (b : Bool) (mark : LemmaMark) (later : List ℕ) → (if b then later else lemma_open_text mark) ≡ closed_text → (b ≡ true) × (later ≡ closed_text)
first_good_lemma true mark later e = (refl, e)
first_good_lemma false mark later e = absurd (fourth_differs _ e)

abbrev IsGoodLemma : LemmaMark → Type 0
IsGoodLemma mark = mark.state ≡ need.Good

lemmas_good : (used : List LemmaMark) → lemmas_text used ≡ closed_text → Each IsGoodLemma used
lemmas_good [] e = tt
lemmas_good (mark ∷ used) e = let first = first_good_lemma (is_good_state mark.state) mark (lemmas_text used) e in (good_state_told mark.state first.0, lemmas_good used first.1)

lemmas_closed : (used : List LemmaMark) → Each IsGoodLemma used → lemmas_text used ≡ closed_text
lemmas_closed [] h = refl
lemmas_closed (mark ∷ used) h = ap (λ s. if is_good_state s then lemmas_text used else lemma_open_text mark) h.0 ∙ lemmas_closed used h.1

all_good : (marks : List NodeMark) (used : List LemmaMark) → closing_text marks used ≡ closed_text → Each IsGoodMark marks × Each IsGoodLemma used
all_good [] used e = (tt, lemmas_good used e)
all_good (mark ∷ marks) used e =
    let first = first_good (is_good mark.status) mark (closing_text marks used) e in
    let rest = all_good marks used first.1 in ((good_told mark.status first.0, rest.0), rest.1)

told_closed : (marks : List NodeMark) (used : List LemmaMark) → Each IsGoodMark marks → Each IsGoodLemma used → closing_text marks used ≡ closed_text
told_closed [] used h lemmas = lemmas_closed used lemmas
told_closed (mark ∷ marks) used h lemmas = ap (λ s. if is_good s then closing_text marks used else not_closed_text mark) h.0 ∙ told_closed marks used h.1 lemmas

pub closed_exactly : (l : List Edit) → closing_of l ≡ closed_text ↔ IsClosed l
closed_exactly l = (
  λ e. let all = all_good (anew l).nodes (used_lemmas l) e in record { nodes = all.0; lemmas = all.1 },
  λ closed. told_closed (anew l).nodes (used_lemmas l) closed.nodes closed.lemmas,
)

-- an edit that is taken is accepted
good_edited : (history : History) (bytes : ℕ) (e : Edit) (o : Option EditRefusal) → refusal_after history bytes e ≡ o → IsGood most_weight history.0 → IsGood most_weight (edited history bytes e o).after.0
good_edited history bytes e None is good = (good, (first_told (past_limits (length history.0) (history.1 + bytes)) (refusal_of most_weight history.0 e) is).1)
good_edited history bytes e (Some r) is good = good

good_shown : (history : History) (place : Place) (lines : NodeMark → List (List ℕ)) (o : Option NodeMark) → IsGood most_weight history.0 → IsGood most_weight (told_of history place lines o).after.0
good_shown history place lines None good = good
good_shown history place lines (Some mark) good = good

good_lemma : (history : History) (x : List ℕ) (o : Option LemmaMark) → IsGood most_weight history.0 → IsGood most_weight (told_lemma history x o).after.0
good_lemma history x None good = good
good_lemma history x (Some mark) good = good

good_need : (history : History) (k : ℕ) (o : Option Need) → IsGood most_weight history.0 → IsGood most_weight (told_need history k o).after.0
good_need history k None good = good
good_need history k (Some need) good = good

good_found : (history : History) (place : Place) (k : ℕ) (o : Option NodeMark) → IsGood most_weight history.0 → IsGood most_weight (told_found history place k o).after.0
good_found history place k None good = good
good_found history place k (Some mark) good = good_need history k (need_of k mark.needs) good

good_reply : (history : History) (bytes : ℕ) (r : Reading) → IsGood most_weight history.0 → IsGood most_weight (reply_by history bytes r).after.0
good_reply history bytes (reads (request.Edit e)) good = good_edited history bytes e (refusal_after history bytes e) refl good
good_reply history bytes (reads request.Status) good = good
good_reply history bytes (reads (request.StatusAt place)) good = good_shown history place no_lines (mark_of place (anew history.0).nodes) good
good_reply history bytes (reads (request.StatusLemma x)) good = good_lemma history x (lemma_of x (anew history.0).lemmas) good
good_reply history bytes (reads request.StatusAll) good = good
good_reply history bytes (reads (request.Goal place)) good = good_shown history place goal_texts (mark_of place (anew history.0).nodes) good
good_reply history bytes (reads (request.Find place k)) good = good_found history place k (mark_of place (anew history.0).nodes) good
good_reply history bytes (fault offset) good = good

good_after : (history : History) (line : List ℕ) → IsGood most_weight history.0 → IsGood most_weight (after history line).0
unfolding reply
good_after history line good = go (is_silent line)
  where
    go : (b : Bool) → IsGood most_weight (if b then history else (reply_by history (length line) (reading line)).after).0
    go true = good
    go false = good_reply history (length line) (reading line) good

good_from : (history : History) (lines : List (List ℕ)) → IsGood most_weight history.0 → IsGood most_weight (history_from history lines).0
unfolding history_from
good_from history [] good = good
good_from history (line ∷ lines) good = good_from (after history line) lines (good_after history line good)

-- the live edits of a session are accepted, one after the other
pub good_of : (lines : List (List ℕ)) → IsGood most_weight (history_of lines).0
good_of lines = good_from no_history lines tt

-- what the reply to a request is
reply_told : (history : History) (line : List ℕ) (r : Request) → reading line ≡ reads r → reply history line ≡ reply_to history (length line) r
unfolding reply
reply_told history line r asks = ap (reply_by history (length line)) asks

-- what the last line of the reply to a request for the status of the project is, in both forms
status_told : (history : History) (line : List ℕ) → AsksStatus line → (reply history line).end ≡ closing_of history.0
status_told history line (inl asks) = ap (λ r. r.end) (reply_told history line request.Status asks)
status_told history line (inr asks) = ap (λ r. r.end) (reply_told history line request.StatusAll asks)

-- no other reply ends in the text of a closed derivation
capital_differs : (rest : List ℕ) → (69 ∷ rest) ≡ closed_text → ⊥
capital_differs rest e = let at : get_or (69 ∷ rest) 0 0 ≡ get_or closed_text 0 0 = ap (λ l. get_or l 0 0) e in absurd (omega (arith, at))

fourth_is : (c : ℕ) (rest : List ℕ) → (codes "ok " ++ c ∷ rest) ≡ closed_text → c ≡ 99
fourth_is c rest e = ap (λ l. get_or l 3 0) e

refusal_differs : (r : EditRefusal) → refusal_text r ≡ closed_text → ⊥
refusal_differs (refusal.Unknown x) e = capital_differs _ e
refusal_differs (refusal.Duplicate x) e = capital_differs _ e
refusal_differs (refusal.Sort part) e = capital_differs _ e
refusal_differs (refusal.NoNode place) e = capital_differs _ e
refusal_differs (refusal.NoObligation k) e = capital_differs _ e
refusal_differs (refusal.Limit w n) e = capital_differs _ e
refusal_differs (refusal.Full w) e = capital_differs _ e
refusal_differs (refusal.Order x) e = capital_differs _ e
refusal_differs (refusal.InUse x s) e = capital_differs _ e
refusal_differs refusal.Memory e = let at : 0 ≡ 111 = ap (λ l. get_or l 0 0) e in absurd (omega (arith, at))

-- a number begins with a digit
abbrev BeginsWithDigit : List ℕ → Type 0
BeginsWithDigit [] = ⊥
BeginsWithDigit (c ∷ cs) = c < 58

number_begins : (n : ℕ) → n < 2 ^ 64 → BeginsWithDigit (decimal n)
number_begins = decimal_by_steps (λ m ds. BeginsWithDigit ds) (λ m l. omega (arith, l)) (λ m ds l h. longer ds (48 + m % 10) h)
  where
    longer : (ds : List ℕ) (c : ℕ) → BeginsWithDigit ds → BeginsWithDigit (ds ++ c ∷ [])
    longer [] c h = absurd h
    longer (d ∷ ds) c h = h

number_differs : (ds : List ℕ) → BeginsWithDigit ds → (codes "ok " ++ ds) ≡ closed_text → ⊥
number_differs [] h e = h
number_differs (c ∷ cs) h e = let is = fourth_is c cs e in absurd (omega (arith, h, is))

few_edits : (edits bytes : ℕ) → past_limits edits bytes ≡ None → edits + 1 < 2 ^ 64
unfolding past_limits
few_edits edits bytes e = go (nat_le 65536 edits) refl e
  where
    go : (b : Bool) → nat_le 65536 edits ≡ b → (if b then Some (refusal.Limit which.Edits 65536) else if nat_lt 16777216 bytes then Some (refusal.Limit which.Bytes 16777216) else None) ≡ None → edits + 1 < 2 ^ 64
    go true is e = absurd (cc)
    go false is e = let few : edits < 65536 = leb-false 65536 edits is in omega (arith, few)

edit_differs : (history : History) (bytes : ℕ) (e : Edit) (o : Option EditRefusal) → refusal_after history bytes e ≡ o → (edited history bytes e o).end ≡ closed_text → ⊥
edit_differs history bytes e None is same =
    number_differs (decimal (length history.0 + 1))
    (number_begins (length history.0 + 1) (few_edits (length history.0) (history.1 + bytes) (first_told (past_limits (length history.0) (history.1 + bytes)) (refusal_of most_weight history.0 e) is).0)) same
edit_differs history bytes e (Some r) is same = refusal_differs r same

place_differs : (tree : TreeName) (kids space rest : List ℕ) → (codes "ok " ++ (tree_text tree ++ kids ++ space ++ rest)) ≡ closed_text → ⊥
place_differs tree.Main kids space rest e = let is = fourth_is 109 _ e in absurd (omega (arith, is))

told_differs : (history : History) (place : Place) (lines : NodeMark → List (List ℕ)) (o : Option NodeMark) → (told_of history place lines o).end ≡ closed_text → ⊥
told_differs history place lines None e = refusal_differs (refusal.NoNode place) e
told_differs history place lines (Some mark) e = place_differs mark.place.tree (kids_text mark.place.path.kids) (codes " ") (status_text mark.status) e

lemma_differs : (history : History) (x : List ℕ) (o : Option LemmaMark) → (told_lemma history x o).end ≡ closed_text → ⊥
lemma_differs history x None e = refusal_differs (refusal.Unknown x) e
lemma_differs history x (Some mark) e = let is = fourth_is 108 _ e in absurd (omega (arith, is))

found_differs : (f : Found) → found_text f ≡ closed_text → ⊥
found_differs (found.Lines lines) e = let is = fourth_is 102 _ e in absurd (omega (arith, is))
found_differs (found.Point values) e = let is = fourth_is 112 _ e in absurd (omega (arith, is))
found_differs (found.Wide k) e = let is = fourth_is 119 _ e in absurd (omega (arith, is))
found_differs found.Many e = let is = fourth_is 109 _ e in absurd (omega (arith, is))

need_differs : (history : History) (k : ℕ) (o : Option Need) → (told_need history k o).end ≡ closed_text → ⊥
need_differs history k None e = refusal_differs (refusal.NoObligation k) e
need_differs history k (Some need) e = found_differs (found_of need.sequent) e

finding_differs : (history : History) (place : Place) (k : ℕ) (o : Option NodeMark) → (told_found history place k o).end ≡ closed_text → ⊥
finding_differs history place k None e = refusal_differs (refusal.NoNode place) e
finding_differs history place k (Some mark) e = need_differs history k (need_of k mark.needs) e

only_asked : (history : History) (line : List ℕ) → (reply history line).end ≡ closed_text → AsksStatus line
unfolding reply
only_asked history line e = go (reading line) refl e
  where
    go : (r : Reading) → reading line ≡ r → (reply_by history (length line) r).end ≡ closed_text → AsksStatus line
    go (fault offset) is e = absurd (capital_differs _ e)
    go (reads (request.Edit edit)) is e = absurd (edit_differs history (length line) edit (refusal_after history (length line) edit) refl e)
    go (reads request.Status) is e = inl is
    go (reads request.StatusAll) is e = inr is
    go (reads (request.StatusAt place)) is e = absurd (told_differs history place no_lines (mark_of place (anew history.0).nodes) e)
    go (reads (request.StatusLemma x)) is e = absurd (lemma_differs history x (lemma_of x (anew history.0).lemmas) e)
    go (reads (request.Goal place)) is e = absurd (told_differs history place goal_texts (mark_of place (anew history.0).nodes) e)
    go (reads (request.Find place k)) is e = absurd (finding_differs history place k (mark_of place (anew history.0).nodes) e)

pub status_anew : (history : History) (line : List ℕ) → IsGood most_weight history.0 → StatusIsAnew history line
status_anew history line good = record {
  status = status_told history line;
  alone = only_asked history line;
  exactly = λ asks. (λ e. (closed_exactly history.0).0 (sym (status_told history line asks) ∙ e), λ closed. status_told history line asks ∙ (closed_exactly history.0).1 closed);
  at_place = λ place asks. reply_told history line (request.StatusAt place) asks;
  lemma = λ x asks. reply_told history line (request.StatusLemma x) asks;
  each = λ asks. reply_told history line request.StatusAll asks;
  goal = λ place asks. reply_told history line (request.Goal place) asks;
  found = λ place k asks. reply_told history line (request.Find place k) asks;
  refined = λ shows. closed_refined most_weight history.0 good ((closed_exactly history.0).0 (sym (status_told history line (only_asked history line shows)) ∙ shows));
}

-- the headline, for any session
pub headline : (lines : List (List ℕ)) → Headline lines
headline lines before line behind split = status_anew (history_of before) line (good_of before)
