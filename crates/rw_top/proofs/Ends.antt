-- What stands written where a batch stops or ends.
use Rattle.std.proofs.Common.{◌≡◌, ◌<◌, ◌≤◌, ◌+◌, ℕ, Bool, ◌||◌, false, Option, List, [], ◌∷◌, ◌++◌, length, take, drop, get_or, inl, inr, sym, ◌∙◌, ap, subst, arith, append_assoc, length-append, take-append-drop}
use Rattle.std.proofs.KnownBytes.{Appends-trans, Appends-nil, Consumes-trans}
use Rattle.std.proofs.lemmas.List.{append-nil}
use Rattle.std.proofs.lemmas.List.Elements.{All-push}
use Rattle.std.proofs.lemmas.Bool.{cases_lt}
use Rattle.std.proofs.lemmas.Grind.{common_steps}
use Rattle.std.specs.Io.KnownBytes.{Appends, Consumes}
use Rattle.rw_project.specs.Lines.{whole_lines, last_part, lines_of, if_any}
use Rattle.rw_project.specs.Session.{History, no_history, written, refuses, session, has_refusal, history_of}
use Rattle.rw_project.proofs.Runs.{session_push, refuses_push, session_none, refuses_none, history_none}
use Rattle.rw_top.specs.Batch.{Stands, Short, Fits, Overruns, Adds, AddsPending, AnswersAll, AnswersWhole, AnswersPart, AnswersFirst, AnswersShort, AnswersFront}

-- before any byte
pub stands_none : (start : Option (List ℕ)) (pending : List ℕ) (history : History) (line : List ℕ) (lines : ℕ) (refused : Bool) → pending ≡ [] → history ≡ no_history → line ≡ [] → lines ≡ 0 → refused ≡ false → Stands start start pending [] history line lines refused
stands_none start pending history line lines refused none_pending none_before no_line no_lines not_refused = record {
  output = ([], Appends-nil start, none_pending ∙ sym session_none);
  project = none_before ∙ sym history_none;
  begun = no_line;
  count = no_lines;
  refusals = not_refused ∙ sym refuses_none;
  short = λ k d lt. absurd (omega arith);
  room = omega (arith, ap length no_line);
  few = omega arith;
  begun_few = λ some. omega arith;
}

-- the last line, which lacks its LF
last_session : (seen : List ℕ) (c : ℕ) (cs : List ℕ) → last_part seen ≡ c ∷ cs → lines_of seen ≡ whole_lines seen ++ last_part seen ∷ []
last_session seen c cs is = ap (λ (l : List ℕ). whole_lines seen ++ if_any l) is ∙ ap (λ (l : List ℕ). whole_lines seen ++ l ∷ []) (sym is)

lines_last : (seen line : List ℕ) → line ≡ last_part seen → 0 < length line → lines_of seen ≡ whole_lines seen ++ line ∷ []
lines_last seen [] is some = absurd (omega arith)
lines_last seen (c ∷ cs) is some = last_session seen c cs (sym is) ∙ ap (λ (l : List ℕ). whole_lines seen ++ l ∷ []) (sym is)

lines_no_last : (seen line : List ℕ) → line ≡ last_part seen → length line ≡ 0 → lines_of seen ≡ whole_lines seen
lines_no_last seen [] is none = ap (λ (l : List ℕ). whole_lines seen ++ if_any l) (sym is) ∙ append-nil (whole_lines seen)
lines_no_last seen (c ∷ cs) is none = absurd (omega arith)

-- the lines so far fit, and so does the one that has begun
pub fits_of : (start held : Option (List ℕ)) (pending seen : List ℕ) (history : History) (line : List ℕ) (lines : ℕ) (refused : Bool) → Stands start held pending seen history line lines refused → Fits (lines_of seen)
fits_of start held pending seen history line lines refused s = elim (cases_lt 0 (length line)) [
  | inl some ↦
      let is_lines = lines_last seen line s.begun some in record {
        short = subst Short (sym is_lines) (All-push (λ (l : List ℕ). length l ≤ 65536) (whole_lines seen) line s.short s.room);
        few = omega (arith, ap length is_lines, length-append (whole_lines seen) (line ∷ []), s.begun_few some, s.count);
      }
  | inr none ↦
      let is_lines = lines_no_last seen line s.begun (omega arith) in record {
        short = subst Short (sym is_lines) s.short;
        few = omega (arith, ap length is_lines, s.count, s.few);
      }
]

-- what is pending is written out
pub sends : (start held later : Option (List ℕ)) (pending : List ℕ) (P : List ℕ → Type 0) → AddsPending start held pending P → Appends held later pending → Adds start later P
sends start held later pending P stood adds = (stood.0 ++ pending, Appends-trans _ _ _ _ _ stood.1 adds, stood.2)

-- a front part of it is
pub cuts : (start held later : Option (List ℕ)) (pending whole : List ℕ) (n : ℕ) → AddsPending start held pending (λ added. added ≡ whole) → Appends held later (take n pending) → Adds start later (λ added. (more : List ℕ) × (added ++ more ≡ whole))
cuts start held later pending whole n stood adds =
    let sent = stood.0 in (
      sent ++ take n pending,
      Appends-trans _ _ _ _ _ stood.1 adds,
      (drop n pending, append_assoc sent (take n pending) (drop n pending) ∙ ap (λ (l : List ℕ). sent ++ l) (take-append-drop n pending) ∙ stood.2),
    )

-- the lines that LF ends are answered
pub whole_of : (start held : Option (List ℕ)) (pending seen : List ℕ) (history : History) (line : List ℕ) (lines : ℕ) (refused : Bool) → pending ≡ [] → Stands start held pending seen history line lines refused → Adds start held (AnswersWhole seen)
whole_of start held pending seen history line lines refused none s =
    let sent = s.output.0 in (
      sent,
      s.output.1,
      record {
        text = sym (append-nil sent) ∙ ap (λ (l : List ℕ). sent ++ l) (sym none) ∙ s.output.2;
        fits = fits_of start held pending seen history line lines refused s;
      },
    )

-- no line has begun, so they are all
pub all_whole : (start held : Option (List ℕ)) (pending seen : List ℕ) (history : History) (line : List ℕ) (lines : ℕ) (refused : Bool) → length line ≡ 0 → Stands start held pending seen history line lines refused → AddsPending start held pending (AnswersAll refused seen)
all_whole start held pending seen history line lines refused none s =
    let is_lines = lines_no_last seen line s.begun none in (
      s.output.0,
      s.output.1,
      record {
        text = s.output.2 ∙ ap session (sym is_lines);
        refusals = s.refusals ∙ ap has_refusal (sym is_lines);
        fits = fits_of start held pending seen history line lines refused s;
      },
    )

-- the line that has begun is the last one, and is answered
pub all_of : (start held : Option (List ℕ)) (pending pending' seen : List ℕ) (history : History) (line given : List ℕ) (lines : ℕ) (refused refused' : Bool) → given ≡ line → 0 < length line → Stands start held pending seen history line lines refused → pending' ≡ pending ++ written history given → refused' ≡ (refused || refuses history given) → AddsPending start held pending' (AnswersAll refused' seen)
all_of start held pending pending' seen history line given lines refused refused' same some s is_pending is_refused =
    let ls = whole_lines seen in
    let sent = s.output.0 in
    let is_lines : lines_of seen ≡ ls ++ line ∷ [] = lines_last seen line s.begun some in (
      sent,
      s.output.1,
      record {
        text =
            ap (λ (l : List ℕ). sent ++ l) (is_pending ∙ ap (λ (l : List ℕ). pending ++ written history l) same)
            ∙ sym (append_assoc sent pending (written history line)) ∙ ap (λ (l : List ℕ). l ++ written history line) s.output.2
            ∙ ap (λ (h : History). session ls ++ written h line) s.project ∙ sym (session_push ls line) ∙ ap session (sym is_lines);
        refusals =
            is_refused ∙ ap (λ (l : List ℕ). refused || refuses history l) same ∙ ap (λ (b : Bool). b || refuses history line) s.refusals
            ∙ ap (λ (h : History). has_refusal ls || refuses h line) s.project ∙ sym (refuses_push ls line) ∙ ap has_refusal (sym is_lines);
        fits = fits_of start held pending seen history line lines refused s;
      },
    )

-- want of memory, with what was pending written out
pub first_of : (start held later : Option (List ℕ)) (pending pending' seen : List ℕ) (history : History) (line : List ℕ) (lines : ℕ) (refused : Bool) (more taken : List ℕ) → taken ≡ seen ++ more → length more ≤ 65536 → Stands start held pending seen history line lines refused → pending' ≡ pending → Appends held later pending' → Adds start later (AnswersFirst taken)
first_of start held later pending pending' seen history line lines refused more taken is soon s same adds =
    let sent = sends start held later pending (λ added. added ≡ session (whole_lines seen)) s.output (subst (λ (l : List ℕ). Appends held later l) same adds) in (
      sent.0,
      sent.1,
      record { seen = seen; more = more; split = is; soon = soon; fits = fits_of start held pending seen history line lines refused s; text = sent.2 },
    )

-- the limit on lines, with what was pending written out
pub short_of : (start held later : Option (List ℕ)) (pending pending' seen : List ℕ) (history : History) (line : List ℕ) (lines : ℕ) (refused : Bool) (c : ℕ) (more taken : List ℕ) → taken ≡ seen ++ c ∷ more → length more < 65536 → Overruns seen c → Stands start held pending seen history line lines refused → pending' ≡ pending → Appends held later pending' → Adds start later (AnswersShort taken)
short_of start held later pending pending' seen history line lines refused c more taken is soon over s same adds =
    let sent = sends start held later pending (λ added. added ≡ session (whole_lines seen)) s.output (subst (λ (l : List ℕ). Appends held later l) same adds) in (
      sent.0,
      sent.1,
      record { seen = seen; next = c; more = more; split = is; soon = soon; overruns = over; fits = fits_of start held pending seen history line lines refused s; text = sent.2 },
    )

-- a session goes on where its lines do
session_goes_on : (xs ys : List (List ℕ)) → (more : List ℕ) × (session (xs ++ ys) ≡ session xs ++ more)
session_goes_on xs [] = ([], ap session (append-nil xs) ∙ sym (append-nil (session xs)))
session_goes_on xs (line ∷ ys) =
    let rest = session_goes_on (xs ++ line ∷ []) ys in
    let one = written (history_of xs) line in (
      one ++ rest.0,
      ap session (sym (append_assoc xs (line ∷ []) ys)) ∙ rest.1 ∙ ap (λ (l : List ℕ). l ++ rest.0) (session_push xs line) ∙ append_assoc (session xs) one rest.0,
    )

-- a write fault where bytes are still to come
pub part_at : (start held later : Option (List ℕ)) (pending pending' seen : List ℕ) (history : History) (line : List ℕ) (lines n : ℕ) (refused : Bool) (more taken : List ℕ) → taken ≡ seen ++ more → length more ≤ 65536 → Stands start held pending seen history line lines refused → pending' ≡ pending → Appends held later (take n pending') → Adds start later (AnswersFront taken)
part_at start held later pending pending' seen history line lines n refused more taken is soon s same adds =
    let cut = cuts start held later pending (session (whole_lines seen)) n s.output (subst (λ (l : List ℕ). Appends held later (take n l)) same adds) in (
      cut.0,
      cut.1,
      record {
        seen = seen;
        more = more;
        rest = cut.2.0;
        split = is;
        soon = soon;
        fits = fits_of start held pending seen history line lines refused s;
        text = cut.2.1;
      },
    )

-- a write fault at the end of input, before the last line is answered
pub part_of_last : (start held later : Option (List ℕ)) (pending pending' seen : List ℕ) (history : History) (line : List ℕ) (lines n : ℕ) (refused : Bool) → Stands start held pending seen history line lines refused → pending' ≡ pending → Appends held later (take n pending') → Adds start later (AnswersPart seen)
part_of_last start held later pending pending' seen history line lines n refused s same adds =
    let cut = cuts start held later pending (session (whole_lines seen)) n s.output (subst (λ (l : List ℕ). Appends held later (take n l)) same adds) in
    let rest = session_goes_on (whole_lines seen) (if_any (last_part seen)) in (
      cut.0,
      cut.1,
      record {
        rest = cut.2.0 ++ rest.0;
        fits = fits_of start held pending seen history line lines refused s;
        text = sym (append_assoc cut.0 cut.2.0 rest.0) ∙ ap (λ (l : List ℕ). l ++ rest.0) cut.2.1 ∙ sym rest.1;
      },
    )

-- a byte at its place
pub at_place : (seen bytes : List ℕ) (i : ℕ) → i < length bytes → seen ++ bytes ≡ (seen ++ take i bytes) ++ get_or bytes i 0 ∷ drop (i + 1) bytes
at_place seen bytes i lt = grind (arith, common_steps)

-- the same, after that byte
pub past_place : (seen bytes : List ℕ) (i : ℕ) → i < length bytes → seen ++ bytes ≡ ((seen ++ take i bytes) ++ get_or bytes i 0 ∷ []) ++ drop (i + 1) bytes
past_place seen bytes i lt = at_place seen bytes i lt ∙ sym (append_assoc (seen ++ take i bytes) (get_or bytes i 0 ∷ []) (drop (i + 1) bytes))

-- one byte more of those before a place
pub one_more : (seen bytes : List ℕ) (i : ℕ) → i < length bytes → (seen ++ take i bytes) ++ get_or bytes i 0 ∷ [] ≡ seen ++ take (i + 1) bytes
one_more seen bytes i lt = grind (arith, common_steps)

-- a read of no bytes takes nothing
pub consumes_none : (left later last : Option (List ℕ)) (taken bytes : List ℕ) (n : ℕ) → Consumes left later taken → Consumes later last (take n bytes) → n ≡ 0 → Consumes left last taken
consumes_none left later last taken bytes n consumes more none =
    let empty : take n bytes ≡ [] = grind (arith, common_steps) in
    subst (λ (l : List ℕ). Consumes left last l) (ap (λ (l : List ℕ). taken ++ l) empty ∙ append-nil taken) (Consumes-trans _ _ _ _ _ consumes more)
