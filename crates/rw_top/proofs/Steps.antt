-- One byte more.
use Rattle.std.proofs.Common.{◌≡◌, ◌≢◌, ℕ, ◌+◌, ◌<◌, ◌≤◌, Bool, ◌||◌, Option, List, [], ◌∷◌, ◌++◌, length, take, drop, sym, ◌∙◌, ap, subst, arith, length-append, append_assoc}
use Rattle.std.proofs.KnownBytes.{Appends-trans}
use Rattle.std.proofs.lemmas.List.{append-nil}
use Rattle.std.proofs.lemmas.List.Elements.{All-push}
use Rattle.std.proofs.Math.Seq.{take-add}
use Rattle.std.specs.Io.KnownBytes.{Appends}
use Rattle.rw_project.specs.Lines.{whole_lines, last_part}
use Rattle.rw_project.specs.Session.{History, after, written, refuses, session, has_refusal, history_of}
use Rattle.rw_project.proofs.Cutting.{whole_lf, whole_other, last_lf, last_other}
use Rattle.rw_project.proofs.Runs.{session_push, refuses_push, history_push}
use Rattle.rw_top.specs.Batch.{Stands, Short}

-- what is written when LF comes
written_lf : (start held : Option (List ℕ)) (pending seen : List ℕ) (history : History) (line : List ℕ) (lines : ℕ) (refused : Bool) (c : ℕ) → c ≡ 10 → Stands start held pending seen history line lines refused → session (whole_lines (seen ++ c ∷ [])) ≡ session (whole_lines seen) ++ written history line
written_lf start held pending seen history line lines refused c e s =
    ap session (whole_lf seen c e) ∙ session_push (whole_lines seen) (last_part seen)
    ∙ ap (λ (h : History). session (whole_lines seen) ++ written h (last_part seen)) (sym s.project)
    ∙ ap (λ (l : List ℕ). session (whole_lines seen) ++ written history l) (sym s.begun)

stands_lf : (start held : Option (List ℕ)) (pending pending' seen : List ℕ) (history history' : History) (line line' : List ℕ) (lines : ℕ) (refused refused' : Bool) (c : ℕ) → c ≡ 10 → Stands start held pending seen history line lines refused → lines < 1000000 → pending' ≡ pending ++ written history line → history' ≡ after history line → line' ≡ [] → refused' ≡ (refused || refuses history line) → Stands start held pending' (seen ++ c ∷ []) history' line' (lines + 1) refused'
stands_lf start held pending pending' seen history history' line line' lines refused refused' c e s few is_pending is_after is_empty is_refused =
    let ls = whole_lines seen in
    let sent = s.output.0 in
    let is_history : history ≡ history_of ls = s.project in
    let is_line : line ≡ last_part seen = s.begun in record {
      output = (
        sent,
        s.output.1,
        ap (λ (l : List ℕ). sent ++ l) is_pending ∙ sym (append_assoc sent pending (written history line))
            ∙ ap (λ (l : List ℕ). l ++ written history line) s.output.2
            ∙ sym (written_lf start held pending seen history line lines refused c e s),
      );
      project =
          is_after ∙ ap (λ (h : History). after h line) is_history ∙ ap (λ (l : List ℕ). after (history_of ls) l) is_line
          ∙ sym (history_push ls (last_part seen)) ∙ ap history_of (sym (whole_lf seen c e));
      begun = is_empty ∙ sym (last_lf seen c e);
      count = omega (arith, s.count, ap length (whole_lf seen c e), length-append ls (last_part seen ∷ []));
      refusals =
          is_refused ∙ ap (λ (b : Bool). b || refuses history line) s.refusals ∙ ap (λ (h : History). has_refusal ls || refuses h line) is_history
          ∙ ap (λ (l : List ℕ). has_refusal ls || refuses (history_of ls) l) is_line ∙ sym (refuses_push ls (last_part seen)) ∙ ap has_refusal (sym (whole_lf seen c e));
      short = subst Short (sym (whole_lf seen c e)) (All-push (λ (l : List ℕ). length l ≤ 65536) ls (last_part seen) s.short (subst (λ (l : List ℕ). length l ≤ 65536) is_line s.room));
      room = omega (arith, ap length is_empty);
      few = omega arith;
      begun_few = λ some. absurd (omega (arith, ap length is_empty));
    }

-- LF ends a line, which is given as another list that equals it
pub stands_lf_given : (start held : Option (List ℕ)) (pending pending' seen : List ℕ) (history history' : History) (line given line' : List ℕ) (lines : ℕ) (refused refused' : Bool) (c : ℕ) → given ≡ line → c ≡ 10 → Stands start held pending seen history line lines refused → lines < 1000000 → pending' ≡ pending ++ written history given → history' ≡ after history given → line' ≡ [] → refused' ≡ (refused || refuses history given) → Stands start held pending' (seen ++ c ∷ []) history' line' (lines + 1) refused'
stands_lf_given start held pending pending' seen history history' line given line' lines refused refused' c same e s few is_pending is_after is_empty is_refused =
    stands_lf start held pending pending' seen history history' line line' lines refused refused' c e s few
    (is_pending ∙ ap (λ (l : List ℕ). pending ++ written history l) same)
    (is_after ∙ ap (λ (l : List ℕ). after history l) same)
    is_empty
    (is_refused ∙ ap (λ (l : List ℕ). refused || refuses history l) same)

-- another byte belongs to the line
pub stands_other : (start held : Option (List ℕ)) (pending seen : List ℕ) (history : History) (line line' : List ℕ) (lines : ℕ) (refused : Bool) (c : ℕ) → c ≢ 10 → Stands start held pending seen history line lines refused → lines < 1000000 → length line < 65536 → line' ≡ line ++ c ∷ [] → Stands start held pending (seen ++ c ∷ []) history line' lines refused
stands_other start held pending seen history line line' lines refused c ne s few fits is = record {
  output = (s.output.0, s.output.1, s.output.2 ∙ ap session (sym (whole_other seen c ne)));
  project = s.project ∙ ap history_of (sym (whole_other seen c ne));
  begun = is ∙ ap (λ (l : List ℕ). l ++ c ∷ []) s.begun ∙ sym (last_other seen c ne);
  count = s.count ∙ ap length (sym (whole_other seen c ne));
  refusals = s.refusals ∙ ap has_refusal (sym (whole_other seen c ne));
  short = subst Short (sym (whole_other seen c ne)) s.short;
  room = omega (arith, ap length is, length-append line (c ∷ []));
  few = s.few;
  begun_few = λ some. few;
}

-- what was pending is written out
pub stands_sent : (start held later : Option (List ℕ)) (pending pending' seen : List ℕ) (history : History) (line : List ℕ) (lines : ℕ) (refused : Bool) → Stands start held pending seen history line lines refused → Appends held later pending → pending' ≡ [] → Stands start later pending' seen history line lines refused
stands_sent start held later pending pending' seen history line lines refused s adds none =
    let sent = s.output.0 in record {
      output = (
        sent ++ pending,
        Appends-trans _ _ _ _ _ s.output.1 adds,
        ap (λ (l : List ℕ). (sent ++ pending) ++ l) none ∙ append-nil (sent ++ pending) ∙ s.output.2,
      );
      project = s.project;
      begun = s.begun;
      count = s.count;
      refusals = s.refusals;
      short = s.short;
      room = s.room;
      few = s.few;
      begun_few = s.begun_few;
    }

-- one write more
pub goes_on : (a b c : Option (List ℕ)) (bytes rest : List ℕ) (n k : ℕ) → Appends a b (take n bytes) → rest ≡ drop n bytes → Appends b c (take k rest) → Appends a c (take (n + k) bytes)
goes_on a b c bytes rest n k first is next =
    subst (λ (l : List ℕ). Appends a c l) (ap (λ (l : List ℕ). take n bytes ++ take k l) is ∙ sym (take-add n k bytes)) (Appends-trans _ _ _ _ _ first next)
