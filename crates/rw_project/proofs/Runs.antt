-- One line more, and the session.
use Rattle.std.proofs.Common.{◌≡◌, ℕ, Bool, false, ◌||◌, List, [], ◌∷◌, ◌++◌, refl, sym, ◌∙◌, ap, append_assoc}
use Rattle.rw_project.specs.Session.{History, no_history, after, written, refuses, session_from, refuses_from, history_from, session, has_refusal, history_of}
use Rattle.std.proofs.lemmas.List.{append-nil}
use Rattle.std.proofs.Math.Bool.{or_assoc, or-false}

pub session_append : (history : History) (xs ys : List (List ℕ)) → session_from history (xs ++ ys) ≡ session_from history xs ++ session_from (history_from history xs) ys
unfolding session_from history_from
session_append history [] ys = refl
session_append history (line ∷ xs) ys =
    ap (λ (l : List ℕ). written history line ++ l) (session_append (after history line) xs ys)
    ∙ sym (append_assoc (written history line) (session_from (after history line) xs) (session_from (history_from (after history line) xs) ys))

pub refuses_append : (history : History) (xs ys : List (List ℕ)) → refuses_from history (xs ++ ys) ≡ (refuses_from history xs || refuses_from (history_from history xs) ys)
unfolding refuses_from history_from
refuses_append history [] ys = refl
refuses_append history (line ∷ xs) ys =
    ap (λ (b : Bool). refuses history line || b) (refuses_append (after history line) xs ys)
    ∙ sym (or_assoc (refuses history line) (refuses_from (after history line) xs) (refuses_from (history_from (after history line) xs) ys))

pub history_append : (history : History) (xs ys : List (List ℕ)) → history_from history (xs ++ ys) ≡ history_from (history_from history xs) ys
unfolding history_from
history_append history [] ys = refl
history_append history (line ∷ xs) ys = history_append (after history line) xs ys

-- one line more
pub session_push : (lines : List (List ℕ)) (line : List ℕ) → session (lines ++ line ∷ []) ≡ session lines ++ written (history_of lines) line
unfolding session_from
session_push lines line =
    session_append no_history lines (line ∷ []) ∙ ap (λ (l : List ℕ). session lines ++ l) (append-nil (written (history_of lines) line))

pub refuses_push : (lines : List (List ℕ)) (line : List ℕ) → has_refusal (lines ++ line ∷ []) ≡ (has_refusal lines || refuses (history_of lines) line)
unfolding refuses_from
refuses_push lines line =
    refuses_append no_history lines (line ∷ []) ∙ ap (λ (b : Bool). has_refusal lines || b) (or-false (refuses (history_of lines) line))

pub history_push : (lines : List (List ℕ)) (line : List ℕ) → history_of (lines ++ line ∷ []) ≡ after (history_of lines) line
unfolding history_from
history_push lines line = history_append no_history lines (line ∷ [])

-- before any line
pub session_none : session [] ≡ []
unfolding session_from
session_none = refl

pub refuses_none : has_refusal [] ≡ false
unfolding refuses_from
refuses_none = refl

pub history_none : history_of [] ≡ no_history
unfolding history_from
history_none = refl
