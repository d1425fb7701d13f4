-- What is written for a script.
use Rattle.std.specs.Prelude.{◌≡◌, ℕ, ◌+◌, List, [], ◌∷◌, ◌++◌, false, true, codes, Option}
use Rattle.std.specs.Io.KnownBytes.{Appends}
use Rattle.rw_top.specs.Batch.{AnswersAll}

-- Replies that belong to a script and a status: those to all its lines, where the status says so, and none to wrong words.
pub record IsOwed (script : List ℕ) (status : ℕ) (replies : List ℕ) : Type 0 where
  pub accepted : status ≡ 0 → AnswersAll false script replies
  pub refused : status ≡ 1 → AnswersAll true script replies
  pub wrong_words : status ≡ 2 → replies ≡ []

-- the line with a status, which is one digit
abbrev pub status_line : ℕ → List ℕ
status_line status = codes "-- status " ++ (48 + status) ∷ 10 ∷ []

-- a script's heading was written, its replies, and the line with its status
abbrev pub IsRow : List ℕ → List ℕ → Option (List ℕ) → Option (List ℕ) → Type 0
IsRow heading script before now = (status : ℕ) × (replies : List ℕ) × IsOwed script status replies × Appends before now (heading ++ replies ++ status_line status)
