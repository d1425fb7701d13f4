-- What `batch` reads and writes.
use Rattle.std.specs.Prelude.{◌≡◌, ◌≢◌, ◌⊎◌, ℕ, ◌+◌, ◌-◌, ◌*◌, ◌<◌, ◌≤◌, Bool, List, [], ◌∷◌, ◌++◌, length, map, codes, All, Option, String, string_bytes}
use Rattle.std.specs.declared.alloc.Global.{Global}
use Rattle.rw_top.specs.declared.batch.Batch.{Batch}
use Rattle.std.specs.Io.KnownBytes.{Appends, Consumes, IsAtEnd}
use Rattle.rw_project.specs.Lines.{whole_lines, last_part, lines_of}
use Rattle.rw_project.specs.Session.{History, session, has_refusal, history_of}

-- the words ask for a batch
abbrev pub AsksBatch : List (String Global) → Type 0
AsksBatch words = map (λ w. string_bytes w) words ≡ codes "batch" ∷ []

-- each line has at most 65,536 bytes
abbrev pub Short : List (List ℕ) → Type 0
Short lines = All (λ line. length line ≤ 65536) lines

-- the next byte makes a line too long, or begins line 1,000,001
abbrev pub Overruns : List ℕ → ℕ → Type 0
Overruns seen c = (1000000 ≤ length (whole_lines seen)) ⊎ ((65536 ≤ length (last_part seen)) × (c ≢ 10))

-- bytes were added to the sink, and P holds of them
abbrev pub Adds : Option (List ℕ) → Option (List ℕ) → (List ℕ → Type 0) → Type 0
Adds start now P = (added : List ℕ) × Appends start now added × P added

-- bytes were taken from the source and others added to the sink, and P holds of both
abbrev pub Moves : Option (List ℕ) → Option (List ℕ) → Option (List ℕ) → Option (List ℕ) → (List ℕ → List ℕ → Type 0) → Type 0
Moves left left_after held held_after P = (taken : List ℕ) × Consumes left left_after taken × Adds held held_after (P taken)

-- no line is too long, and there are at most 1,000,000
pub record Fits (lines : List (List ℕ)) : Type 0 where
  pub short : Short lines
  pub few : length lines ≤ 1000000

-- all lines are answered
pub record AnswersAll (refused : Bool) (taken added : List ℕ) : Type 0 where
  pub text : added ≡ session (lines_of taken)
  pub refusals : refused ≡ has_refusal (lines_of taken)
  pub fits : Fits (lines_of taken)

-- the lines that LF ends are answered
pub record AnswersWhole (taken added : List ℕ) : Type 0 where
  pub text : added ≡ session (whole_lines taken)
  pub fits : Fits (lines_of taken)

-- what was added is a front part of the session of some first lines that LF ends, which fit; at most 65,536 bytes were taken
-- behind these
pub record AnswersFront (taken added : List ℕ) : Type 0 where
  pub seen : List ℕ
  pub more : List ℕ
  pub rest : List ℕ
  pub split : taken ≡ seen ++ more
  pub soon : length more ≤ 65536
  pub fits : Fits (lines_of seen)
  pub text : added ++ rest ≡ session (whole_lines seen)

-- what was added is a front part of the session of all lines, which fit
pub record AnswersPart (taken added : List ℕ) : Type 0 where
  pub rest : List ℕ
  pub fits : Fits (lines_of taken)
  pub text : added ++ rest ≡ session (lines_of taken)

-- a front part of the session of first lines that LF ends, or, where the input was read to its end, of that of all lines
abbrev pub Cuts : Option (List ℕ) → Option (List ℕ) → Option (List ℕ) → Option (List ℕ) → Type 0
Cuts left left_after held held_after =
    Moves left left_after held held_after AnswersFront ⊎ (IsAtEnd left_after × Moves left left_after held held_after AnswersPart)

-- some first lines, which fit, are answered, and no part of the next reply is; at most 65,536 bytes were taken behind them
pub record AnswersFirst (taken added : List ℕ) : Type 0 where
  pub seen : List ℕ
  pub more : List ℕ
  pub split : taken ≡ seen ++ more
  pub soon : length more ≤ 65536
  pub fits : Fits (lines_of seen)
  pub text : added ≡ session (whole_lines seen)

-- the next byte makes a line too long or begins line 1,000,001; the lines before it, which fit, are answered, and fewer than
-- 65,536 bytes were taken behind it
pub record AnswersShort (taken added : List ℕ) : Type 0 where
  pub seen : List ℕ
  pub next : ℕ
  pub more : List ℕ
  pub split : taken ≡ seen ++ next ∷ more
  pub soon : length more < 65536
  pub overruns : Overruns seen next
  pub fits : Fits (lines_of seen)
  pub text : added ≡ session (whole_lines seen)

-- bytes were added to the sink, and P holds of them with the pending ones behind them
abbrev pub AddsPending : Option (List ℕ) → Option (List ℕ) → List ℕ → (List ℕ → Type 0) → Type 0
AddsPending start held pending P = (sent : List ℕ) × Appends start held sent × P (sent ++ pending)

-- The session stands where these bytes were seen: what was written since `start` and is pending, the project, and the line that has begun.
pub record Stands (start held : Option (List ℕ)) (pending seen : List ℕ) (history : History) (line : List ℕ) (lines : ℕ) (refused : Bool) : Type 0 where
  pub output : AddsPending start held pending (λ added. added ≡ session (whole_lines seen))
  pub project : history ≡ history_of (whole_lines seen)
  pub begun : line ≡ last_part seen
  pub count : lines ≡ length (whole_lines seen)
  pub refusals : refused ≡ has_refusal (whole_lines seen)
  pub short : Short (whole_lines seen)
  pub room : length line ≤ 65536
  pub few : lines ≤ 1000000
  pub begun_few : 0 < length line → lines < 1000000

-- the same of a batch, with what its sink holds
abbrev pub StandsAt : Option (List ℕ) → Option (List ℕ) → List ℕ → Batch → Type 0
StandsAt start held seen batch = Stands start held batch.pending.items seen batch.project batch.line.items batch.lines batch.refused

-- how many bytes are still taken at most
abbrev pub bytes_to_come : List ℕ → ℕ → ℕ
bytes_to_come line lines = 65537 * (1000000 - lines) + (65536 - length line)
