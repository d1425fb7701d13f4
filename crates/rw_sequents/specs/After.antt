-- The goals after the lines of a certificate, and what they say of it.
use Rattle.std.specs.Prelude.{◌≡◌, ◌<◌, ℕ, ◌+◌, ltb, Bool, true, false, List, [], ◌∷◌, ◌++◌, length, take, Option, Some, None}
use Rattle.rw_terms.specs.declared.sequent.Sequent.{Sequent}
use Rattle.rw_goals.specs.Causes as causes
use Rattle.rw_goals.specs.declared.library.Library.{Library}
use Rattle.rw_goals.specs.Premises.{Effect, Fails, Premises}
use Rattle.rw_sequents.specs.declared.check.Fault.{Fault}
use Rattle.rw_terms.specs.Validity.{Each}
use Rattle.rw_arith.specs.Lines.{lines_fault, checked_of}
use Rattle.rw_sequents.specs.Counting.{arithmetic_lines}
use Rattle.rw_sequents.specs.declared.line.CertLine.{CertLine}
use Rattle.rw_sequents.specs.declared.line.CertLine.TheVariants as line
use Rattle.rw_sequents.specs.declared.line.Cert.{Cert}
use Rattle.rw_sequents.specs.declared.line.Verdict.{Verdict}
use Rattle.rw_sequents.specs.declared.line.Verdict.TheVariants.{Good, Bad}
use Rattle.rw_sequents.specs.Rules.{after_line}

-- the open goals, the top one first, or the first failing line with its place in the line and its cause
pub data Progress : Type 0 where
  Open : List Sequent → Progress
  Failed : ℕ → ℕ → ℕ → Progress

-- the goals, unless they are more than 64
abbrev pub capped : Bool → List Sequent → ℕ → Progress
capped true goals n = Failed n 0 causes.too_large
capped false goals n = Open goals

-- the premises in place of the top goal
abbrev pub replaced : Effect → List Sequent → ℕ → Progress
replaced (Fails sub cause) rest n = Failed n sub cause
replaced (Premises ps) rest n = capped (ltb 64 (length (ps ++ rest))) (ps ++ rest) n

-- by a library, of which lemmas may be cited below a table place
module _ (library : Library) (before : ℕ) where
  -- the line of number n
  abbrev pub step : Progress → CertLine → ℕ → Progress
  step (Failed line sub cause) l n = Failed line sub cause
  step (Open []) l n = Failed n 0 causes.no_goal
  step (Open (q ∷ rest)) l n = replaced (after_line library before q l) rest n

  -- after lines of which the first has number n
  abbrev pub after_lines : Progress → List CertLine → ℕ → Progress
  after_lines p [] n = p
  after_lines p (l ∷ ls) n = after_lines (step p l n) ls (n + 1)

  -- after the first n lines of a certificate of the goal
  abbrev pub after : Sequent → Cert → ℕ → Progress
  after q cert n = after_lines (Open (q ∷ [])) (take n cert.lines) 1

  -- no line fails, and no goal is left
  abbrev pub Follows : Sequent → Cert → Type 0
  Follows q cert = after q cert (length cert.lines) ≡ Open []

-- what a line's fault, or none, makes of the goals
abbrev pub progress : Option Fault → List Sequent → ℕ → Progress
progress None goals n = Open goals
progress (Some fault) goals n = Failed n fault.sub fault.cause

-- what is said of a certificate with so many lines
abbrev pub told : Progress → ℕ → Verdict
told (Open []) lines = Good
told (Open (q ∷ rest)) lines = Bad (lines + 1) 0 causes.unclosed
told (Failed line sub cause) lines = Bad line sub cause

-- what is said of a certificate of the goal by a library
abbrev pub verdict : Library → ℕ → Sequent → Cert → Verdict
verdict library before q cert = told (after library before q cert (length cert.lines)) (length cert.lines)

-- how many arithmetic lines a line checks at the goal on top
abbrev pub arithmetic : List Sequent → CertLine → ℕ
arithmetic [] l = 0
arithmetic (q ∷ rest) (line.Lin lines) = checked_of (length lines) (lines_fault q.left q.right lines)
arithmetic (q ∷ rest) _ = 0

-- how many lines are checked from here on, rule lines and arithmetic lines, the failing ones among them
abbrev pub spent : Library → ℕ → Progress → List CertLine → ℕ → ℕ
spent library before (Failed line sub cause) ls n = 0
spent library before (Open goals) [] n = 0
spent library before (Open goals) (l ∷ ls) n = 1 + arithmetic goals l + spent library before (step library before (Open goals) l n) ls (n + 1)

-- how many lines of a certificate of the goal are checked
abbrev pub checked : Library → ℕ → Sequent → Cert → ℕ
checked library before q cert = spent library before (Open (q ∷ [])) cert.lines 1

-- fewer arithmetic lines than a number of 32 bits can count
abbrev pub IsShort : CertLine → Type 0
IsShort l = arithmetic_lines l < 4294967295

-- fewer lines than a number of 32 bits can count, and in each as few arithmetic lines
pub record IsCounted (cert : Cert) : Type 0 where
  pub lines : length cert.lines < 4294967295
  pub each : Each IsShort cert.lines
