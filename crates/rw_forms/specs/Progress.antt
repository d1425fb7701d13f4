-- What the parts of the reader answer, against the reading of forms.
use Rattle.std.specs.Prelude.{◌≡◌, ℕ, ◌≤◌, ◌<◌, ◌^◌, Bool, true, false, ◌⊎◌, cond, List, length, drop, Option, Some, None, Result, Ok, Err}
use Rattle.rw_forms.specs.declared.request.Request.{Request}
use Rattle.rw_forms.specs.declared.request.ReadError.{ReadError}
use Rattle.rw_forms.specs.declared.request.ReadError.TheVariants.{Syntax, Memory}
use Rattle.rw_forms.specs.Forms.{Given, a_request, Form, gives, either}
use Rattle.rw_syntax.specs.declared.token.Token.{Token as Class}
use Rattle.rw_syntax.specs.declared.state.State.{State}
use Rattle.rw_syntax.specs.Stops.{stops_at, is_inside}
use Rattle.rw_tokens.specs.Tokens.{Token, token_at}
use Rattle.rw_tokens.specs.Classes.{class_of}
use Rattle.rw_forms.specs.Reading.{Ending, whole, stops, read_form}

-- a place in a line
pub record IsPlace (line : List ℕ) (at : ℕ) : Type 0 where
  pub short : length line < 2 ^ 32
  pub within : at ≤ length line

-- an ending is a fault at this offset
abbrev pub StopsAt : List ℕ → ReadError → Ending → Type 0
StopsAt line (Syntax offset) e = (offset ≤ length line) × (e ≡ stops (drop offset line))
StopsAt line Memory e = Unit {0}

-- a part of a form is read up to the next place, whatever is to follow it
abbrev pub Took : {A : Type 0} → ((A → Form) → Form) → List ℕ → ℕ → ℕ → Result A ReadError → Type 0
Took {A = A} part line at next (Ok x) = IsPlace line next × ((k : A → Form) → read_form (part k) (drop at line) ≡ read_form (k x) (drop next line))
Took {A = A} part line at next (Err e) = (k : A → Form) → StopsAt line e (read_form (part k) (drop at line))

-- the last part of a form is read up to the next place
abbrev pub TookLast : {A : Type 0} → ((A → Form) → Form) → List ℕ → ℕ → ℕ → Result A ReadError → Type 0
TookLast {A = A} part line at next (Ok x) = IsPlace line next × ((k : A → Given) → read_form (part (λ y. gives (k y))) (drop at line) ≡ read_form (gives (k x)) (drop next line))
TookLast {A = A} part line at next (Err e) = (k : A → Given) → StopsAt line e (read_form (part (λ y. gives (k y))) (drop at line))

-- a choice goes the way of its word where that stands there, else the other
abbrev pub Chose : List ℕ → List ℕ → ℕ → ℕ → Bool → Type 0
Chose w line at next b = IsPlace line next × ((f g : Form) → read_form (either w f g) (drop at line) ≡ read_form (cond b f g) (drop next line))

-- nothing is left
abbrev pub Ended : List ℕ → ℕ → Result (Unit {0}) ReadError → Type 0
Ended line at (Ok x) = (v : Given) → read_form (gives v) (drop at line) ≡ whole v
Ended line at (Err e) = (v : Given) → StopsAt line e (read_form (gives v) (drop at line))

-- a form is read to its end
abbrev pub Answers : Form → List ℕ → ℕ → Result Request ReadError → Type 0
Answers f line at (Ok r) = read_form f (drop at line) ≡ whole (a_request r)
Answers f line at (Err e) = StopsAt line e (read_form f (drop at line))

-- a token of terms and formulas stands at a place
abbrev pub StandsAt : List ℕ → ℕ → Class × ℕ → Type 0
StandsAt line at p = (p.1 ≤ length line) × ((t : Token) × (token_at (drop at line) ≡ Some (t, drop p.1 line)) × (class_of t ≡ Some p.0))

-- what stands at a place, if a token, is none of terms and formulas
abbrev pub NoClass : List ℕ → Type 0
NoClass here = (t : Token) (behind : List ℕ) → token_at here ≡ Some (t, behind) → class_of t ≡ None

-- behind a state a value goes on with what stands at a place, or cannot end there
abbrev pub GoesAt : List ℕ → ℕ → State → Class × ℕ → Type 0
GoesAt line at s p = StandsAt line at p × ((stops_at p.0 ≡ false) ⊎ (is_inside s ≡ true))

-- a token ends a value behind a state
abbrev pub EndsAs : State → Option Class → Type 0
EndsAs s None = Unit {0}
EndsAs s (Some c) = (stops_at c ≡ true) × (is_inside s ≡ false)

-- behind a state a value ends at a place
abbrev pub EndsAt : List ℕ → State → Type 0
EndsAt here s = (t : Token) (behind : List ℕ) → token_at here ≡ Some (t, behind) → EndsAs s (class_of t)
