-- One turn of the reader's loop.
use Rattle.std.specs.Prelude.{◌≡◌, ℕ, List, Option, Some, None}
use Rattle.rw_syntax.specs.declared.token.Token.{Token as Class}
use Rattle.rw_syntax.specs.declared.state.State.{State}
use Rattle.rw_syntax.specs.Steps.{advance_shut}
use Rattle.rw_tokens.specs.Tokens.{Token, token_at}
use Rattle.rw_tokens.specs.Classes.{class_of}

-- the token at a place is read
pub record Turns (most goal : ℕ) (here : List ℕ) (s : State) (there : List ℕ) (s2 : State) : Type 0 where
  pub token : Token
  pub class : Class
  pub stands : token_at here ≡ Some (token, there)
  pub is : class_of token ≡ Some class
  pub advances : advance_shut most goal s class ≡ Some s2

-- a token is refused behind a state
abbrev pub RefusedAs : ℕ → ℕ → State → Option Class → Type 0
RefusedAs most goal s None = Unit {0}
RefusedAs most goal s (Some c) = advance_shut most goal s c ≡ None

-- what stands at a place is no token or is refused
abbrev pub Refuses : ℕ → ℕ → List ℕ → State → Type 0
Refuses most goal here s = (t : Token) (behind : List ℕ) → token_at here ≡ Some (t, behind) → RefusedAs most goal s (class_of t)
