-- What the tokens of a text give by a form, where its fault is, and how the text is read token by token.
use Rattle.std.specs.Prelude.{◌≡◌, ℕ, zero, suc, ◌+◌, ◌≤◌, Bool, true, cond, List, [], ◌∷◌, ◌++◌, length, Option, Some, None, option_map, option_and_then}
use Rattle.std.specs.Option.{option_or}
use Rattle.rw_syntax.specs.declared.token.Token.{Token as Class}
use Rattle.rw_syntax.specs.declared.frame.Part.{Part}
use Rattle.rw_syntax.specs.Machine.{run_within, finish}
use Rattle.rw_syntax.specs.declared.state.State.TheVariants.{Wants as wants}
use Rattle.rw_syntax.specs.Stops.{stops_at}
use Rattle.rw_tokens.specs.Tokens.{Token, skip, token_at, LeadsTo}
use Rattle.rw_tokens.specs.Classes.{class_of}
use Rattle.rw_forms.specs.Forms.{filled, is_text, Given, Form, gives, takes, either, rest_of, more_of, one_of, too_deep, followed, IsOf}

-- tokens are of a form and give this, with a nest within 512
abbrev pub SpellsAs : Form → List Token → Given → Type 0
SpellsAs f ts v = IsOf f (length ts) ts v

-- some tokens that begin with these are of a form, with a nest within 512 at these
abbrev pub GoesOnAs : Form → List Token → Type 0
GoesOnAs f ts = (n : ℕ) × (length ts ≤ n) × (rest : List Token) × (v : Given) × IsOf f n (ts ++ rest) v

-- a text's tokens are of a form and give this
abbrev pub TextSpellsAs : Form → List ℕ → Given → Type 0
TextSpellsAs f text v = (ts : List Token) × LeadsTo (skip text) ts [] × SpellsAs f ts v

-- The tokens before the offset can go on. What stands there is no token, or a token with which they cannot go on,
-- or it is the text's end and they give nothing.
pub record IsFaultAs (f : Form) (text : List ℕ) (offset : ℕ) : Type 0 where
  pub before : List Token
  pub left : List ℕ
  pub leads : LeadsTo (skip text) before left
  pub goes : GoesOnAs f before
  pub stuck : (t : Token) (behind : List ℕ) → token_at left ≡ Some (t, behind) → ¬ (GoesOnAs f (before ++ t ∷ []))
  pub early : left ≡ [] → (v : Given) → ¬ (SpellsAs f before v)
  pub place : offset + length left ≡ length text

-- the value that tokens are
abbrev pub value_of : ℕ → ℕ → List Class → Option Part
value_of most goal done = option_and_then (finish goal) (run_within most goal (wants []) done)

-- one more token of a value, where the machine goes on with it
abbrev pub one_more : ℕ → ℕ → List Class → Class → Option (List Class)
one_more most goal done c = option_map (λ _. done ++ c ∷ []) (run_within most goal (wants []) (done ++ c ∷ []))

-- Whether a token ends a value: it stands in none, or a whole value does not go on with it.
abbrev pub ends_class : Option Class → Bool
ends_class None = true
ends_class (Some c) = stops_at c

abbrev pub ends_value : Token → Bool
ends_value t = ends_class (class_of t)

-- what is left of a value that goes on, or else what follows it
abbrev pub gone_on : (List Class → Form) → Option Form → Option (List Class) → Option Form
gone_on go other None = other
gone_on go other (Some done) = Some (go done)

-- what is left of a form behind one token
abbrev pub after : Form → Token → Option Form
after (gives g) t = None
after (takes s k) t = option_map k (filled s t)
after (either w f g) t = cond (is_text w t) (Some f) (after g t)
after (rest_of most goal done k) t = gone_on (λ more. rest_of most goal more k) (cond (ends_value t) (option_and_then (λ v. after (k v) t) (value_of most goal done)) None) (option_and_then (one_more most goal done) (class_of t))
after (more_of item sep done k) t = cond (is_text sep t) (Some (followed item (λ g. more_of item sep (done ++ g ∷ []) k))) (after (k done) t)
after (one_of f g) t = option_or (after f t) (after g t)
after (too_deep f) t = None

-- what a form gives where the tokens end
abbrev pub given : Form → Option Given
given (gives g) = Some g
given (takes s k) = None
given (either w f g) = given g
given (rest_of most goal done k) = option_and_then (λ v. given (k v)) (value_of most goal done)
given (more_of item sep done k) = given (k done)
given (one_of f g) = given g
given (too_deep f) = None

-- how the reading of a form ends
pub data Ending : Type 0 where
  whole : Given → Ending
  -- with the bytes that are left
  stops : List ℕ → Ending

abbrev pub given_or : List ℕ → Option Given → Ending
given_or here None = stops here
given_or here (Some v) = whole v

-- where no token stands
abbrev pub ended : Form → List ℕ → Ending
ended f [] = given_or [] (given f)
ended f (b ∷ bs) = stops (b ∷ bs)

abbrev pub form_read : List ℕ → (Form → Ending) → Option Form → Ending
form_read here go None = stops here
form_read here go (Some f) = go f

abbrev pub token_read : Form → List ℕ → (Form → List ℕ → Ending) → Option (Token × List ℕ) → Ending
token_read f here go None = ended f here
token_read f here go (Some p) = form_read here (λ g. go g p.1) (after f p.0)

-- a form is read from a place on, so many tokens at most
unfoldable pub read_within : ℕ → Form → List ℕ → Ending
read_within zero f here = ended f here
read_within (suc n) f here = token_read f here (read_within n) (token_at here)

-- a form is read from a place on
unfoldable pub read_form : Form → List ℕ → Ending
read_form f here = read_within (length here) f here
