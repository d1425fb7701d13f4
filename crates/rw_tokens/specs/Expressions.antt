-- What a text spells as a term or a formula, and where its fault is.
use Rattle.std.specs.Prelude.{◌≡◌, ℕ, ◌+◌, List, [], ◌∷◌, ◌++◌, length, Some}
use Rattle.rw_syntax.specs.declared.token.Token.{Token as Class}
use Rattle.rw_syntax.specs.declared.frame.Part.{Part}
use Rattle.rw_syntax.specs.Spelling.{Spells, CanGoOn}
use Rattle.rw_tokens.specs.Tokens.{Token, skip, token_at, LeadsTo}
use Rattle.rw_tokens.specs.Classes.{AreClasses}

-- tokens spell a value of a level, 1 for formulas and 6 for terms, with a nest within 512
abbrev pub TokensSpell : ℕ → List Token → Part → Type 0
TokensSpell goal ts v = (cs : List Class) × AreClasses ts cs × Spells 512 goal cs v

-- some tokens that begin with these spell a value, with a nest within 512 at these
abbrev pub TokensGoOn : ℕ → List Token → Type 0
TokensGoOn goal ts = (cs : List Class) × AreClasses ts cs × CanGoOn 512 goal cs

-- a text's tokens spell a value
abbrev pub TextSpells : ℕ → List ℕ → Part → Type 0
TextSpells goal line v = (ts : List Token) × LeadsTo (skip line) ts [] × TokensSpell goal ts v

-- The tokens before the offset can go on. What stands there is no token, or a token with which they cannot go on,
-- or it is the text's end and they spell no value.
pub record IsFaultOf (goal : ℕ) (line : List ℕ) (offset : ℕ) : Type 0 where
  pub before : List Token
  pub left : List ℕ
  pub leads : LeadsTo (skip line) before left
  pub goes : TokensGoOn goal before
  pub stuck : (t : Token) (behind : List ℕ) → token_at left ≡ Some (t, behind) → ¬ (TokensGoOn goal (before ++ t ∷ []))
  pub early : left ≡ [] → (v : Part) → ¬ (TokensSpell goal before v)
  pub place : offset + length left ≡ length line
