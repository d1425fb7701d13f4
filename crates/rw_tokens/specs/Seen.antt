-- The tokens that the code's tokens are.
use Rattle.std.specs.Prelude.{ℕ}
use Rattle.rw_tokens.specs.declared.token.Token.{Token as Found}
use Rattle.rw_tokens.specs.declared.token.Token.TheVariants as found
use Rattle.rw_tokens.specs.Tokens.{Token, text, number, binder}

abbrev pub seen : Found → Token
seen (found.Text bytes) = text bytes.now
seen (found.Number n) = number n
seen (found.Binder n) = binder n

abbrev pub seen_sized : Found × ℕ → Token × ℕ
seen_sized p = (seen p.0, p.1)
