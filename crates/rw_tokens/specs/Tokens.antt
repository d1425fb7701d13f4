-- The tokens of a line.
use Rattle.std.specs.Prelude.{◌≡◌, ℕ, ◌+◌, ◌-◌, ◌*◌, Bool, false, ◌||◌, cond, leb, eqb, List, [], ◌∷◌, take, drop, Option, Some, None, option_map, codes, bytes_eq}
use Rattle.std.specs.List.{prefix_len, list_any}
use Rattle.rw_terms.specs.Names.{is_letter, is_digit, goes_on}

pub data Token : Type 0 where
  -- a word or a symbol, by its bytes
  text : List ℕ → Token
  number : ℕ → Token
  -- a binder's name that is `_` and this number
  binder : ℕ → Token

-- space, tab and CR
abbrev pub is_blank : ℕ → Bool
is_blank b = eqb b 32 || eqb b 9 || eqb b 13

-- the bytes behind the white space at the front
unfoldable pub skip : List ℕ → List ℕ
skip bytes = drop (prefix_len is_blank bytes) bytes

-- the number that digits write behind the digits of a number
unfoldable pub value : ℕ → List ℕ → ℕ
value n [] = n
value n (b ∷ bs) = value (n * 10 + (b - 48)) bs

-- whether a 0 stands before other digits
abbrev pub leads_with_0 : List ℕ → Bool
leads_with_0 [] = false
leads_with_0 (b ∷ []) = false
leads_with_0 (b ∷ c ∷ bs) = eqb b 48

-- the number that digits are, without a leading zero and at most 2 ^ 127 - 1
unfoldable pub number_of : List ℕ → Option ℕ
number_of digits = cond (leads_with_0 digits) None (cond (leb (value 0 digits) 170141183460469231731687303715884105727) (Some (value 0 digits)) None)

-- the symbols of two bytes
unfoldable pub doubles : List (List ℕ)
doubles = codes ":=" ∷ codes "<=" ∷ codes ">=" ∷ codes "<>" ∷ codes "=>" ∷ codes "|-" ∷ codes "|[" ∷ codes "]|" ∷ codes "[]" ∷ codes "->" ∷ []

-- the symbols of one byte
unfoldable pub singles : List (List ℕ)
singles = codes "+" ∷ codes "-" ∷ codes "*" ∷ codes "/" ∷ codes "=" ∷ codes "<" ∷ codes ">" ∷ codes "(" ∷ codes ")" ∷ codes "[" ∷ codes "]" ∷ codes "{" ∷ codes "}" ∷ codes "," ∷ codes ";" ∷ codes ":" ∷ codes "." ∷ codes "|" ∷ []

-- whether a text is one of these
abbrev pub is_among : List (List ℕ) → List ℕ → Bool
is_among texts bytes = list_any (bytes_eq bytes) texts

abbrev pub text_of : ℕ → List ℕ → Option (Token × ℕ)
text_of n bytes = Some (text (take n bytes), n)

-- a word is a letter with the letters, digits and `_` behind it
abbrev pub word_of : List ℕ → Option (Token × ℕ)
word_of bytes = text_of (prefix_len goes_on bytes) bytes

-- all digits that stand together are one number or no token
abbrev pub digits_of : List ℕ → Option (Token × ℕ)
digits_of bytes = option_map (λ n. (number n, prefix_len is_digit bytes)) (number_of (take (prefix_len is_digit bytes) bytes))

abbrev pub from_1 : ℕ → Option ℕ → Option (Token × ℕ)
from_1 k None = None
from_1 k (Some n) = cond (leb 1 n) (Some (binder n, k + 1)) None

-- `_` with the digits of a number from 1 directly behind it, which are given
abbrev pub binder_of : List ℕ → Option (Token × ℕ)
binder_of bytes = from_1 (prefix_len is_digit bytes) (number_of (take (prefix_len is_digit bytes) bytes))

-- the longest symbol
abbrev pub symbol_of : List ℕ → Option (Token × ℕ)
symbol_of bytes = cond (is_among doubles (take 2 bytes)) (text_of 2 bytes) (cond (is_among singles (take 1 bytes)) (text_of 1 bytes) None)

-- the token at the front, by the first byte, and how many bytes it has
unfoldable pub front_token : List ℕ → Option (Token × ℕ)
front_token [] = None
front_token (b ∷ bs) = cond (is_letter b) (word_of (b ∷ bs)) (cond (is_digit b) (digits_of (b ∷ bs)) (cond (eqb b 95) (binder_of bs) (symbol_of (b ∷ bs))))

-- a token of some bytes, and the bytes from the next one on
abbrev pub with_next : List ℕ → Token × ℕ → Token × List ℕ
with_next bytes p = (p.0, skip (drop p.1 bytes))

-- the token at the front, and the bytes from the next one on
unfoldable pub token_at : List ℕ → Option (Token × List ℕ)
token_at bytes = option_map (with_next bytes) (front_token bytes)

-- these tokens stand between two places
abbrev pub LeadsTo : List ℕ → List Token → List ℕ → Type 0
LeadsTo here [] there = here ≡ there
LeadsTo here (t ∷ ts) there = (behind : List ℕ) × (token_at here ≡ Some (t, behind)) × LeadsTo behind ts there
