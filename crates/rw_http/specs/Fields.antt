-- What the fields of a head say of the body's length.
use Rattle.std.specs.Prelude.{ℕ, Bool, ◌&&◌, nat_eq, nat_lt, min, List, [], ◌∷◌, length, map, Option, Some, None, option_map, if◌then◌else◌, codes}
use Rattle.std.specs.List.{list_all}
use Rattle.std.specs.Char.{is_ascii_digit, to_ascii_lowercase}
use Rattle.std.specs.Cmp.Lexicographic.{pointwise}
use Rattle.std.specs.Str.Parse.{digits_value}

-- the name and the value of a field
abbrev pub NameAndValue : Type 0
NameAndValue = List ℕ × List ℕ

-- the field has this name, which is written in lower case, without regard to case
unfoldable pub is_named : List ℕ → NameAndValue → Bool
is_named name field = pointwise nat_eq (map to_ascii_lowercase field.0) name

-- the values of the fields of that name, in order
abbrev pub values_of : List ℕ → List NameAndValue → List (List ℕ)
values_of name [] = []
values_of name (field ∷ fields) = if is_named name field then field.1 ∷ values_of name fields else values_of name fields

-- one or more digits
abbrev pub is_decimal : List ℕ → Bool
is_decimal text = nat_lt 0 (length text) && list_all is_ascii_digit text

-- the number that the text writes, if it is a decimal number
unfoldable pub decimal_number : List ℕ → Option ℕ
decimal_number text = if is_decimal text then Some (digits_value 10 text) else None

-- the length that the values of Content-Length give: 0 where there is no value, and none where it stands twice or is no decimal number
abbrev pub length_said : List (List ℕ) → Option ℕ
length_said [] = Some 0
length_said (value ∷ []) = decimal_number value
length_said (value ∷ second ∷ others) = None

-- the body's length, where no value of Transfer-Encoding is there
abbrev pub length_unless : List (List ℕ) → List (List ℕ) → Option ℕ
length_unless [] lengths = length_said lengths
length_unless (coding ∷ others) lengths = None

-- the length of the body that these fields give; none where a head with them is refused
unfoldable pub body_length : List NameAndValue → Option ℕ
body_length fields = length_unless (values_of (codes "transfer-encoding") fields) (values_of (codes "content-length") fields)

-- the same up to 65,537, which stands for all greater numbers
abbrev pub up_to_limit : Option ℕ → Option ℕ
up_to_limit said = option_map (λ n. min n 65537) said
