-- The bytes of a text.
use Rattle.std.specs.Prelude.{ℕ, Bool, leb, List}
use Rattle.std.specs.List.{list_all}

-- a byte below 128
abbrev pub is_ascii_byte : ℕ → Bool
is_ascii_byte b = leb b 127

-- each byte is ASCII
abbrev pub is_ascii : List ℕ → Bool
is_ascii = list_all is_ascii_byte
