-- Names with their sorts.
use Rattle.std.specs.Prelude.{ℕ, Bool, List, bytes_eq}
use Rattle.rw_terms.specs.declared.term.Sort.{Sort}

-- a name with its sort
abbrev pub Named : Type 0
Named = List ℕ × Sort

abbrev pub is_named : List ℕ → Named → Bool
is_named x named = bytes_eq named.0 x
