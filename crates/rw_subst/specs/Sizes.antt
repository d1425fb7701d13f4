-- Sizes, as far as a `u32` tells.
use Rattle.std.specs.Prelude.{◌≡◌, ◌<◌, ◌⊎◌, min}
use Rattle.rw_terms.specs.declared.term.Term.{Term}
use Rattle.rw_terms.specs.Size.{term_weight, term_depth}
use Rattle.rw_subst.specs.declared.error.SubstError.{SubstError}
use Rattle.rw_subst.specs.declared.error.SubstError.TheVariants.{TooLarge}
use Rattle.rw_subst.specs.declared.size.Size.{Size}

abbrev pub term_size : Term → Size
term_size t = record { weight = min (term_weight t) 4294967295; depth = min (term_depth t) 4294967295 }

-- the refusal of a size past a limit
abbrev pub IsPast : Size → SubstError → Type 0
IsPast size e = (e ≡ TooLarge size.weight) × ((1024 < size.weight) ⊎ (64 < size.depth))
