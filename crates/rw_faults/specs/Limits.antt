-- The limits of one formula, as tests.
use Rattle.std.specs.Prelude.{Bool, ◌&&◌, nat_le}
use Rattle.rw_terms.specs.declared.term.Formula.{Formula}
use Rattle.rw_terms.specs.Size.{formula_weight, formula_depth}

-- at most 1024 parts
abbrev pub is_light : Formula → Bool
is_light f = nat_le (formula_weight f) 1024

-- at most 64 parts on the longest path
abbrev pub is_shallow : Formula → Bool
is_shallow f = nat_le (formula_depth f) 64

-- within both limits
abbrev pub is_small : Formula → Bool
is_small f = is_light f && is_shallow f
