-- The size of a formula.
use Rattle.std.specs.Prelude.{min}
use Rattle.rw_terms.specs.declared.term.Formula.{Formula}
use Rattle.rw_terms.specs.Size.{formula_weight, formula_depth}
use Rattle.rw_modules.specs.declared.sizes.Size.{Size}

-- its weight and its depth, as far as a `u32` tells
abbrev pub size_of : Formula → Size
size_of f = record { weight = min (formula_weight f) 4294967295; depth = min (formula_depth f) 4294967295 }
