-- The number of parts of a goal, and the limit of a premise.
use Rattle.std.specs.Prelude.{ℕ, ◌+◌, ltb, Bool, List, map, sum}
use Rattle.rw_terms.specs.declared.term.Formula.{Formula}
use Rattle.rw_terms.specs.declared.sequent.Sequent.{Sequent}
use Rattle.rw_terms.specs.Size.{formula_weight}

-- the parts of all formulas
abbrev pub formulas_weight : List Formula → ℕ
formulas_weight fs = sum (map formula_weight fs)

-- the parts of a goal
abbrev pub weight : Sequent → ℕ
weight q = formulas_weight q.left + formulas_weight q.right

-- a premise has at most 8192 parts
abbrev pub is_heavy : Sequent → Bool
is_heavy q = ltb 8192 (weight q)
