-- The number of parts of a premise.
use Rattle.std.proofs.Common.{◌≡◌, ◌+◌, List, ◌++◌, sum_by, sym, ◌∙◌, ap}
use Rattle.std.proofs.lemmas.List.Sums.{sum-map, sum_by-append}
use Rattle.rw_terms.specs.declared.term.Formula.{Formula}
use Rattle.rw_terms.specs.Size.{formula_weight}
use Rattle.rw_goals.specs.Weight.{formulas_weight}

pub weight_append : (fs gs : List Formula) → formulas_weight (fs ++ gs) ≡ formulas_weight fs + formulas_weight gs
weight_append fs gs =
    sum-map formula_weight (fs ++ gs)
    ∙ sum_by-append formula_weight fs gs
    ∙ sym (ap (λ n. n + formulas_weight gs) (sum-map formula_weight fs) ∙ ap (λ n. sum_by formula_weight fs + n) (sum-map formula_weight gs))
