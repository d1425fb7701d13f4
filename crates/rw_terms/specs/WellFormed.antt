-- When a formula is well formed, and how it is refused.
use Rattle.std.specs.Prelude.{◌≡◌, ◌⊎◌, ◌<◌, ◌≤◌, min, IsTrue, List, [], Some}
use Rattle.rw_terms.specs.declared.error.TermError.{TermError}
use Rattle.rw_terms.specs.declared.error.TermError.TheVariants.{TooLarge, Memory}
use Rattle.rw_terms.specs.declared.term.Formula.{Formula}
use Rattle.rw_terms.specs.declared.scope.Entry.{Entry}
use Rattle.rw_terms.specs.declared.scope.Head.{Head}
use Rattle.rw_terms.specs.Size.{formula_weight, formula_depth}
use Rattle.rw_terms.specs.Formed.{formula_report}
use Rattle.rw_terms.specs.Rules.{keeps_rules}

-- the limits
abbrev pub IsSmallFormula : Formula → Type 0
IsSmallFormula f = (formula_weight f ≤ 1024) × (formula_depth f ≤ 64)

abbrev pub IsLargeFormula : Formula → Type 0
IsLargeFormula f = (1024 < formula_weight f) ⊎ (64 < formula_depth f)

-- the formula is within the limits and keeps the rules
abbrev pub IsFormed : List Entry → List Head → Formula → Type 0
IsFormed scope heads f = IsSmallFormula f × IsTrue (keeps_rules scope heads f [])

-- want of memory, or a limit, or else the first fault
abbrev pub IsFormedRefusal : List Entry → List Head → Formula → TermError → Type 0
IsFormedRefusal scope heads f e =
    (e ≡ Memory)
    ⊎ (IsLargeFormula f × (e ≡ TooLarge (min (formula_weight f) 4294967295)))
    ⊎ (IsSmallFormula f × ((formula_report scope heads f).fault [] 1 ≡ Some e))
