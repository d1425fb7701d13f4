-- Guards, and where definedness is said of terms and guards.
use Rattle.std.specs.Prelude.{Bool, true, false, ◌&&◌, ◌↔◌, List, [], IsTrue}
use Rattle.rw_terms.specs.declared.term.Sort.{Sort}
use Rattle.rw_terms.specs.declared.term.Term.{Term}
use Rattle.rw_terms.specs.declared.term.Formula.{Formula}
use Rattle.rw_terms.specs.declared.term.Formula.TheOpen.{Formula-F}
use Rattle.rw_terms.specs.declared.term.Formula.TheFolds.{fold-Formula}
use Rattle.rw_terms.specs.declared.scope.Entry.{Entry}
use Rattle.rw_terms.specs.declared.scope.Head.{Head}
use Rattle.rw_terms.specs.State.{State, Fits}
use Rattle.rw_terms.specs.Truth.{Definition, holds}
use Rattle.rw_terms.specs.Sorted.{IsOfSort}
use Rattle.rw_terms.specs.WellFormed.{IsFormed}
use Rattle.rw_terms.specs.Defined.{Defined, GuardDefined}
use Rattle.rw_subst.specs.Definedness.{definedness, guard_definedness}

-- a guard has no quantifier and no predicate
abbrev pub guard_step : Formula-F Bool → Bool
guard_step Formula-F.True = true
guard_step Formula-F.False = true
guard_step (Formula-F.Eq _ _) = true
guard_step (Formula-F.Less _ _) = true
guard_step (Formula-F.AtMost _ _) = true
guard_step (Formula-F.Not f) = f
guard_step (Formula-F.And f g) = f && g
guard_step (Formula-F.Or f g) = f && g
guard_step (Formula-F.Imp f g) = f && g
guard_step (Formula-F.All _ _) = false
guard_step (Formula-F.Any _ _) = false
guard_step (Formula-F.App _ _) = false

abbrev pub is_guard : Formula → Bool
is_guard = fold-Formula Bool guard_step

-- In all states that fit the scope, the formula holds exactly where the term is defined.
abbrev pub DefinednessOfTerms : Type 0
DefinednessOfTerms =
    (scope : List Entry) (t : Term) (sort : Sort) → IsOfSort scope [] t sort → (library : List Definition) (s0 s : State) → Fits scope s0 → Fits scope s →
    holds library (definedness scope t) s0 s [] ↔ Defined s0 s t

abbrev pub DefinednessOfGuards : Type 0
DefinednessOfGuards =
    (scope : List Entry) (heads : List Head) (g : Formula) → IsFormed scope heads g → IsTrue (is_guard g) →
    (library : List Definition) (s0 s : State) → Fits scope s0 → Fits scope s → holds library (guard_definedness scope g) s0 s [] ↔ GuardDefined s0 s g
