-- The law of skip.
use Rattle.std.proofs.Common.{◌≡◌, List, [], reverse, sym, subst}
use Rattle.rw_terms.specs.declared.scope.Entry.{Entry}
use Rattle.rw_terms.specs.declared.term.Formula.{Formula}
use Rattle.rw_terms.specs.State.{value_in, Fits as FitsMap}
use Rattle.rw_terms.specs.Truth.{Definition, predicates_of}
use Rattle.rw_terms.proofs.Truths.{Stable, holds_stable, predicates_stable}
use Rattle.rw_programs.specs.declared.prog.Spec.{Spec}
use Rattle.rw_programs.specs.State.{State, Holds, Within}
use Rattle.rw_programs.proofs.Frames.{within_refl}

-- a formula holds where it does not fail
pub stable : (library : List Definition) (f : Formula) (s0 s : State) → Stable (Holds library f s0 s)
stable library f s0 s =
    holds_stable (predicates_of (reverse library)) (value_in s.own) (value_in s0.own) (value_in s.own) (predicates_stable (reverse library)) f []

-- the state itself is an end of the specification where its postcondition does not fail there
pub stays : (scope : List Entry) (library : List Definition) (w : Spec) (s : State) → FitsMap scope s.own → ¬ (¬ (Holds library w.post s s))
    → (t : State) → t ≡ s → Within w.frame s t × Holds library w.post s t
stays scope library w s fits h t e =
    subst (λ t. Within w.frame s t × Holds library w.post s t) (sym e) (within_refl scope w.frame s fits, stable library w.post s s h)
