-- What evaluation is to the values of terms and the truth of guards.
use Rattle.std.specs.Prelude.{◌≡◌, Bool, true, false, List, [], Result, Ok, Err}
use Rattle.rw_terms.specs.declared.term.Term.{Term}
use Rattle.rw_terms.specs.declared.term.Formula.{Formula}
use Rattle.rw_terms.specs.State.{Value, State as Map}
use Rattle.rw_terms.specs.Value.{value}
use Rattle.rw_terms.specs.Truth.{Definition, holds}
use Rattle.rw_terms.specs.Defined.{Defined, GuardDefined}
use Rattle.rw_programs.specs.CodeTest.{is_guard}
use Rattle.rw_evaluation.specs.declared.stop.Stop.{Stop}
use Rattle.rw_evaluation.specs.declared.stop.Stop.TheVariants.{TooWide}
use Rattle.rw_evaluation.specs.Evaluation.{Seen, seen, tested}

-- what was seen is the value, or, where D holds, only the width stops it
abbrev pub Right : Seen → Value → Type 0 → Type 0
Right (Ok v) w D = v ≡ w
Right (Err e) w D = D → e ≡ TooWide

-- what was tested is whether H holds, or, where D holds, only the width stops it
abbrev pub TestRight : Result Bool Stop → Type 0 → Type 0 → Type 0
TestRight (Ok true) H D = H
TestRight (Ok false) H D = ¬ H
TestRight (Err e) H D = D → e ≡ TooWide

-- what comes of a term is its value, or, where the term is defined, only the width stops it
abbrev pub TermsHaveTheirValues : Type 0
TermsHaveTheirValues = (s : Map) (t : Term) → Right (seen s t) (value s s [] t) (Defined s s t)

-- what comes of a guard is whether it holds, or, where the guard is defined, only the width stops it
abbrev pub GuardsAreTested : Type 0
GuardsAreTested = (library : List Definition) (s : Map) (g : Formula) → is_guard g ≡ true → TestRight (tested s g) (holds library g s s []) (GuardDefined s s g)
