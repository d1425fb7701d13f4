-- What it is for the laws to be sound.
use Rattle.std.specs.Prelude.{◌≡◌, List}
use Rattle.rw_terms.specs.declared.scope.Head.{Head}
use Rattle.rw_terms.specs.State.{State as Map}
use Rattle.rw_terms.specs.Validity.{Each}
use Rattle.rw_programs.specs.declared.prog.Spec.{Spec}
use Rattle.rw_programs.specs.declared.applied.Context.{Context}
use Rattle.rw_programs.specs.declared.applied.Applied.{Applied}
use Rattle.rw_programs.specs.State.{Name, State}
use Rattle.rw_programs.specs.Tables.{Table}
use Rattle.rw_laws.specs.Laws.{fits}
use Rattle.rw_soundness.specs.Sound.{IsReady, FitsContext, FitsWith, IsSoundWhere}
use Rattle.rw_loops.specs.declared.step.LoopStep.{LoopStep}
use Rattle.rw_loops.specs.Laws.{law_of}

-- Each law is sound at such states of the contexts: where all obligations are valid and what is put for each kid refines its
-- specification there, the filled skeleton refines the parent there.
abbrev pub LawsAreSoundWhere : (Table → Context → State → Type 0) → Type 0
LawsAreSoundWhere At =
    (context : Context) (heads : List Head) (w : Spec) (step : LoopStep) (a : Applied) → IsReady context.scope heads w → law_of context heads w step ≡ fits a → IsSoundWhere At context w a

-- the laws are sound at the states of the contexts
abbrev pub LawsAreSound : Type 0
LawsAreSound = LawsAreSoundWhere FitsContext

-- They are so beside any parts: at the states that fit the scopes and have these parts. With no parts these are all that fit the scopes.
abbrev pub LawsAreSoundBeside : Type 0
LawsAreSoundBeside = (parts : Name → Map) → LawsAreSoundWhere (FitsWith parts)

-- where the law of a step fits a well-formed specification, the kids' specifications are well-formed where they stand
abbrev pub KidsAreReady : Type 0
KidsAreReady =
    (context : Context) (heads : List Head) (w : Spec) (step : LoopStep) (a : Applied) → IsReady context.scope heads w → law_of context heads w step ≡ fits a →
    Each (λ c. IsReady c.context.scope heads c.spec) a.children
