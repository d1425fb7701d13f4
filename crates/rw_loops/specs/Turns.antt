-- The turns of a loop.
use Rattle.std.specs.Prelude.{◌≡◌, ℕ, ◌≤◌, List, []}
use Rattle.rw_terms.specs.declared.term.Term.{Term}
use Rattle.rw_terms.specs.declared.term.Formula.{Formula}
use Rattle.rw_terms.specs.declared.scope.Head.{Head}
use Rattle.rw_terms.specs.State.{whole, State as Map}
use Rattle.rw_terms.specs.Value.{value}
use Rattle.rw_programs.specs.declared.prog.Prog.{Prog, Do'}
use Rattle.rw_programs.specs.declared.prog.Spec.{Spec}
use Rattle.rw_programs.specs.declared.applied.Context.{Context}
use Rattle.rw_programs.specs.declared.applied.Applied.{Applied}
use Rattle.rw_programs.specs.State.{Name, State, Holds}
use Rattle.rw_programs.specs.Tables.{Table}
use Rattle.rw_programs.specs.Meaning.{bodies, bodies_before, arm_ends, Chain, at_least_0}
use Rattle.rw_programs.specs.Refine.{HasValues}
use Rattle.rw_meaning.specs.Filling.{fill}
use Rattle.rw_laws.specs.Laws.{fits}
use Rattle.rw_loops.specs.declared.step.LoopStep.TheVariants as step
use Rattle.rw_loops.specs.Laws.{law_of}
use Rattle.rw_soundness.specs.Sound.{IsReady, FitsContext, FitsWith, KidsMeetWhere}

-- so many turns of a loop lead from s to t
abbrev pub Turns : Table → (p k : ℕ) → Prog → ℕ → State → State → Type 0
Turns E p k (Do' variant shape arms) n s t = Chain (arm_ends E (bodies E p k) (bodies_before E p) arms) n s t
Turns E p k _ n s t = ⊥

-- Take a loop each of whose bodies refines its kid's specification at such states of its context. From such a state of the loop's context
-- that meets the invariant no chain has more turns than the larger of 0 and the value of the variant there.
abbrev pub TurnsWithinWhere : (Table → Context → State → Type 0) → Type 0
TurnsWithinWhere At =
    (context : Context) (heads : List Head) (w : Spec) (v : Term) (guards : List Formula) (a : Applied) → IsReady context.scope heads w → law_of context heads w (step.Do v guards) ≡ fits a →
    (fixed : Map) (E : Table) (p k : ℕ) (ks : ℕ → Prog) → KidsMeetWhere At fixed E p k ks 1 a.children →
    (s t : State) (n : ℕ) → At E context s → HasValues context.scope fixed s → Holds E.library w.pre s s →
    Turns E p k (fill ks a.skeleton) n s t → n ≤ at_least_0 (whole (value s.own s.own [] v))

-- so it is at the states of the contexts
abbrev pub TurnsWithinVariant : Type 0
TurnsWithinVariant = TurnsWithinWhere FitsContext

-- and beside any parts: at the states that fit the scopes and have these parts
abbrev pub TurnsWithinVariantBeside : Type 0
TurnsWithinVariantBeside = (parts : Name → Map) → TurnsWithinWhere (FitsWith parts)
