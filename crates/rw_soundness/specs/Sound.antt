-- What the basic laws promise: where the obligations are valid and the kids' programs refine the kids' specifications, the filled
-- skeleton refines the parent.
use Rattle.std.specs.Prelude.{◌≡◌, ℕ, suc, true, false, is_some, List, [], ◌∷◌}
use Rattle.rw_terms.specs.declared.scope.Entry.{Entry}
use Rattle.rw_terms.specs.declared.scope.Head.{Head}
use Rattle.rw_terms.specs.Sorts.{variable_sort}
use Rattle.rw_terms.specs.State.{State as Map, Fits as FitsMap}
use Rattle.rw_terms.specs.WellFormed.{IsFormed}
use Rattle.rw_terms.specs.Validity.{Each, Valid}
use Rattle.rw_faults.specs.Initial.{is_twice, initial_outside}
use Rattle.rw_programs.specs.declared.prog.Spec.{Spec}
use Rattle.rw_programs.specs.declared.prog.Prog.{Prog}
use Rattle.rw_programs.specs.declared.prog.Prog.TheVariants as prog
use Rattle.rw_programs.specs.declared.applied.Context.{Context}
use Rattle.rw_programs.specs.declared.applied.Child.{Child}
use Rattle.rw_programs.specs.declared.applied.Applied.{Applied}
use Rattle.rw_programs.specs.State.{Name, State, is_in}
use Rattle.rw_programs.specs.Tables.{Table}
use Rattle.rw_programs.specs.Refine.{is_value, HasValues, BetterAt}
use Rattle.rw_meaning.specs.Filling.{fill, FitsIn}
use Rattle.rw_laws.specs.declared.step.BasicStep.{BasicStep}
use Rattle.rw_laws.specs.Laws.{fits, law_of}

-- A specification that is well-formed in a scope: the frame's names differ, are variables, and are not of kind value; no initial
-- variable stands in the precondition, and in the postcondition only those of the frame.
pub record IsReady (scope : List Entry) (heads : List Head) (w : Spec) : Type 0 where
  pub pre : IsFormed scope heads w.pre
  pub post : IsFormed scope heads w.post
  pub variables : (x : Name) → is_in x w.frame ≡ true → is_some (variable_sort scope x) ≡ true
  pub no_values : (x : Name) → is_in x w.frame ≡ true → is_value scope x ≡ false
  pub differ : is_twice w.frame ≡ false
  pub no_initial : initial_outside [] w.pre ≡ false
  pub initial : initial_outside w.frame w.post ≡ false

-- s is a state of the context: it fits the scope and holds a part for each opened module
abbrev pub FitsContext : Table → Context → State → Type 0
FitsContext E context s = FitsIn E context.opened context.scope s

-- s fits the context's scope and has these parts, whatever modules are opened
abbrev pub FitsWith : (Name → Map) → Table → Context → State → Type 0
FitsWith parts E context s = FitsMap context.scope s.own × (s.part ≡ parts)

module _ (At : Table → Context → State → Type 0) where
  -- d refines c at such states of the context, with these values of the names of kind value
  abbrev pub RefinesWhere : Map → Table → (p k : ℕ) → Context → Prog → Prog → Type 0
  RefinesWhere fixed E p k context c d = (s : State) → At E context s → HasValues context.scope fixed s → BetterAt E p k c E p k d s

  -- each kid's program, from a number on, refines the kid's specification there
  abbrev pub KidsMeetWhere : Map → Table → (p k : ℕ) → (ℕ → Prog) → ℕ → List Child → Type 0
  KidsMeetWhere fixed E p k kids n [] = Unit {0}
  KidsMeetWhere fixed E p k kids n (c ∷ more) = RefinesWhere fixed E p k c.context (prog.Spec c.spec) (kids n) × KidsMeetWhere fixed E p k kids (suc n) more

  -- For any table and place, any number of own calls, and any programs of the kids: where all obligations are valid and the kids'
  -- programs refine their specifications there, the filled skeleton refines the parent there.
  abbrev pub IsSoundWhere : Context → Spec → Applied → Type 0
  IsSoundWhere context w a =
      (fixed : Map) (E : Table) (p k : ℕ) (kids : ℕ → Prog) → Each (Valid E.library) a.obligations → KidsMeetWhere fixed E p k kids 1 a.children →
      RefinesWhere fixed E p k context (prog.Spec w) (fill kids a.skeleton)

  -- what each law makes of a well-formed specification that it fits is sound
  abbrev pub LawsAreSoundWhere : Type 0
  LawsAreSoundWhere =
      (context : Context) (heads : List Head) (w : Spec) (s : BasicStep) (a : Applied) → IsReady context.scope heads w → law_of context heads w s ≡ fits a →
      IsSoundWhere context w a

-- each kid's program, from a number on, refines the kid's specification in the kid's context
abbrev pub KidsMeet : Map → Table → (p k : ℕ) → (ℕ → Prog) → ℕ → List Child → Type 0
KidsMeet fixed E p k kids n children = KidsMeetWhere FitsContext fixed E p k kids n children

-- the laws are sound at the states of the contexts
abbrev pub LawsAreSound : Type 0
LawsAreSound = LawsAreSoundWhere FitsContext

-- They are so beside any parts: at the states that fit the scopes and have these parts. With no parts these are all that fit the scopes.
abbrev pub LawsAreSoundBeside : Type 0
LawsAreSoundBeside = (parts : Name → Map) → LawsAreSoundWhere (FitsWith parts)

-- where the law of a step fits a well-formed specification, the kids' specifications are well-formed where they stand
abbrev pub KidsAreReady : Type 0
KidsAreReady =
    (context : Context) (heads : List Head) (w : Spec) (s : BasicStep) (a : Applied) → IsReady context.scope heads w → law_of context heads w s ≡ fits a →
    Each (λ c. IsReady c.context.scope heads c.spec) a.children
