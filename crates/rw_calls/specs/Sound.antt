-- What the laws of calls and of modules promise.
use Rattle.std.specs.Prelude.{◌≡◌, ℕ, true, find, false, List, [], ◌++◌, Option, Some}
use Rattle.rw_terms.specs.declared.scope.Entry.{Entry}
use Rattle.rw_terms.specs.declared.scope.Head.{Head}
use Rattle.rw_terms.specs.declared.scope.Kind.TheVariants as kind
use Rattle.rw_terms.specs.declared.term.Term.{Term}
use Rattle.rw_terms.specs.Scopes.{has_name}
use Rattle.rw_terms.specs.WellFormed.{IsFormed}
use Rattle.rw_terms.specs.State.{Value, State as Map, Fits as FitsMap}
use Rattle.rw_terms.specs.Validity.{Each, Valid}
use Rattle.rw_faults.specs.Initial.{is_twice, initial_outside}
use Rattle.rw_programs.specs.declared.prog.Param.{Param}
use Rattle.rw_programs.specs.declared.prog.ProcCode.{ProcCode}
use Rattle.rw_programs.specs.declared.prog.ModCode.{ModCode}
use Rattle.rw_programs.specs.declared.prog.Spec.{Spec}
use Rattle.rw_programs.specs.declared.prog.Prog.{Prog}
use Rattle.rw_programs.specs.declared.prog.Prog.TheVariants as prog
use Rattle.rw_programs.specs.declared.applied.Context.{Context}
use Rattle.rw_programs.specs.declared.applied.Applied.{Applied}
use Rattle.rw_programs.specs.State.{Name, State, Fits, Holds, Within, is_in, names_of, ValuesFor}
use Rattle.rw_programs.specs.Tables.{Table, find_proc, find_module}
use Rattle.rw_programs.specs.Meaning.{MayEnd, Sure}
use Rattle.rw_meaning.specs.Filling.{fill, module_entries}
use Rattle.rw_laws.specs.Laws.{fits}
use Rattle.rw_soundness.specs.Sound.{IsReady, KidsMeet, FitsContext, FitsWith, RefinesWhere}
use Rattle.rw_heads.specs.declared.head.ProcHead.{ProcHead}
use Rattle.rw_heads.specs.declared.step.CallStep.{CallStep}
use Rattle.rw_procs.specs.Laws.{call_law}
use Rattle.rw_heads.specs.declared.head.Module.{Module}
use Rattle.rw_heads.specs.declared.head.Oper.{Oper}
use Rattle.rw_modules.specs.Heads.{entries}
use Rattle.rw_heads.specs.Heads.{find_oper}
use Rattle.rw_modules.specs.Laws.{open_law, op_law}
use Rattle.rw_simulation.specs.Coupling.{start_state}
use Rattle.rw_simulation.specs.Concrete.{IsFormedOper}

-- the scope of a procedure: its values and its results
abbrev pub proc_scope : (values results : List Param) → List Entry
proc_scope values results = entries kind.Value values ++ entries kind.Outcome results

-- A head whose parameters differ, with a precondition on its values and a postcondition on values and results, both without initial
-- variables.
pub record IsFormedHead (heads : List Head) (h : ProcHead) : Type 0 where
  pub differ : is_twice (names_of h.values ++ names_of h.results) ≡ false
  pub pre : IsFormed (entries kind.Value h.values) heads h.pre
  pub post : IsFormed (proc_scope h.values h.results) heads h.post
  pub pre_initial : initial_outside [] h.pre ≡ false
  pub post_initial : initial_outside [] h.post ≡ false

-- The table has a procedure of the name at the place, whose body, at its own place, refines the head: from each state with some number
-- of levels.
pub record EntryMeets (E : Table) (h : ProcHead) (place : ℕ) : Type 0 where
  pub entry : ProcCode
  pub found : find_proc h.name E.procs ≡ Some entry
  pub place_is : entry.place ≡ place
  pub values_are : entry.values ≡ h.values
  pub results_are : entry.results ≡ h.results
  pub meets : (s : State) → Fits (proc_scope h.values h.results) s → Holds E.library h.pre s s →
      (j : ℕ) × Sure E place j entry.body s × ((t : State) → MayEnd E place j entry.body s t → Within (names_of h.results) s t × Holds E.library h.post s t)

-- Whatever the values of the names of kind value are, and for any number of own calls: where the procedure that is called meets its head
-- by the table, and all obligations are valid, the call refines the specification at the tree's own place, at such states of the context.
abbrev pub CallsAreSoundWhere : (Table → Context → State → Type 0) → Type 0
CallsAreSoundWhere At =
    (context : Context) (heads : List Head) (w : Spec) (step : CallStep) (h : ProcHead) (place : ℕ) (a : Applied) → IsReady context.scope heads w → IsFormedHead heads h → h.name ≡ step.name →
    call_law context w step (Some (h, place)) ≡ fits a →
    (fixed : Map) (E : Table) (k : ℕ) (kids : ℕ → Prog) → EntryMeets E h place → Each (Valid E.library) a.obligations →
    RefinesWhere At fixed E context.order k context (prog.Spec w) (fill kids a.skeleton)

-- the law is sound at the states of the contexts
abbrev pub CallsAreSound : Type 0
CallsAreSound = CallsAreSoundWhere FitsContext

-- It is so beside any parts: at the states that fit the scopes and have these parts. With no parts these are all that fit the scopes.
abbrev pub CallsAreSoundBeside : Type 0
CallsAreSoundBeside = (parts : Name → Map) → CallsAreSoundWhere (FitsWith parts)

-- a module whose abstract names differ, and whose start speaks of them alone, without initial variables
pub record IsFormedStart (heads : List Head) (m : Module) : Type 0 where
  pub differ : is_twice (names_of m.state) ≡ false
  pub start : IsFormed (module_entries m.state) heads m.start
  pub initial : initial_outside [] m.start ≡ false

-- The abstract table has a module of the name at the place, whose start, at its own place, is sure from all values of the abstract
-- state, and ends in states that fit and meet the start.
pub record StartMeets (E : Table) (m : Module) (place : ℕ) : Type 0 where
  pub abstract : E.is_concrete ≡ false
  pub entry : ModCode
  pub found : find_module m.name E.modules ≡ Some entry
  pub place_is : entry.place ≡ place
  pub state_is : entry.state ≡ m.state
  pub meets : (vs : List (Option Value)) → ValuesFor m.state vs →
      (j : ℕ) × Sure E place j entry.start (start_state m.state vs)
      × ((a : State) → MayEnd E place j entry.start (start_state m.state vs) a → FitsMap (module_entries m.state) a.own × Holds E.library m.start a a)

-- Where the start of the module is met by the table, and the kid's program refines the kid's specification, the block refines the parent.
abbrev pub BlocksAreSound : Type 0
BlocksAreSound =
    (context : Context) (heads : List Head) (w : Spec) (name : Name) (m : Module) (place : ℕ) (a : Applied) → IsReady context.scope heads w → IsFormedStart heads m → m.name ≡ name →
    open_law context w name (Some (m, place)) ≡ fits a →
    (fixed : Map) (E : Table) (k : ℕ) (kids : ℕ → Prog) → StartMeets E m place → KidsMeet fixed E context.order k kids 1 a.children →
    RefinesWhere FitsContext fixed E context.order k context (prog.Spec w) (fill kids a.skeleton)

-- the scope of an abstract operation: the abstract state, its values and its results
abbrev pub op_scope : Module → Oper → List Entry
op_scope m o = module_entries m.state ++ (entries kind.Value o.values ++ entries kind.Outcome o.results)

-- The abstract table has the operation in a module of the name at the place, whose body, at its own place, refines the operation's
-- specification: from each state with some number of levels.
pub record OpMeets (E : Table) (m : Module) (o : Oper) (place : ℕ) : Type 0 where
  pub abstract : E.is_concrete ≡ false
  pub entry : ModCode
  pub found : find_module m.name E.modules ≡ Some entry
  pub place_is : entry.place ≡ place
  pub state_is : entry.state ≡ m.state
  pub proc : ProcCode
  pub found_proc : find_proc o.name entry.operations ≡ Some proc
  pub values_are : proc.values ≡ o.values
  pub results_are : proc.results ≡ o.results
  pub meets : (s : State) → Fits (op_scope m o) s → Holds E.library o.spec.pre s s →
      (j : ℕ) × Sure E place j proc.body s × ((t : State) → MayEnd E place j proc.body s t → Within o.spec.frame s t × Holds E.library o.spec.post s t)

-- Where the operation that is called is met by the table, whose abstract names are in scope, and all obligations are valid, the call
-- refines the specification at the tree's own place.
abbrev pub OperationsAreSound : Type 0
OperationsAreSound =
    (context : Context) (heads : List Head) (w : Spec) (name : Name) (args : List Term) (names : List Name) (m : Module) (o : Oper) (place : ℕ) (a : Applied) →
    IsReady context.scope heads w → IsFormedOper m o → is_twice (names_of o.results) ≡ false →
    ((x : Name) → is_in x (names_of m.state) ≡ true → find (has_name x) context.scope ≡ find (has_name x) (module_entries m.state)) → m.name ≡ name → find_oper o.name m.operations ≡ Some o →
    op_law context w name o.name args names (Some (m, place)) ≡ fits a →
    (fixed : Map) (E : Table) (k : ℕ) (kids : ℕ → Prog) → OpMeets E m o place → Each (Valid E.library) a.obligations →
    RefinesWhere FitsContext fixed E context.order k context (prog.Spec w) (fill kids a.skeleton)

-- where the law of a block fits a well-formed specification, the kid's specification is well-formed where it stands
abbrev pub BlockKidsAreReady : Type 0
BlockKidsAreReady =
    (context : Context) (heads : List Head) (w : Spec) (name : Name) (m : Module) (place : ℕ) (a : Applied) → IsReady context.scope heads w → IsFormedStart heads m → open_law context w name (Some (m, place)) ≡ fits a →
    Each (λ c. IsReady c.context.scope heads c.spec) a.children
